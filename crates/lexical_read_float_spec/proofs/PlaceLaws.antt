-- A text that is read is the text of the shape found; and where reading is stuck, the place is the first whose byte no text has there. Assumes nothing.
use Prim.Native.Nat.{ℕ, ◌+◌, ◌-◌, ◌≤◌, ◌<◌}
use mathlib.Core.Path.{◌≡◌, refl, sym, ap, ◌∙◌, subst}
use mathlib.Core.Bool.{Bool, true, false, cond}
use mathlib.Core.List.{List, [], ◌∷◌, ◌++◌, map, append_assoc, append-nil}
use Rattle.std.specs.Prelude.{Option, None, Some as Digit}
use native.Mathlib.Omega.{arith}
use native.Mathlib.Nat.{lt_of_lt_of_le}
use borrow.Author.Tests.{eqb-true, eq-eqb}
use lib.Dec.{eqb}
use lib.ListN.{length, take, drop, length-append, take-append-drop}
use lib.Seq.{take-append-le, take_at}
use Rattle.lexical_util.specs.Digit.{digit_byte, digit_in, AreDigits}
use Rattle.lexical_util.proofs.DigitLaws.{in_digit}
use Rattle.lexical_float.specs.Sign.{minus_sign}
use Rattle.lexical_read_float_spec.specs.Shape.{Grammar, Sign, unsigned, plus, minus, Tail, absent, exponent, Shape, sign_bytes, tail_bytes, fraction_bytes, print, Some, TailFits, FractionFits, WellFormed, WellShaped, Begins}
use Rattle.lexical_read_float_spec.specs.Parse.{Run, run, Parsed, found, stuck, map_parsed, all_digits, exponent_digits, signed_exponent, parse_tail, with_tail, after_point, after_whole, one_or_more, parse_unsigned, with_sign, parse, WrongAt}
use Rattle.lexical_read_float_spec.proofs.RunLaws.{Head, Ends, IsRun, is_run, run_stops, run_digits, run_all}
use Rattle.lexical_read_float_spec.proofs.ParseLaws.{Apart, byte_no_sign, no_sign, no_point, unsigned_bytes, formed_signed, parse_print}

abbrev pub IsFound : {A : Type 0} → Parsed A → Type 0
IsFound (found a) = Unit {0}
IsFound (stuck left) = ⊥

-- Reading t by P is stuck before `left`: something begins with what stands in front and is read; and with the byte where it is stuck, whatever follows, it is stuck there.
pub record Stuck {A : Type 0} (P : List ℕ → Parsed A) (t left : List ℕ) : Type 0 where
  pub start : List ℕ
  pub splits : start ++ left ≡ t
  pub rest : List ℕ
  pub continues : IsFound (P (start ++ rest))
  pub stays : (x : ℕ) (xs ys : List ℕ) → left ≡ x ∷ xs → P (start ++ (x ∷ ys)) ≡ stuck (x ∷ ys)

-- ---- how it passes from one reader to the next
-- a byte in front
in_front : {A : Type 0} (P Q : List ℕ → Parsed A) (x : ℕ) (t left : List ℕ) → ((u : List ℕ) → Q (x ∷ u) ≡ P u) → Stuck P t left → Stuck Q (x ∷ t) left
in_front P Q x t left same w = record {
  start = x ∷ w.start;
  splits = ap {B = List ℕ} (λ l. x ∷ l) w.splits;
  rest = w.rest;
  continues = subst IsFound (sym (same (w.start ++ w.rest))) w.continues;
  stays = λ y ys zs e. same (w.start ++ (y ∷ zs)) ∙ w.stays y ys zs e;
}

-- what is made of what was found
mapped_found : {A B : Type 0} (f : A → B) (p : Parsed A) → IsFound p → IsFound (map_parsed f p)
mapped_found f (found a) h = tt
mapped_found f (stuck left) h = h

mapped : {A B : Type 0} (f : A → B) (P : List ℕ → Parsed A) (t left : List ℕ) → Stuck P t left → Stuck (λ u. map_parsed f (P u)) t left
mapped f P t left w = record {
  start = w.start;
  splits = w.splits;
  rest = w.rest;
  continues = mapped_found f (P (w.start ++ w.rest)) w.continues;
  stays = λ x xs ys e. ap (map_parsed f) (w.stays x xs ys e);
}

-- the first byte stays when what follows the stuck byte is changed
same_head : (First : ℕ → Type 0) (start : List ℕ) (x : ℕ) (xs ys t : List ℕ) → start ++ (x ∷ xs) ≡ t → Head First t → Head First (start ++ (x ∷ ys))
same_head First [] x xs ys t e h = subst (Head First) (sym e) h
same_head First (y ∷ start) x xs ys t e h = subst (Head First) (sym e) h

-- another reader that agrees on the texts with such a first byte
agreeing : {A : Type 0} (First : ℕ → Type 0) (P Q : List ℕ → Parsed A) (t left : List ℕ) → ((u : List ℕ) → Head First u → Q u ≡ P u) → ((u : List ℕ) → IsFound (P u) → Head First u)
    → Head First t → Stuck P t left → Stuck Q t left
agreeing First P Q t left same head h w = record {
  start = w.start;
  splits = w.splits;
  rest = w.rest;
  continues = subst IsFound (sym (same (w.start ++ w.rest) (head (w.start ++ w.rest) w.continues))) w.continues;
  stays = λ x xs ys e.
      same (w.start ++ (x ∷ ys)) (same_head First w.start x xs ys t (ap (λ (l : List ℕ). w.start ++ l) (sym e) ∙ w.splits) h)
      ∙ w.stays x xs ys e;
}

-- digits in front
module _ {A : Type 0} (radix : ℕ) (small : radix ≤ 32) (Q : List ℕ → List ℕ → Parsed A) where
  abbrev pub after_run : List ℕ → Parsed A
  after_run u = Q (run radix u).got (run radix u).left

  after_run_lem : (t left : List ℕ) (r : Run) → IsRun radix t r → ((g u : List ℕ) → IsFound (Q g u) → Ends radix u) → Stuck (Q r.got) r.left left → Stuck after_run t left
  after_run_lem t left r is ends w =
      let front = map digit_byte r.got in
      let read : (u : List ℕ) → Ends radix u → after_run (front ++ u) ≡ Q r.got u = λ u e. ap (λ (k : Run). Q k.got k.left) (run_digits radix r.got u small is.digits e) in
      record {
        start = front ++ w.start;
        splits = append_assoc front w.start left ∙ ap (λ (l : List ℕ). front ++ l) w.splits ∙ is.splits;
        rest = w.rest;
        continues =
            rw append_assoc
            (subst IsFound (sym (read (w.start ++ w.rest) (ends r.got (w.start ++ w.rest) w.continues))) w.continues);
        stays = λ x xs ys e.
            ap after_run (append_assoc front w.start (x ∷ ys))
            ∙ read (w.start ++ (x ∷ ys))
            (same_head (λ y. digit_in radix y ≡ None) w.start x xs ys r.left (ap (λ (l : List ℕ). w.start ++ l) (sym e) ∙ w.splits) is.ends)
            ∙ w.stays x xs ys e;
      }

-- what is found behind one or more digits begins with no sign
abbrev NoSign : ℕ → Type 0
NoSign x = (eqb x 43 ≡ false) × (eqb x 45 ≡ false)

digit_no_sign : {A : Type 0} (radix : ℕ) (small : radix ≤ 32) (Q : List ℕ → List ℕ → Parsed A) → ((left : List ℕ) → IsFound (Q [] left) → ⊥) → (u : List ℕ) → IsFound (after_run radix small Q u) → Head NoSign u
digit_no_sign radix small Q one [] h = tt
digit_no_sign radix small Q one (x ∷ xs) h = go (digit_in radix x) refl
  where
    go : (o : Option ℕ) → digit_in radix x ≡ o → NoSign x
    go None e = absurd (one (x ∷ xs) (subst (λ (r : Run). IsFound (Q r.got r.left)) (run_stops radix x xs e) h))
    go (Digit d) e =
        let k = in_digit radix x d e in
        subst NoSign k.0 (byte_no_sign d (lt_of_lt_of_le k.1 small))

-- ---- each reader: what it finds prints what it was found in, or it is stuck as `Stuck` says
module _ (G : Grammar) (A : Apart G) where
  -- the exponent's digits behind the sign s
  abbrev OfDigits : Sign → List ℕ → Parsed Tail → Type 0
  OfDigits s t (found absent) = ⊥
  OfDigits s t (found (exponent z ds)) = (z ≡ s) × (Some ds × AreDigits G.exponent_radix ds) × (map digit_byte ds ≡ t)
  OfDigits s t (stuck left) = Stuck (exponent_digits G.exponent_radix s) t left

  zero_digit : (radix : ℕ) → 0 < radix → radix ≤ 32 → run radix (48 ∷ []) ≡ record { got = 0 ∷ []; left = [] }
  unfolding digit_byte
  zero_digit radix p h = run_all radix (0 ∷ []) h (p, tt)

  of_digits : (s : Sign) (t : List ℕ) → OfDigits s t (exponent_digits G.exponent_radix s t)
  of_digits s t = go (run G.exponent_radix t).got (run G.exponent_radix t).left (is_run G.exponent_radix t).digits (is_run G.exponent_radix t).ends (is_run G.exponent_radix t).splits
    where
      by_run : (u got left : List ℕ) → run G.exponent_radix u ≡ record { got = got; left = left } → exponent_digits G.exponent_radix s u ≡ all_digits s got left
      by_run u got left e = ap (λ (r : Run). all_digits s r.got r.left) e

      go : (got left : List ℕ) → AreDigits G.exponent_radix got → Ends G.exponent_radix left → map digit_byte got ++ left ≡ t → OfDigits s t (all_digits s got left)
      go [] left d e p = record {
        start = [];
        splits = p;
        rest = 48 ∷ [];
        continues = subst IsFound (sym (by_run (48 ∷ []) (0 ∷ []) [] (zero_digit G.exponent_radix A.power_pos A.power_small))) tt;
        stays = λ x xs ys q. by_run (x ∷ ys) [] (x ∷ ys) (run_stops G.exponent_radix x ys (subst (Ends G.exponent_radix) q e));
      }
      go (g ∷ gs) [] d e p = (refl, (tt, d), sym (append-nil (map digit_byte (g ∷ gs))) ∙ p)
      go (g ∷ gs) (y ∷ left) d e p = record {
        start = map digit_byte (g ∷ gs);
        splits = p;
        rest = [];
        continues = subst IsFound (sym (by_run _ (g ∷ gs) [] (run_digits G.exponent_radix (g ∷ gs) [] A.power_small d tt))) tt;
        stays = λ x xs ys q. by_run _ (g ∷ gs) (x ∷ ys) (run_digits G.exponent_radix (g ∷ gs) (x ∷ ys) A.power_small d (subst (Ends G.exponent_radix) q e));
      }

  -- with the sign
  abbrev OfSigned : List ℕ → Parsed Tail → Type 0
  OfSigned t (found absent) = ⊥
  OfSigned t (found (exponent z ds)) = (Some ds × AreDigits G.exponent_radix ds) × (sign_bytes z ++ map digit_byte ds ≡ t)
  OfSigned t (stuck left) = Stuck (signed_exponent G.exponent_radix) t left

  -- a sign in front
  sign_in_front : (s : Sign) (x : ℕ) (t : List ℕ) (p : Parsed Tail) → x ∷ t ≡ sign_bytes s ++ t → ((u : List ℕ) → signed_exponent G.exponent_radix (x ∷ u) ≡ exponent_digits G.exponent_radix s u) → OfDigits s t p → OfSigned (x ∷ t) p
  sign_in_front s x t (found absent) b same h = h
  sign_in_front s x t (found (exponent z ds)) b same h = (h.1, ap (λ (y : Sign). sign_bytes y ++ map digit_byte ds) h.0 ∙ ap (λ (l : List ℕ). sign_bytes s ++ l) h.2 ∙ sym b)
  sign_in_front s x t (stuck left) b same h = in_front (exponent_digits G.exponent_radix s) (signed_exponent G.exponent_radix) x t left same h

  unsigned_same : (u : List ℕ) → Head NoSign u → signed_exponent G.exponent_radix u ≡ exponent_digits G.exponent_radix unsigned u
  unsigned_same [] h = unfold signed_exponent run in refl
  unsigned_same (x ∷ xs) h = no_sign G.exponent_radix x xs h.0 h.1

  no_sign_in_front : (t : List ℕ) (p : Parsed Tail) → Head NoSign t → OfDigits unsigned t p → OfSigned t p
  no_sign_in_front t (found absent) n h = h
  no_sign_in_front t (found (exponent z ds)) n h = (h.1, ap (λ (y : Sign). sign_bytes y ++ map digit_byte ds) h.0 ∙ h.2)
  no_sign_in_front t (stuck left) n h = agreeing NoSign (exponent_digits G.exponent_radix unsigned) (signed_exponent G.exponent_radix) t left unsigned_same (digit_no_sign G.exponent_radix A.power_small (all_digits unsigned) (λ l k. k)) n h

  of_signed : (t : List ℕ) → OfSigned t (signed_exponent G.exponent_radix t)
  unfolding signed_exponent
  of_signed [] = record {
    start = [];
    splits = refl;
    rest = 48 ∷ [];
    continues = subst (λ (r : Run). IsFound (all_digits unsigned r.got r.left)) (sym (zero_digit G.exponent_radix A.power_pos A.power_small)) tt;
    stays = λ x xs ys e. absurd (let z : ◌≡◌ {A = ℕ} 0 1 = cc in omega arith);
  }
  of_signed (x ∷ xs) = go (eqb x 43) refl (eqb x 45) refl
    where
      go : (a : Bool) → eqb x 43 ≡ a → (b : Bool) → eqb x 45 ≡ b
          → OfSigned (x ∷ xs) (cond a (exponent_digits G.exponent_radix plus xs) (cond b (exponent_digits G.exponent_radix minus xs) (exponent_digits G.exponent_radix unsigned (x ∷ xs))))
      go true p b q = sign_in_front plus x xs (exponent_digits G.exponent_radix plus xs) (ap {B = List ℕ} (λ y. y ∷ xs) (eqb-true x 43 p)) (λ u. rw p) (of_digits plus xs)
      go false p true q = sign_in_front minus x xs (exponent_digits G.exponent_radix minus xs) (ap {B = List ℕ} (λ y. y ∷ xs) (eqb-true x 45 q)) (λ u. rw (p, q)) (of_digits minus xs)
      go false p false q = no_sign_in_front (x ∷ xs) (exponent_digits G.exponent_radix unsigned (x ∷ xs)) (p, q) (of_digits unsigned (x ∷ xs))

  -- with the mark
  abbrev OfTail : List ℕ → Parsed Tail → Type 0
  OfTail t (found τ) = TailFits G.exponent_radix τ × (tail_bytes G τ ≡ t)
  OfTail t (stuck left) = Stuck (parse_tail G) t left

  mark_in_front : (t : List ℕ) (p : Parsed Tail) → OfSigned t p → OfTail (G.mark ∷ t) p
  mark_in_front t (found absent) h = absurd h
  mark_in_front t (found (exponent z ds)) h = (h.0, ap {B = List ℕ} (λ l. G.mark ∷ l) h.1)
  mark_in_front t (stuck left) h = in_front (signed_exponent G.exponent_radix) (parse_tail G) G.mark t left (λ u. unfold parse_tail in rw (eq-eqb G.mark G.mark refl)) h

  of_tail : (t : List ℕ) → OfTail t (parse_tail G t)
  unfolding parse_tail
  of_tail [] = (tt, refl)
  of_tail (x ∷ xs) = go (eqb x G.mark) refl
    where
      go : (b : Bool) → eqb x G.mark ≡ b → OfTail (x ∷ xs) (cond b (signed_exponent G.exponent_radix xs) (stuck (x ∷ xs)))
      go true e = subst (λ (y : ℕ). OfTail (y ∷ xs) (signed_exponent G.exponent_radix xs)) (sym (eqb-true x G.mark e)) (mark_in_front xs (signed_exponent G.exponent_radix xs) (of_signed xs))
      go false e = record {
        start = [];
        splits = refl;
        rest = [];
        continues = tt;
        stays = λ y ys zs q. let same : x ≡ y = cc in subst (λ (z : ℕ). cond (eqb z G.mark) (signed_exponent G.exponent_radix zs) (stuck (z ∷ zs)) ≡ stuck (z ∷ zs)) same (rw e);
      }

  -- what is read behind the digits in front: perhaps the point and digits, perhaps an exponent
  pub record OfRest (whole t : List ℕ) (s : Shape) : Type 0 where
    pub whole_is : s.whole ≡ whole
    pub fits : FractionFits s.dot s.fraction
    pub digits : AreDigits G.radix s.fraction
    pub tail : TailFits G.exponent_radix s.tail
    pub bytes : fraction_bytes G s.dot s.fraction ++ tail_bytes G s.tail ≡ t

  abbrev OfWhole : List ℕ → List ℕ → Parsed Shape → Type 0
  OfWhole whole t (found s) = OfRest whole t s
  OfWhole whole t (stuck left) = Stuck (after_whole G whole) t left

  found_tail : {B : Type 0} (f : Tail → B) (p : Parsed Tail) → IsFound (map_parsed f p) → IsFound p
  found_tail f (found τ) h = tt
  found_tail f (stuck left) h = h

  -- a text that is nothing or an exponent begins with the mark, if at all
  tail_head : (First : ℕ → Type 0) → First G.mark → (u : List ℕ) → IsFound (parse_tail G u) → Head First u
  unfolding parse_tail
  tail_head First m [] h = tt
  tail_head First m (x ∷ xs) h = go (eqb x G.mark) refl h
    where
      go : (b : Bool) → eqb x G.mark ≡ b → IsFound (cond b (signed_exponent G.exponent_radix xs) (stuck (x ∷ xs))) → First x
      go true e k = subst First (sym (eqb-true x G.mark e)) m
      go false e k = absurd k

  behind_point : (whole xs : List ℕ) (p : Parsed Tail) → OfTail (run G.radix xs).left p → OfWhole whole (G.point ∷ xs) (map_parsed (with_tail whole true (run G.radix xs).got) p)
  behind_point whole xs (found τ) h =
      let r = is_run G.radix xs in
      record {
        whole_is = refl;
        fits = tt;
        digits = r.digits;
        tail = h.0;
        bytes = ap {B = List ℕ} (λ l. G.point ∷ l) (ap (λ (l : List ℕ). map digit_byte (run G.radix xs).got ++ l) h.1 ∙ r.splits);
      }
  behind_point whole xs (stuck left) h =
      let Q : List ℕ → List ℕ → Parsed Shape = λ g u. map_parsed (with_tail whole true g) (parse_tail G u) in
      in_front (after_run G.radix A.radix_small Q) (after_whole G whole) G.point xs left (λ u. unfold after_whole in rw (eq-eqb G.point G.point refl))
      (after_run_lem G.radix A.radix_small Q xs left (run G.radix xs) (is_run G.radix xs)
      (λ g u k. tail_head (λ y. digit_in G.radix y ≡ None) A.mark_off u (found_tail (with_tail whole true g) (parse_tail G u) k))
      (mapped (with_tail whole true (run G.radix xs).got) (parse_tail G) (run G.radix xs).left left h))

  abbrev NoPoint : ℕ → Type 0
  NoPoint x = eqb x G.point ≡ false

  without_point : (whole t : List ℕ) (p : Parsed Tail) → Head NoPoint t → OfTail t p → OfWhole whole t (map_parsed (with_tail whole false []) p)
  without_point whole t (found τ) n h = record { whole_is = refl; fits = refl; digits = tt; tail = h.0; bytes = h.1 }
  without_point whole t (stuck left) n h =
      agreeing NoPoint (λ u. map_parsed (with_tail whole false []) (parse_tail G u)) (after_whole G whole) t left (no_point G whole)
      (λ u k. tail_head NoPoint A.differ u (found_tail (with_tail whole false []) (parse_tail G u) k)) n (mapped (with_tail whole false []) (parse_tail G) t left h)

  of_whole : (whole t : List ℕ) → OfWhole whole t (after_whole G whole t)
  unfolding after_whole
  of_whole whole [] = record { whole_is = refl; fits = refl; digits = tt; tail = tt; bytes = refl }
  of_whole whole (x ∷ xs) = go (eqb x G.point) refl
    where
      go : (b : Bool) → eqb x G.point ≡ b → OfWhole whole (x ∷ xs) (cond b (after_point G whole (run G.radix xs)) (map_parsed (with_tail whole false []) (parse_tail G (x ∷ xs))))
      go true e =
          subst (λ (y : ℕ). OfWhole whole (y ∷ xs) (after_point G whole (run G.radix xs))) (sym (eqb-true x G.point e))
          (behind_point whole xs (parse_tail G (run G.radix xs).left) (of_tail (run G.radix xs).left))
      go false e = without_point whole (x ∷ xs) (parse_tail G (x ∷ xs)) e (of_tail (x ∷ xs))

  -- the whole text behind its sign
  abbrev OfUnsigned : List ℕ → Parsed Shape → Type 0
  OfUnsigned t (found s) = WellFormed G s × (unsigned_bytes G s ≡ t)
  OfUnsigned t (stuck left) = Stuck (parse_unsigned G) t left

  whole_head : (First : ℕ → Type 0) → First G.mark → First G.point → (whole u : List ℕ) → IsFound (one_or_more G whole u) → Head First u
  whole_head First m p [] u h = absurd h
  whole_head First m p (d ∷ ds) [] h = tt
  whole_head First m p (d ∷ ds) (x ∷ xs) h = go (eqb x G.point) refl
    where
      go : (b : Bool) → eqb x G.point ≡ b → First x
      go true e = subst First (sym (eqb-true x G.point e)) p
      go false e = tail_head First m (x ∷ xs) (found_tail (with_tail (d ∷ ds) false []) (parse_tail G (x ∷ xs)) (subst IsFound (no_point G (d ∷ ds) (x ∷ xs) e) h))

  of_unsigned : (t : List ℕ) → OfUnsigned t (parse_unsigned G t)
  unfolding parse_unsigned
  of_unsigned t = go (run G.radix t).got (run G.radix t).left (is_run G.radix t).digits (is_run G.radix t).ends (is_run G.radix t).splits
    where
      found_is : (d : ℕ) (ds left : List ℕ) (p : Parsed Shape) → AreDigits G.radix (d ∷ ds) → Ends G.radix left → map digit_byte (d ∷ ds) ++ left ≡ t → OfWhole (d ∷ ds) left p → OfUnsigned t p
      found_is d ds left (found s) all e q h = (
        record {
          some_whole = subst Some (sym h.whole_is) tt;
          whole_digits = subst (AreDigits G.radix) (sym h.whole_is) all;
          fraction_fits = h.fits;
          fraction_digits = h.digits;
          tail_fits = h.tail;
        },
        ap (λ (w : List ℕ). map digit_byte w ++ (fraction_bytes G s.dot s.fraction ++ tail_bytes G s.tail)) h.whole_is ∙ ap (λ (l : List ℕ). map digit_byte (d ∷ ds) ++ l) h.bytes ∙ q,
      )
      found_is d ds left (stuck after) all e q h =
          after_run_lem G.radix A.radix_small (one_or_more G) t after (record { got = d ∷ ds; left = left }) (record { digits = all; ends = e; splits = q })
          (whole_head (λ y. digit_in G.radix y ≡ None) A.mark_off A.point_off) h

      go : (got left : List ℕ) → AreDigits G.radix got → Ends G.radix left → map digit_byte got ++ left ≡ t → OfUnsigned t (one_or_more G got left)
      go [] left all e q = record {
        start = [];
        splits = q;
        rest = 48 ∷ [];
        continues = subst (λ (r : Run). IsFound (one_or_more G r.got r.left)) (sym (zero_digit G.radix A.radix_pos A.radix_small)) (unfold after_whole in tt);
        stays = λ x xs ys p. ap (λ (r : Run). one_or_more G r.got r.left) (run_stops G.radix x ys (subst (Ends G.radix) p e));
      }
      go (d ∷ ds) left all e q = found_is d ds left (after_whole G (d ∷ ds) left) all e q (of_whole (d ∷ ds) left)

  -- with its sign
  abbrev pub OfText : List ℕ → Parsed Shape → Type 0
  OfText t (found s) = WellFormed G s × (print G s ≡ t)
  OfText t (stuck left) = Stuck (parse G) t left

  -- a text of either sign, behind which stands u
  abbrev behind_sign : Bool → List ℕ → Parsed Shape
  behind_sign n u = map_parsed (with_sign n) (parse_unsigned G u)

  signed_found : (n : Bool) (t : List ℕ) (s : Shape) → OfUnsigned t (found s) → OfText (minus_sign n ++ t) (found (with_sign n s))
  signed_found n t s h = (formed_signed G n s h.0, unfold print in ap (λ (l : List ℕ). minus_sign n ++ l) h.1)

  abbrev NoMinus : ℕ → Type 0
  NoMinus x = eqb x 45 ≡ false

  found_no_minus : (u : List ℕ) (p : Parsed Shape) → parse_unsigned G u ≡ p → IsFound (map_parsed (with_sign false) p) → Head NoMinus u
  unfolding parse_unsigned
  found_no_minus u (stuck left) e h = absurd h
  found_no_minus u (found s) e h = go u (digit_no_sign G.radix A.radix_small (one_or_more G) (λ l k. k) u (subst IsFound (sym e) tt))
    where
      go : (u : List ℕ) → Head NoSign u → Head NoMinus u
      go [] n = tt
      go (x ∷ xs) n = n.1

  same_unsigned : (u : List ℕ) → Head NoMinus u → parse G u ≡ behind_sign false u
  unfolding parse
  same_unsigned [] h = refl
  same_unsigned (x ∷ xs) h = rw h

  minus_in_front : (t : List ℕ) (p : Parsed Shape) → OfUnsigned t p → OfText (45 ∷ t) (map_parsed (with_sign true) p)
  minus_in_front t (found s) h = signed_found true t s h
  minus_in_front t (stuck left) h = in_front (behind_sign true) (parse G) 45 t left (λ u. unfold parse in refl) (mapped (with_sign true) (parse_unsigned G) t left h)

  without_minus : (t : List ℕ) (p : Parsed Shape) → Head NoMinus t → OfUnsigned t p → OfText t (map_parsed (with_sign false) p)
  without_minus t (found s) n h = signed_found false t s h
  without_minus t (stuck left) n h =
      agreeing NoMinus (behind_sign false) (parse G) t left same_unsigned (λ u k. found_no_minus u (parse_unsigned G u) refl k) n (mapped (with_sign false) (parse_unsigned G) t left h)

  pub of_text : (t : List ℕ) → OfText t (parse G t)
  unfolding parse
  of_text [] = without_minus [] (parse_unsigned G []) tt (of_unsigned [])
  of_text (x ∷ xs) = go (eqb x 45) refl
    where
      go : (b : Bool) → eqb x 45 ≡ b → OfText (x ∷ xs) (map_parsed (with_sign b) (parse_unsigned G (drop (length (minus_sign b)) (x ∷ xs))))
      go true e = subst (λ (y : ℕ). OfText (y ∷ xs) (behind_sign true xs)) (sym (eqb-true x 45 e)) (minus_in_front xs (parse_unsigned G xs) (of_unsigned xs))
      go false e = without_minus (x ∷ xs) (parse_unsigned G (x ∷ xs)) e (of_unsigned (x ∷ xs))

  -- ---- THE LAWS
  clash : (s : Shape) (left : List ℕ) → found s ≡ stuck left → ⊥
  clash s left e = let z : ◌≡◌ {A = ℕ} 0 1 = cc in omega arith

  -- a text is read exactly where a shape prints it, and then that shape is found
  pub found_prints : (t : List ℕ) (s : Shape) → parse G t ≡ found s → WellFormed G s × (print G s ≡ t)
  found_prints t s e = subst (OfText t) e (of_text t)

  found_shaped : (t : List ℕ) (p : Parsed Shape) → OfText t p → IsFound p → WellShaped G t
  found_shaped t (found s) o h = (s, o.0, o.1)
  found_shaped t (stuck left) o h = absurd h

  pub shaped_found : (t : List ℕ) (w : WellShaped G t) → parse G t ≡ found w.0
  shaped_found t w = ap (parse G) (sym w.2) ∙ parse_print G A w.0 w.1

  -- refusal 9's place
  pub wrong_at : (t left : List ℕ) → parse G t ≡ stuck left → WrongAt G t (length t - length left)
  wrong_at t left e = record {
    within = omega arith;
    before = λ j h. begins j (omega (arith, count, h));
    here = λ h b. at_byte left refl (omega (arith, count, h)) b;
    unshaped = λ w. clash w.0 left (sym (shaped_found t w) ∙ e);
  }
    where
      w : Stuck (parse G) t left
      w = subst (OfText t) e (of_text t)

      count : length t ≡ length w.start + length left
      count = ap length (sym w.splits) ∙ length-append w.start left

      begins : (j : ℕ) → j ≤ length w.start → Begins G (take j t)
      begins j h = (
        drop j w.start ++ w.rest,
        subst (WellShaped G)
            (ap (λ (l : List ℕ). l ++ w.rest) (sym (take-append-drop j w.start)) ∙ append_assoc (take j w.start) (drop j w.start) w.rest
            ∙ ap (λ (l : List ℕ). l ++ (drop j w.start ++ w.rest)) (sym (take-append-le j w.start left h) ∙ ap (take j) w.splits))
            (found_shaped (w.start ++ w.rest) (parse G (w.start ++ w.rest)) (of_text (w.start ++ w.rest)) w.continues),
      )

      at_byte : (l : List ℕ) → left ≡ l → 0 < length left → Begins G (take (length t - length left + 1) t) → ⊥
      at_byte [] q h b = absurd (omega (arith, ap length q))
      at_byte (x ∷ xs) q h b =
          let n : length (w.start ++ (x ∷ [])) ≡ length t - length left + 1 = length-append w.start (x ∷ []) ∙ (let z : length w.start + 1 ≡ length t - length left + 1 = omega (arith, count) in z) in
          let split : (w.start ++ (x ∷ [])) ++ xs ≡ t = append_assoc w.start (x ∷ []) xs ∙ ap (λ (l : List ℕ). w.start ++ l) (sym q) ∙ w.splits in
          let front : take (length t - length left + 1) t ≡ w.start ++ (x ∷ []) = ap (take (length t - length left + 1)) (sym split) ∙ take_at (w.start ++ (x ∷ [])) xs (length t - length left + 1) n in
          let whole : take (length t - length left + 1) t ++ b.0 ≡ w.start ++ (x ∷ b.0) = ap (λ (l : List ℕ). l ++ b.0) front ∙ append_assoc w.start (x ∷ []) b.0 in
          clash b.1.0 (x ∷ b.0) (sym (shaped_found (take (length t - length left + 1) t ++ b.0) b.1) ∙ ap (parse G) whole ∙ w.stays x xs b.0 q)
