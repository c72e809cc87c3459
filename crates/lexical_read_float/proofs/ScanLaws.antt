-- The shape of a text, from places in it: what stands there decides how the definition of its shape goes on. Assumes nothing.
use Prim.Native.Nat.{ℕ, suc, ◌+◌, ◌-◌, ◌≤◌, ◌<◌, min, ◌*◌}
use mathlib.Core.Path.{◌≡◌, refl, sym, ap, ap₂, ◌∙◌, subst}
use mathlib.Core.Bool.{Bool, true, false}
use mathlib.Core.List.{List, [], ◌∷◌, ◌++◌, append-nil}
use Rattle.std.specs.Prelude.{Option, None, Some, Result, Ok, Err}
use native.Mathlib.Numerals.{add-one}
use native.Mathlib.Omega.{arith}
use borrow.Author.Tests.{eq-eqb, ne_eqb}
use lib.Dec.{eqb}
use lib.IntN.{pos, nat_abs}
use lib.ListN.{length, drop, get_or, length-drop, drop_of_length-le}
use lib.Seq.{drop-cons, drop-drop}
use Rattle.lexical_util.specs.Digit.{digit_in, digits_value}
use Rattle.lexical_float.specs.Sign.{minus_sign}
use Rattle.lexical_exponent.specs.declared.exponent.DigitExponent.{DigitExponent}
use Rattle.lexical_read_float_spec.specs.Shape.{Grammar, Sign, unsigned, plus, minus, Tail, exponent, Shape}
use Rattle.lexical_read_float_spec.specs.Parse.{more, run, Parsed, found, stuck, map_parsed, all_digits, exponent_digits, signed_exponent, parse_tail, with_tail, after_whole, one_or_more, parse_unsigned, begins_with, with_sign, parse}
use Rattle.lexical_read_float_spec.specs.Read.{has_minus, exponent_place, longest_read}
use Rattle.lexical_read_float_spec.proofs.RunLaws.{Head}
use Rattle.lexical_read_float_spec.proofs.ParseLaws.{no_point}
use Rattle.lexical_read_float.specs.declared.kept.Kept.{Kept}
use Rattle.lexical_read_float.specs.declared.scan.Mantissa.{Mantissa}
use Rattle.lexical_read_float.specs.Kept.{empty, keep_digits}
use Rattle.lexical_read_float.specs.declared.scan.Exponent.{Exponent}
use Rattle.lexical_read_float.specs.declared.scan.Number.{Number}
use Rattle.lexical_read_float.specs.Scan.{with_fraction, scanned_tail, scanned_number, scanned_shape, IsBounded, too_great}
use Rattle.lexical_read_float.specs.Digits.{digits_from, end_from}
use Rattle.lexical_read_float.proofs.KeptLaws.{keep_append}

-- ---- places
-- what is left at place k tells k
pub place_of : (t : List ℕ) (k : ℕ) → k ≤ length t → length t - length (drop k t) ≡ k
place_of t k h = rw (length-drop k t) (omega arith)

pub left_got : (radix : ℕ) (t : List ℕ) → (run radix t).left ≡ drop (length (run radix t).got) t
unfolding run
left_got radix [] = refl
left_got radix (x ∷ xs) = go (digit_in radix x) (left_got radix xs)
  where
    go : (o : Option ℕ) → (run radix xs).left ≡ drop (length (run radix xs).got) xs → (more x xs o (run radix xs)).left ≡ drop (length (more x xs o (run radix xs)).got) (x ∷ xs)
    go None e = refl
    go (Some d) e = e

-- what is left behind the digits from a place on
pub left_from : (radix : ℕ) (t : List ℕ) (from : ℕ) → (run radix (drop from t)).left ≡ drop (end_from radix t from) t
left_from radix t from = left_got radix (drop from t) ∙ drop-drop (length (digits_from radix t from)) from t

-- a byte and what stands behind it
pub at_byte : (t : List ℕ) (i : ℕ) → i < length t → drop i t ≡ get_or t i 0 ∷ drop (i + 1) t
at_byte t i h = drop-cons t i 0 h ∙ ap (λ (j : ℕ). get_or t i 0 ∷ drop j t) (sym (add-one i))

pub at_end : (t : List ℕ) (i : ℕ) → i ≡ length t → drop i t ≡ []
at_end t i e = drop_of_length-le t (let z : length t ≤ i = omega arith in z)

-- ---- exponent digits, and nothing behind them
same_sign : (s : Sign) (ds : List ℕ) → has_minus (exponent s ds) ≡ has_minus (exponent s [])
same_sign unsigned ds = refl
same_sign plus ds = refl
same_sign minus ds = refl

module _ (t : List ℕ) (radix : ℕ) (s : Sign) (from : ℕ) where
  abbrev Wanted : List ℕ → List ℕ → Result Exponent ℕ
  Wanted g left = scanned_tail t radix (all_digits s g left)

  none_there : (g left : List ℕ) → left ≡ drop (from + length g) t → from ≤ length t → from + length g ≡ from → Err from ≡ Wanted g left
  none_there [] left e h z = ap Err (sym (ap (λ (l : List ℕ). length t - length l) e ∙ place_of t (from + 0) (let y : from + 0 ≤ length t = omega arith in y) ∙ (let y : from + 0 ≡ from = omega arith in y)))
  none_there (d ∷ ds) left e h z = absurd (omega arith)

  more_there : (g left : List ℕ) → left ≡ drop (from + length g) t → (from + length g ≡ from → ⊥) → from + length g < length t → Err (from + length g) ≡ Wanted g left
  more_there [] left e n h = absurd (n (let y : from + 0 ≡ from = omega arith in y))
  more_there (d ∷ ds) [] e n h = absurd (let y = ap (λ (l : List ℕ). length l) e ∙ length-drop (from + suc (length ds)) t in omega arith)
  more_there (d ∷ ds) (x ∷ xs) e n h = ap Err (sym (ap (λ (l : List ℕ). length t - length l) e ∙ place_of t (from + suc (length ds)) (let y : from + suc (length ds) ≤ length t = omega arith in y)))

  all_there : (g left : List ℕ) → left ≡ drop (from + length g) t → (from + length g ≡ from → ⊥) → from + length g ≡ length t
      → (n : Bool) (m : ℕ) → has_minus (exponent s []) ≡ n → m ≡ min (digits_value radix g) too_great
      → Ok (record { power = record { 0 = n; 1 = m }; place = from }) ≡ Wanted g left
  unfolding exponent_place
  all_there [] left e z h n m p q = absurd (z (let y : from + 0 ≡ from = omega arith in y))
  all_there (d ∷ ds) (x ∷ xs) e z h n m p q = absurd (let y = ap (λ (l : List ℕ). length l) e ∙ length-drop (from + suc (length ds)) t in omega arith)
  all_there (d ∷ ds) [] e z h n m p q =
      let w : from ≡ length t - suc (length ds) = omega arith in
      rw (sym p, q, w) (ap (λ (b : Bool). Ok (record { power = record { 0 = b; 1 = min (digits_value radix (d ∷ ds)) too_great }; place = length t - suc (length ds) })) (sym (same_sign s (d ∷ ds))))

  -- the same of the digits from that place on
  left_is : (run radix (drop from t)).left ≡ drop (end_from radix t from) t
  left_is = left_from radix t from

  pub digits_none : from ≤ length t → end_from radix t from ≡ from → Err from ≡ scanned_tail t radix (exponent_digits radix s (drop from t))
  digits_none h z = none_there (digits_from radix t from) _ left_is h z

  pub digits_more : (end : ℕ) → end ≡ end_from radix t from → (end ≡ from → ⊥) → end < length t → Err end ≡ scanned_tail t radix (exponent_digits radix s (drop from t))
  digits_more end e n h = ap Err e ∙ more_there (digits_from radix t from) _ left_is (λ z. n (e ∙ z)) (subst (λ (k : ℕ). k < length t) e h)

  pub digits_all : (end : ℕ) → end ≡ end_from radix t from → (end ≡ from → ⊥) → end ≡ length t
      → (n : Bool) (m : ℕ) → has_minus (exponent s []) ≡ n → m ≡ min (digits_value radix (digits_from radix t from)) too_great
      → Ok (record { power = record { 0 = n; 1 = m }; place = from }) ≡ scanned_tail t radix (exponent_digits radix s (drop from t))
  digits_all end e n h b m p q = all_there (digits_from radix t from) _ left_is (λ z. n (e ∙ z)) (sym e ∙ h) b m p q

-- ---- behind the mark
module _ (t : List ℕ) (radix from : ℕ) where
  pub sign_missing : from ≡ length t → Err from ≡ scanned_tail t radix (signed_exponent radix (drop from t))
  unfolding signed_exponent
  sign_missing e = rw (at_end t from e) (ap Err (let z : from ≡ length t - 0 = omega arith in z))

  pub sign_plus : from < length t → get_or t from 0 ≡ 43 → signed_exponent radix (drop from t) ≡ exponent_digits radix plus (drop (from + 1) t)
  unfolding signed_exponent
  sign_plus h e = ap (signed_exponent radix) (at_byte t from h) ∙ rw (eq-eqb _ 43 e)

  pub sign_minus : from < length t → get_or t from 0 ≡ 45 → signed_exponent radix (drop from t) ≡ exponent_digits radix minus (drop (from + 1) t)
  unfolding signed_exponent
  sign_minus h e = ap (signed_exponent radix) (at_byte t from h) ∙ rw (e)

  pub sign_none : from < length t → (get_or t from 0 ≡ 43 → ⊥) → (get_or t from 0 ≡ 45 → ⊥) → signed_exponent radix (drop from t) ≡ exponent_digits radix unsigned (drop from t)
  unfolding signed_exponent
  sign_none h m n = ap (signed_exponent radix) (at_byte t from h) ∙ rw (ne_eqb _ 43 m, ne_eqb _ 45 n) (ap (exponent_digits radix unsigned) (sym (at_byte t from h)))

-- ---- behind the mantissa
module _ (t : List ℕ) (G : Grammar) (from : ℕ) where
  pub tail_absent : from ≡ length t → Ok (record { power = record { 0 = false; 1 = 0 }; place = length t }) ≡ scanned_tail t G.exponent_radix (parse_tail G (drop from t))
  unfolding parse_tail exponent_place
  tail_absent e = rw (at_end t from e)

  pub tail_wrong : from < length t → (get_or t from 0 ≡ G.mark → ⊥) → Err from ≡ scanned_tail t G.exponent_radix (parse_tail G (drop from t))
  unfolding parse_tail
  tail_wrong h n =
      ap Err (sym (place_of t from (let z : from ≤ length t = omega arith in z)) ∙ ap (λ (l : List ℕ). length t - length l) (at_byte t from h))
      ∙ sym (ap (λ (l : List ℕ). scanned_tail t G.exponent_radix (parse_tail G l)) (at_byte t from h) ∙ rw (ne_eqb _ G.mark n))

  pub tail_marked : from < length t → get_or t from 0 ≡ G.mark → parse_tail G (drop from t) ≡ signed_exponent G.exponent_radix (drop (from + 1) t)
  unfolding parse_tail
  tail_marked h e = ap (parse_tail G) (at_byte t from h) ∙ rw (eq-eqb _ G.mark e)

-- ---- the whole text
pub begins_end : (t : List ℕ) (at byte : ℕ) → at ≡ length t → false ≡ begins_with byte (drop at t)
begins_end t at byte e = sym (ap (begins_with byte) (at_end t at e))

pub begins_byte : (t : List ℕ) (at byte : ℕ) → at < length t → eqb (get_or t at 0) byte ≡ begins_with byte (drop at t)
begins_byte t at byte h = sym (ap (begins_with byte) (at_byte t at h))

-- a byte that stands at a place stands inside the text
pub begins_inside : (t : List ℕ) (at byte : ℕ) → at ≤ length t → begins_with byte (drop at t) ≡ true → at < length t
begins_inside t at byte h e = go (drop at t) refl e
  where
    go : (u : List ℕ) → drop at t ≡ u → begins_with byte u ≡ true → at < length t
    go [] p q = absurd (let z : ◌≡◌ {A = ℕ} 0 1 = cc in omega arith)
    go (x ∷ xs) p q = let n = sym (length-drop at t) ∙ ap (λ (l : List ℕ). length l) p in omega arith

-- the digits behind a point
pub fraction_some : (t : List ℕ) (radix b : ℕ) (kept : Kept) (end : ℕ) (dot : Bool) (stop : ℕ) (k : Kept) → dot ≡ true → stop ≡ end_from radix t (end + 1) → k ≡ keep_digits b kept (digits_from radix t (end + 1))
    → record { end = stop; kept = k; fraction = record { 0 = pos (stop - (end + 1)) } } ≡ with_fraction t radix b kept end dot
fraction_some t radix b kept end dot stop k d e q =
    let count : stop - (end + 1) ≡ length (digits_from radix t (end + 1)) = omega arith in
    rw (d, q, count) (ap (λ (n : ℕ). record { end = n; kept = keep_digits b kept (digits_from radix t (end + 1)); fraction = record { 0 = pos (length (digits_from radix t (end + 1))) } }) e)

-- a count of digits
abbrev counted : ℕ → DigitExponent
counted n = record { 0 = pos n }

-- the sign and the mantissa's digits with what stands behind them
shape_tail : (t : List ℕ) (b radix : ℕ) (n : Bool) (whole : List ℕ) (dot : Bool) (fraction : List ℕ) (p : Parsed Tail)
    → scanned_shape t b radix (map_parsed (with_sign n) (map_parsed (with_tail whole dot fraction) p)) ≡ scanned_number n (keep_digits b empty (whole ++ fraction)) (counted (length fraction)) (scanned_tail t radix p)
shape_tail t b radix n whole dot fraction (found τ) = refl
shape_tail t b radix n whole dot fraction (stuck left) = refl

-- a sign stands inside the text
pub sign_inside : (t : List ℕ) (n : Bool) → n ≡ begins_with 45 t → length (minus_sign n) ≤ length t
sign_inside t true e = begins_inside t 0 45 (omega arith) (sym e)
sign_inside t false e = omega arith

-- the sign n takes the bytes up to `from`; the digits g stand behind it, and what is left stands at their end
module _ (t : List ℕ) (b : ℕ) (G : Grammar) (n : Bool) (from : ℕ) where
  abbrev Whole : List ℕ → List ℕ → Result Number ℕ
  Whole g left = scanned_shape t b G.exponent_radix (map_parsed (with_sign n) (one_or_more G g left))

  empty_front : from ≤ length t → (g left : List ℕ) → left ≡ drop (from + length g) t → length g ≡ 0 → Err from ≡ Whole g left
  empty_front h [] left e z =
      let y : from + 0 ≡ from = omega arith in
      ap Err (sym (ap (λ (l : List ℕ). length t - length l) (e ∙ ap (λ (k : ℕ). drop k t) y) ∙ place_of t from h))
  empty_front h (d ∷ ds) left e z = absurd (omega arith)

  plain_front : (g left : List ℕ) → (length g ≡ 0 → ⊥) → begins_with G.point left ≡ false
      → scanned_number n (keep_digits b empty g) (counted 0) (scanned_tail t G.exponent_radix (parse_tail G left)) ≡ Whole g left
  plain_front [] left z none_there = absurd (z refl)
  plain_front (d ∷ ds) left z none_there =
      ap (λ (l : List ℕ). scanned_number n (keep_digits b empty l) (counted 0) (scanned_tail t G.exponent_radix (parse_tail G left))) (sym (append-nil (d ∷ ds)))
      ∙ sym (ap (λ (p : Parsed Shape). scanned_shape t b G.exponent_radix (map_parsed (with_sign n) p)) (no_point G (d ∷ ds) left (head left none_there)) ∙ shape_tail t b G.exponent_radix n (d ∷ ds) false [] (parse_tail G left))
    where
      head : (u : List ℕ) → begins_with G.point u ≡ false → Head (λ x. eqb x G.point ≡ false) u
      head [] e = tt
      head (x ∷ xs) e = e

  point_front : (g left after : List ℕ) (x : ℕ) → (length g ≡ 0 → ⊥) → left ≡ x ∷ after → eqb x G.point ≡ true
      → scanned_number n (keep_digits b empty (g ++ (run G.radix after).got)) (counted (length (run G.radix after).got)) (scanned_tail t G.exponent_radix (parse_tail G (run G.radix after).left))
      ≡ Whole g left
  unfolding after_whole
  point_front [] left after x z e is = absurd (z refl)
  point_front (d ∷ ds) left after x z e is =
      sym (ap (λ (l : List ℕ). scanned_shape t b G.exponent_radix (map_parsed (with_sign n) (after_whole G (d ∷ ds) l))) e
      ∙ rw is (shape_tail t b G.exponent_radix n (d ∷ ds) true (run G.radix after).got (parse_tail G (run G.radix after).left)))

  left_at : (end : ℕ) → end ≡ end_from G.radix t from → (run G.radix (drop from t)).left ≡ drop end t
  left_at end e = left_from G.radix t from ∙ ap (λ (k : ℕ). drop k t) (sym e)

  module _ (n-is : n ≡ begins_with 45 t) (from_is : from ≡ length (minus_sign n)) (end : ℕ) (is : end ≡ end_from G.radix t from) where
    begins : parse G t ≡ map_parsed (with_sign n) (one_or_more G (digits_from G.radix t from) (run G.radix (drop from t)).left)
    unfolding parse parse_unsigned
    begins = rw (← n-is, ← from_is)

    abbrev Scan : Result Number ℕ
    Scan = scanned_shape t b G.exponent_radix (parse G t)

    by_front : (r : Result Number ℕ) → r ≡ Whole (digits_from G.radix t from) (run G.radix (drop from t)).left → r ≡ Scan
    by_front r e = e ∙ ap (scanned_shape t b G.exponent_radix) (sym begins)

    pub text_empty : end ≡ from → Err from ≡ Scan
    text_empty z = by_front _ (empty_front (omega (arith, from_is, sign_inside t n n-is)) (digits_from G.radix t from) _ (left_from G.radix t from) (omega (arith, is, z)))

    module _ (k : Kept) (begun : end ≡ from → ⊥) (kept : k ≡ keep_digits b empty (digits_from G.radix t from)) (m : Mantissa) (τ : Result Exponent ℕ)
        (tail-is : τ ≡ scanned_tail t G.exponent_radix (parse_tail G (drop m.end t))) where
      some_there : length (digits_from G.radix t from) ≡ 0 → ⊥
      some_there y = begun (is ∙ (let z : from + length (digits_from G.radix t from) ≡ from = omega (arith, y) in z))

      plain : begins_with G.point (drop end t) ≡ false → m ≡ with_fraction t G.radix b k end false → scanned_number n m.kept m.fraction τ ≡ Scan
      plain none_there e =
          by_front _
          (ap₂ (λ (x : Mantissa) (y : Result Exponent ℕ). scanned_number n x.kept x.fraction y) e
          (tail-is ∙ ap (λ (x : Mantissa). scanned_tail t G.exponent_radix (parse_tail G (drop x.end t))) e ∙ ap (λ (l : List ℕ). scanned_tail t G.exponent_radix (parse_tail G l)) (sym (left_at end is)))
          ∙ ap (λ (x : Kept). scanned_number n x (counted 0) (scanned_tail t G.exponent_radix (parse_tail G (run G.radix (drop from t)).left))) kept
          ∙ plain_front (digits_from G.radix t from) _ some_there (ap (begins_with G.point) (left_at end is) ∙ none_there))

      pointed : end < length t → begins_with G.point (drop end t) ≡ true → m ≡ with_fraction t G.radix b k end true → scanned_number n m.kept m.fraction τ ≡ Scan
      pointed h there e =
          let more = drop (end + 1) t in
          let ds = digits_from G.radix t (end + 1) in
          by_front _
          (ap₂ (λ (x : Mantissa) (y : Result Exponent ℕ). scanned_number n x.kept x.fraction y) e
          (tail-is ∙ ap (λ (x : Mantissa). scanned_tail t G.exponent_radix (parse_tail G (drop x.end t))) e ∙ ap (λ (l : List ℕ). scanned_tail t G.exponent_radix (parse_tail G l)) (sym (left_from G.radix t (end + 1))))
          ∙ ap (λ (x : Kept). scanned_number n x (counted (length ds)) (scanned_tail t G.exponent_radix (parse_tail G (run G.radix more).left)))
          (ap (λ (x : Kept). keep_digits b x ds) kept ∙ keep_append b empty (digits_from G.radix t from) ds)
          ∙ point_front (digits_from G.radix t from) _ more (get_or t end 0) some_there (left_at end is ∙ at_byte t end h) (sym (ap (begins_with G.point) (at_byte t end h)) ∙ there))

      pub text_mantissa : end ≤ length t → m ≡ with_fraction t G.radix b k end (begins_with G.point (drop end t)) → scanned_number n m.kept m.fraction τ ≡ Scan
      text_mantissa h = go (begins_with G.point (drop end t)) refl
        where
          go : (dot : Bool) → begins_with G.point (drop end t) ≡ dot → m ≡ with_fraction t G.radix b k end dot → scanned_number n m.kept m.fraction τ ≡ Scan
          go true there = pointed (begins_inside t end G.point h there) there
          go false none_there = plain none_there

pub number_bounded : (n : Bool) (k : Kept) (fraction : DigitExponent) (τ : Result Exponent ℕ) (r : Result Number ℕ) → k.below ≤ 5 * longest_read → nat_abs fraction.0 ≤ longest_read → r ≡ scanned_number n k fraction τ → IsBounded r
number_bounded n k fraction τ r h l e = subst IsBounded (sym e) (go τ)
  where
    go : (τ : Result Exponent ℕ) → IsBounded (scanned_number n k fraction τ)
    go (Ok x) = record { few_below = h; few_digits = l }
    go (Err place) = tt
