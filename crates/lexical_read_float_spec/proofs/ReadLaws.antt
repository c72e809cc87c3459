-- The laws of reading, of every format that passes the reader's checks and of every text. Assumes nothing.
use Prim.Native.Nat.{ℕ, ◌-◌, ◌*◌, ◌≤◌, ◌<◌}
use mathlib.Core.Path.{◌≡◌, refl, sym, ap, ◌∙◌, subst}
use mathlib.Core.Bool.{Bool, true, false, cond}
use mathlib.Core.List.{List}
use Rattle.std.specs.Prelude.{Option, None, Some, is_some}
use native.Mathlib.Omega.{arith}
use native.Mathlib.Nat.{mul-pos}
use borrow.Author.Tests.{lt-ltb, le-ltb, ne_eqb, eqb-false}
use lib.Dec.{ltb}
use lib.Pow.{pow_pos, pow_mono}
use lib.ListN.{length}
use lib.Ieee.{Float, nan, inf, fin, Format, round}
use lib.Ieee.Exact.{HasValue}
use Rattle.lexical_util.specs.Answer.{Answer, done, refused, and_then}
use Rattle.lexical_util.specs.Digit.{digit_in, is_digit}
use Rattle.lexical_util.proofs.AnswerLaws.{refused_done}
use Rattle.lexical_util.proofs.RadixLaws.{radix_bounds}
use Rattle.lexical_float.specs.Sign.{sign_bit}
use Rattle.lexical_format.specs.declared.format.Pair.{Pair}
use Rattle.lexical_format.specs.declared.format.NumberFormat.{NumberFormat}
use Rattle.lexical_format.specs.declared.options.Options.{Options}
use Rattle.lexical_format.specs.Format.{reading_format}
use Rattle.lexical_format.proofs.FormatLaws.{readable}
use Rattle.lexical_read_float_spec.specs.Shape.{Shape, print}
use Rattle.lexical_read_float_spec.specs.Parse.{Parsed, found, stuck, begins_with, parse, of_parsed, shape_of, WrongAt}
use Rattle.lexical_read_float_spec.specs.Round.{too_large, Nearest}
use Rattle.lexical_read_float_spec.specs.Read.{grammar_of, magnitude, has_minus, base_power, numerator, denominator, float_of, exponent_too_large, exponent_place, value_of, read_text, read_float, longest_read, greatest_exponent}
use Rattle.lexical_read_float_spec.specs.Claims.{PrintedIsRead, FoundIsPrinted, PlaceIsLeast, RoundIsNearest, OnlyOneIsNearest, NearestToText, ReadIsNearest, IsNearest, TextsAreServed}
use Rattle.lexical_read_float_spec.proofs.ParseLaws.{Apart, print_sign, parse_print}
use Rattle.lexical_read_float_spec.proofs.PlaceLaws.{found_prints, wrong_at}
use Rattle.lexical_read_float_spec.proofs.NearestLaws.{round_nearest, only_nearest}

no_digit : (radix x : ℕ) → is_digit radix x ≡ false → digit_in radix x ≡ None
unfolding is_digit
no_digit radix x = go (digit_in radix x)
  where
    go : (o : Option ℕ) → is_some o ≡ false → o ≡ None
    go None e = refl
    go (Some d) e = absurd (let z : ◌≡◌ {A = ℕ} 0 1 = cc in omega arith)

-- the checks keep point, mark and digits apart
pub apart : (F : NumberFormat) (o : Options) (row : Pair) → reading_format F o ≡ done row → Apart (grammar_of F o)
apart F o row e =
    let r = readable F o row e in
    let q = radix_bounds F.exponent_radix r.power in
    record {
      radix_pos = rw r.radix_is (pow_pos row.b);
      radix_small = rw r.radix_is (pow_mono r.pair.few_bits);
      power_pos = omega arith;
      power_small = q.1;
      point_off = no_digit F.mantissa_radix o.decimal_point r.point.off;
      mark_off = no_digit F.mantissa_radix o.exponent r.mark.off;
      differ = ne_eqb o.exponent o.decimal_point (λ z. eqb-false o.decimal_point o.exponent r.differ (sym z));
    }

pub printed_is_read : PrintedIsRead
unfolding shape_of
printed_is_read F o row s e w = ap (of_parsed (print (grammar_of F o) s)) (parse_print (grammar_of F o) (apart F o row e) s w)

pub found_is_printed : FoundIsPrinted
unfolding shape_of
found_is_printed F o row t s e h = found_prints (grammar_of F o) (apart F o row e) t s (go (parse (grammar_of F o) t) h)
  where
    go : (p : Parsed Shape) → of_parsed t p ≡ done s → p ≡ found s
    go (found z) q = let same : z ≡ s = cc in ap found same
    go (stuck left) q = absurd (refused_done 9 _ s q)

pub place_is_least : PlaceIsLeast
unfolding shape_of
place_is_least F o row t n i e h = go (parse (grammar_of F o) t) refl h
  where
    go : (p : Parsed Shape) → parse (grammar_of F o) t ≡ p → of_parsed t p ≡ refused n i → (n ≡ 9) × WrongAt (grammar_of F o) t i
    go (found z) p q = absurd (refused_done n i z (sym q))
    go (stuck left) p q =
        let number : 9 ≡ n = cc in
        let place : length t - length left ≡ i = cc in
        (sym number, subst (WrongAt (grammar_of F o) t) place (wrong_at (grammar_of F o) (apart F o row e) t left p))

-- ---- rounding
pub round_is_nearest : RoundIsNearest
round_is_nearest = round_nearest

pub only_one_is_nearest : OnlyOneIsNearest
only_one_is_nearest f s a c x C h n = only_nearest f s a c C h x n

-- ---- the float read
pub denominator_pos : (row : Pair) (power : ℕ) (s : Shape) → 0 < denominator row power s
unfolding denominator
denominator_pos row power s = mul-pos (pow_pos (row.b * length s.fraction)) (go (has_minus s.tail))
  where
    go : (b : Bool) → 0 < cond b (base_power row power s) 1
    go true = pow_pos (row.c * magnitude power s.tail)
    go false = omega arith

-- a value that is read is not too large, and rounded
float_nearest : (f : Format) (s : Bool) (a c : ℕ) (x : Float) → 0 < c → float_of f s a c ≡ done x → Nearest f s a c x
unfolding float_of
float_nearest f s a c x C h = go (too_large f a c) refl h
  where
    go : (b : Bool) → too_large f a c ≡ b → cond b (refused 11 0) (done (round f s a c)) ≡ done x → Nearest f s a c x
    go true p q = absurd (refused_done 11 0 x q)
    go false p q = let same : round f s a c ≡ x = cc in subst (Nearest f s a c) same (round_nearest f s a c C p)

value_nearest : (f : Format) (row : Pair) (power : ℕ) (t : List ℕ) (s : Shape) (x : Float) → value_of f row power t s ≡ done x → Nearest f s.negative (numerator row power s) (denominator row power s) x
unfolding value_of
value_nearest f row power t s x h = go (exponent_too_large power s.tail) h
  where
    go : (b : Bool) → elim b [ true ↦ refused 10 (exponent_place t s.tail) | false ↦ float_of f s.negative (numerator row power s) (denominator row power s) ] ≡ done x
        → Nearest f s.negative (numerator row power s) (denominator row power s) x
    go true q = absurd (refused_done 10 _ x q)
    go false q = float_nearest f s.negative (numerator row power s) (denominator row power s) x (denominator_pos row power s) q

-- a float has the sign of its value, and a text's shape the sign that the text begins with
value_sign : (x : Float) (s : Bool) (a c : ℕ) → HasValue x s a c → sign_bit x ≡ s
value_sign nan s a c h = absurd h
value_sign (inf t) s a c h = absurd h
value_sign (fin t m e) s a c h = h.0

shape_sign : (F : NumberFormat) (o : Options) (row : Pair) (t : List ℕ) (s : Shape) → reading_format F o ≡ done row → shape_of (grammar_of F o) t ≡ done s → s.negative ≡ begins_with 45 t
shape_sign F o row t s e h =
    let p = found_is_printed F o row t s e h in
    sym (print_sign (grammar_of F o) (apart F o row e) s p.0) ∙ ap (begins_with 45) p.1

pub read_is_nearest : ReadIsNearest
unfolding read_float read_text
read_is_nearest f F o t x h = go (reading_format F o) refl h
  where
    shaped : (row : Pair) → reading_format F o ≡ done row → (a : Answer Shape) → shape_of (grammar_of F o) t ≡ a → and_then a (value_of f row F.exponent_radix t) ≡ done x → NearestToText f F o t x
    shaped row e (done s) p q =
        let n = value_nearest f row F.exponent_radix t s x q in
        record { row = row; shape = s; admitted = e; shaped = p; nearest = n; sign = value_sign x s.negative _ _ n.signed ∙ shape_sign F o row t s e p }
    shaped row e (refused n i) p q = absurd (refused_done n i x q)

    short : (row : Pair) → reading_format F o ≡ done row → (b : Bool) → cond b (refused 12 0) (and_then (shape_of (grammar_of F o) t) (value_of f row F.exponent_radix t)) ≡ done x → NearestToText f F o t x
    short row e true q = absurd (refused_done 12 0 x q)
    short row e false q = shaped row e (shape_of (grammar_of F o) t) refl q

    go : (a : Answer Pair) → reading_format F o ≡ a → and_then a (read_text f (grammar_of F o) t) ≡ done x → NearestToText f F o t x
    go (done row) e q = short row e (ltb longest_read (length t)) q
    go (refused n i) e q = absurd (refused_done n i x q)

pub answer_nearest : (f : Format) (F : NumberFormat) (o : Options) (t : List ℕ) → IsNearest f F o t (read_float f F o t)
answer_nearest f F o t = go (read_float f F o t) refl
  where
    go : (a : Answer Float) → read_float f F o t ≡ a → IsNearest f F o t a
    go (done x) e = read_is_nearest f F o t x e
    go (refused n p) e = tt

-- ---- the value, once test 10 is decided
module _ (f : Format) (row : Pair) (power : ℕ) (t : List ℕ) (s : Shape) where
  abbrev decided : Bool → Answer Float
  decided b = elim b [ true ↦ refused 10 (exponent_place t s.tail) | false ↦ float_of f s.negative (numerator row power s) (denominator row power s) ]

  pub value_within : magnitude power s.tail ≤ greatest_exponent → value_of f row power t s ≡ float_of f s.negative (numerator row power s) (denominator row power s)
  unfolding value_of exponent_too_large
  value_within h = ap decided (le-ltb greatest_exponent (magnitude power s.tail) h)

  pub value_beyond : greatest_exponent < magnitude power s.tail → value_of f row power t s ≡ refused 10 (exponent_place t s.tail)
  unfolding value_of exponent_too_large
  value_beyond h = ap decided (lt-ltb greatest_exponent (magnitude power s.tail) h)

-- ---- no text of a shape is refused
pub texts_are_served : TextsAreServed
unfolding read_float read_text float_of
texts_are_served f F o t row s e short formed printed small below =
    let shaped : shape_of (grammar_of F o) t ≡ done s = subst (λ (u : List ℕ). shape_of (grammar_of F o) u ≡ done s) printed (printed_is_read F o row s e formed) in
    rw (e, le-ltb longest_read (length t) short, shaped, value_within f row F.exponent_radix t s small, below)
