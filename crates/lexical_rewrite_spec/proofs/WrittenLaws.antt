-- What is written is read back: as the same shape, and without a digit limit as the same float, whose value it denotes exactly. Assumes nothing.
use Prim.Native.Nat.{ℕ, ◌+◌, ◌-◌, ◌*◌, ◌≤◌, ◌<◌, zero-le, max}
use mathlib.Core.Path.{◌≡◌, refl, sym, ap, ◌∙◌, subst}
use mathlib.Core.Bool.{Bool, true, false, not, cond, ◌&&◌}
use mathlib.Core.List.{List, [], ◌∷◌, ◌++◌}
use native.Mathlib.Nat.{mul-le-mul, div-le_self}
use native.Mathlib.Omega.{arith}
use borrow.Author.Tests.{le-ltb}
use lib.Dec.{T, ltb}
use lib.IntN.{ℤ, nat_abs}
use lib.ListN.{length, take, drop}
use lib.Ieee.{Float, nan, inf, fin, Format, fits}
use lib.Ieee.Exact.{HasValue}
use Rattle.lexical_util.specs.Answer.{Answer, done, refused, and_then}
use Rattle.lexical_exponent.specs.Exponent.{scale, place, power}
use Rattle.lexical_util.proofs.AnswerLaws.{refused_done, done_same}
use Rattle.lexical_util.proofs.RadixLaws.{radix_bounds}
use Rattle.lexical_write_integer_spec.proofs.NumeralLaws.{widened_value}
use Rattle.lexical_float.specs.Sign.{minus_sign}
use Rattle.lexical_format.specs.declared.format.Pair.{Pair}
use Rattle.lexical_format.specs.declared.format.NumberFormat.{NumberFormat}
use Rattle.lexical_format.specs.declared.options.Options.{Options}
use Rattle.lexical_format.specs.Format.{reading_format, writing_format}
use Rattle.lexical_format.proofs.FormatLaws.{Readable, readable, writable_reads}
use Rattle.lexical_write_float_spec.specs.declared.layout.Layout.{Layout}
use Rattle.lexical_write_float_spec.specs.declared.layout.Layout.TheVariants.{Scientific, Negative, Positive}
use Rattle.lexical_write_float_spec.specs.Limit.{limited}
use Rattle.lexical_write_float_spec.specs.Text.{least, trim, layout_of, digits_so_far, text}
use Rattle.lexical_write_float_spec.specs.Value.{exact_digits}
use Rattle.lexical_write_float_spec.specs.Write.{limited_text, float_text, write_text, longest_text}
use Rattle.lexical_write_float_spec.specs.Range.{Ranged}
use Rattle.lexical_write_float_spec.proofs.RangeLaws.{fits_ranged, place_near}
use Rattle.lexical_write_float_spec.proofs.WriteLaws.{longest_text_lem}
use Rattle.lexical_read_float_spec.specs.Shape.{Tail, absent, Shape, print, WellFormed}
use Rattle.lexical_read_float_spec.specs.Parse.{with_tail, with_sign, shape_of}
use Rattle.lexical_read_float_spec.specs.Read.{grammar_of, magnitude, numerator, denominator, float_of, exponent_too_large, exponent_place, value_of, read_text, read_float, longest_read, greatest_exponent}
use Rattle.lexical_read_float_spec.proofs.Edge.{not_too_large}
use Rattle.lexical_read_float_spec.proofs.ParseLaws.{formed_signed}
use Rattle.lexical_read_float_spec.proofs.ReadLaws.{printed_is_read, denominator_pos}
use Rattle.lexical_float.proofs.FloatLaws.{round_of_value}
use Rattle.lexical_rewrite_spec.specs.Claims.{ReadAsShape, WrittenIsShaped, Denotes, WrittenIsExact, WrittenIsReadBack}
use Rattle.lexical_rewrite_spec.proofs.TextShape.{tail_of, pad, noughts, digits_in, scientific_shape, negative_shape, positive_shape, shape_in, shape_of_text, print_text}
use Rattle.lexical_rewrite_spec.proofs.WellFormedText.{formed_text}
use Rattle.lexical_rewrite_spec.proofs.TextValue.{text_value}

-- ---- the shape
module _ (F : NumberFormat) (o : Options) (row : Pair) (w : writing_format F o ≡ done row) (s : Bool) (m : ℕ) (e : ℤ) where
  reads : reading_format F o ≡ done row
  reads = writable_reads F o row w

  abbrev signed_shape : Shape
  signed_shape = with_sign s (shape_of_text F o row m e)

  formed : WellFormed (grammar_of F o) signed_shape
  formed = formed_signed (grammar_of F o) s (shape_of_text F o row m e) (formed_text F o row (readable F o row reads) m e)

  prints : print (grammar_of F o) signed_shape ≡ minus_sign s ++ text F o row m e
  unfolding print
  prints = ap (λ (t : List ℕ). minus_sign s ++ t) (print_text F o row m e)

  text_found : shape_of (grammar_of F o) (minus_sign s ++ text F o row m e) ≡ done signed_shape
  text_found = ap (shape_of (grammar_of F o)) (sym prints) ∙ printed_is_read F o row signed_shape reads formed

  text_shaped : ReadAsShape F o (minus_sign s ++ text F o row m e)
  text_shaped = record { shape = signed_shape; formed = formed; printed = prints; found = text_found }

-- what was written, under an admitted format, of a finite float
by_float : (F : NumberFormat) (o : Options) (P : List ℕ → Float → Type 0) → ((row : Pair) → writing_format F o ≡ done row → (s : Bool) (m : ℕ) (e : ℤ) → P (minus_sign s ++ limited_text F o row m e) (fin s m e))
    → (x : Float) (t : List ℕ) → write_text F o x ≡ done t → P t x
unfolding write_text float_text
by_float F o P step x t e = go (writing_format F o) refl x e
  where
    go : (a : Answer Pair) → writing_format F o ≡ a → (x : Float) → and_then a (float_text F o x) ≡ done t → P t x
    go (refused n p) w x e = absurd (refused_done n p t e)
    go (done row) w nan e = absurd (refused_done 7 0 t e)
    go (done row) w (inf s) e = absurd (refused_done 7 0 t e)
    go (done row) w (fin s m d) e = subst (λ (l : List ℕ). P l (fin s m d)) (done_same (minus_sign s ++ limited_text F o row m d) t e) (step row w s m d)

pub written_is_shaped : WrittenIsShaped
written_is_shaped F o x t e = by_float F o (λ l y. ReadAsShape F o l) (λ row w s m d. unfold limited_text in text_shaped F o row w s _ _) x t e

-- ---- the value, without a limit
unlimited : (F : NumberFormat) (o : Options) (row : Pair) (m : ℕ) (e : ℤ) → o.max_significant_digits ≡ 0 → limited_text F o row m e ≡ text F o row m e
unfolding limited_text limited
unlimited F o row m e h = rw h

-- the sign has no part in a shape's size
signed_value : (F : NumberFormat) (o : Options) (row : Pair) (w : writing_format F o ≡ done row) (s : Bool) (m : ℕ) (e : ℤ)
    → HasValue (fin s m e) s (numerator row F.exponent_radix (signed_shape F o row w s m e)) (denominator row F.exponent_radix (signed_shape F o row w s m e))
unfolding numerator denominator
signed_value F o row w s m e = (refl, text_value F o row (readable F o row (reads F o row w s m e)) m e)

pub written_is_exact : WrittenIsExact
written_is_exact F o x t none e = by_float F o (λ l y. Denotes F o l y) step x t e
  where
    step : (row : Pair) → writing_format F o ≡ done row → (s : Bool) (m : ℕ) (e : ℤ) → Denotes F o (minus_sign s ++ limited_text F o row m e) (fin s m e)
    step row w s m e =
        record {
          row = row;
          shape = signed_shape F o row w s m e;
          admitted = reads F o row w s m e;
          shaped = ap (λ (t : List ℕ). shape_of (grammar_of F o) (minus_sign s ++ t)) (unlimited F o row m e none) ∙ text_found F o row w s m e;
          value = signed_value F o row w s m e;
        }

-- ---- the exponent is never too large
module _ (F : NumberFormat) (o : Options) (row : Pair) (R : Readable F o row) where
  abbrev small : Tail → Type 0
  small τ = magnitude F.exponent_radix τ ≤ greatest_exponent

  small_tail : (p : ℤ) → nat_abs p ≤ 1074 → small (tail_of F o row p)
  small_tail p h =
      let q = radix_bounds F.exponent_radix R.power in
      let x : nat_abs p * row.b ≤ 1074 * 5 = mul-le-mul h R.pair.few_bits in
      rw (widened_value F.exponent_radix o.exponent_width (power row.b row.c p) q.0) (omega (arith, div-le_self (nat_abs p * row.b) row.c))

  tail_either : (a : Bool) (s t : Shape) → small s.tail → small t.tail → small (cond a s t).tail
  tail_either true s t h k = h
  tail_either false s t h k = k

  tail_in : (ds : List ℕ) (p : ℤ) (so_far : ℕ) (l : Layout) → nat_abs p ≤ 1074 → small (shape_in F o row ds p so_far l).tail
  unfolding scientific_shape negative_shape positive_shape
  tail_in ds p so_far Scientific h =
      let k = small_tail p h in
      tail_either (ltb 1 (length ds)) (with_tail (take 1 ds) true (drop 1 ds ++ pad F o row ds) (tail_of F o row p)) _ k
      (tail_either (trim F o && not F.no_exponent_without_fraction) (with_tail (take 1 ds) false [] (tail_of F o row p)) (with_tail (take 1 ds) true (noughts (max 1 (least F o - 1))) (tail_of F o row p)) k k)
  tail_in ds p so_far Negative h = zero-le
  tail_in ds p so_far Positive h =
      let n : ℕ = nat_abs p + 1 in
      tail_either (ltb n (length ds)) (with_tail (take n ds) true (drop n ds ++ pad F o row ds) absent) _ zero-le
      (tail_either (trim F o) (with_tail (ds ++ noughts (n - length ds)) false [] absent) (with_tail (ds ++ noughts (n - length ds)) true (0 ∷ noughts (least F o - so_far)) absent) zero-le zero-le)

  text_small : (m : ℕ) (e : ℤ) → Ranged m e → exponent_too_large F.exponent_radix (shape_of_text F o row m e).tail ≡ false
  unfolding exponent_too_large shape_of_text
  text_small m e r =
      le-ltb greatest_exponent (magnitude F.exponent_radix (shape_of_text F o row m e).tail)
      (tail_in (digits_in F o row m e) (place row.b (scale m e)) (digits_so_far F o m (exact_digits row.b m e)) (layout_of F o (scale m e)) (place_near row.b (scale m e) r.near))

-- ---- read back
float_done : (f : Format) (s : Bool) (x : Float) (a c : ℕ) → 0 < c → T (fits f x) → HasValue x s a c → float_of f s a c ≡ done x
unfolding float_of
float_done f s x a c C h v = rw (not_too_large f x s a c C h v, round_of_value f s x a c C h v)

value_done : (f : Format) (row : Pair) (E : ℕ) (t : List ℕ) (s : Shape) (x : Float) → exponent_too_large E s.tail ≡ false → T (fits f x) → HasValue x s.negative (numerator row E s) (denominator row E s) → value_of f row E t s ≡ done x
unfolding value_of
value_done f row E t s x small h v = go (exponent_too_large E s.tail) small
  where
    go : (b : Bool) → b ≡ false → elim b [ true ↦ refused 10 (exponent_place t s.tail) | false ↦ float_of f s.negative (numerator row E s) (denominator row E s) ] ≡ done x
    go true e = absurd (let z : ◌≡◌ {A = ℕ} 0 1 = cc in omega arith)
    go false e = float_done f s.negative x (numerator row E s) (denominator row E s) (denominator_pos row E s) h v

text_read : (f : Format) (F : NumberFormat) (o : Options) (row : Pair) → writing_format F o ≡ done row → (s : Bool) (m : ℕ) (e : ℤ) → T (fits f (fin s m e)) → length (minus_sign s ++ text F o row m e) ≤ longest_text
    → read_float f F o (minus_sign s ++ text F o row m e) ≡ done (fin s m e)
unfolding read_float read_text
text_read f F o row w s m e h l =
    let R = readable F o row (reads F o row w s m e) in
    rw (reads F o row w s m e, le-ltb longest_read (length (minus_sign s ++ text F o row m e)) (omega arith), text_found F o row w s m e)
    (value_done f row F.exponent_radix (minus_sign s ++ text F o row m e) (signed_shape F o row w s m e) (fin s m e) (text_small F o row R m e (fits_ranged f s m e h)) h (signed_value F o row w s m e))

pub written_is_read_back : WrittenIsReadBack
written_is_read_back f F o x t h none e = by_float F o (λ l y. T (fits f y) → length l ≤ longest_text → read_float f F o l ≡ done y) step x t e h (longest_text_lem f F o x t h e)
  where
    step : (row : Pair) → writing_format F o ≡ done row → (s : Bool) (m : ℕ) (e : ℤ) → T (fits f (fin s m e)) → length (minus_sign s ++ limited_text F o row m e) ≤ longest_text → read_float f F o (minus_sign s ++ limited_text F o row m e) ≡ done (fin s m e)
    step row w s m e h l = rw (unlimited F o row m e none) (text_read f F o row w s m e h (rw (unlimited F o row m e none) at l))
