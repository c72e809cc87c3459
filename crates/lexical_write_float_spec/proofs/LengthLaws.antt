-- How long a magnitude's text is, by its layout: with at most 64 digits in D and 1,200 least digits, and s from -1,074 to 1,024, less than `longest_text` bytes. Assumes nothing.
use Prim.Native.Nat.{ℕ, ◌+◌, ◌-◌, ◌*◌, ◌/◌, ◌≤◌, ◌<◌, min, max}
use mathlib.Core.Path.{◌≡◌}
use mathlib.Core.Bool.{Bool, true, false, not, cond, ◌&&◌}
use mathlib.Core.List.{List, [], ◌∷◌, ◌++◌}
use native.Mathlib.Nat.{lt_of_lt_of_le, mul-le-mul, div-le_self, pow-le-pow_left}
use native.Mathlib.Omega.{arith}
use lib.Dec.{ltb, leb-suc-zero}
use lib.IntN.{ℤ, pos, negsuc, nat_abs}
use lib.Signed.{lt_z}
use lib.ListN.{length, take, drop, length-append, length-replicate, length-take, length-drop}
use Rattle.lexical_util.specs.Digit.{is_radix, is_width}
use Rattle.lexical_exponent.specs.Exponent.{scale, place, power}
use Rattle.lexical_util.proofs.RadixLaws.{radix_bounds}
use Rattle.lexical_util.proofs.WidthLaws.{width_bounds}
use Rattle.lexical_write_integer_spec.specs.Digits.{numeral}
use Rattle.lexical_write_integer_spec.proofs.DigitsLaws.{count_le}
use Rattle.lexical_write_integer_spec.proofs.NumeralLaws.{length_numeral}
use Rattle.lexical_format.specs.declared.format.Pair.{Pair}
use Rattle.lexical_format.specs.declared.format.NumberFormat.{NumberFormat}
use Rattle.lexical_format.specs.declared.options.Options.{Options}
use Rattle.lexical_format.proofs.FormatLaws.{Writable}
use Rattle.lexical_write_float_spec.specs.declared.layout.Layout.TheVariants.{Scientific, Negative, Positive}
use Rattle.lexical_write_float_spec.specs.Value.{exact_digits}
use Rattle.lexical_write_float_spec.specs.Range.{Between, Ranged}
use Rattle.lexical_write_float_spec.specs.Text.{zeros, point, least, trim, is_scientific, layout_of, scientific, exponent_sign, exponent_text, negative, positive, laid_out, digits_so_far, text}
use Rattle.lexical_write_float_spec.proofs.ValueLaws.{exact_few}
use Rattle.lexical_write_float_spec.proofs.RangeLaws.{place_near}
use Rattle.lexical_write_float_spec.specs.Write.{longest_text}
use Rattle.lexical_format.specs.Format.{most_count}

-- a magnitude below 2 ^ 13 has at most 13 digits in any radix, and in any width
pub few_digits : (radix width n : ℕ) → is_radix radix ≡ true → is_width width ≡ true → n < 8192 → length (numeral radix width n) ≤ 13
few_digits radix width n R W h =
    let q = radix_bounds radix R in
    omega (arith, length_numeral radix width n, (width_bounds width W).1, count_le radix q.0 12 n (lt_of_lt_of_le h (pow-le-pow_left q.0 13)))

-- p * b / c is below 2 ^ 13
pub power_few : (b c : ℕ) (p : ℤ) → b ≤ 5 → nat_abs p ≤ 1074 → power b c p < 8192
power_few b c p K h =
    let x : nat_abs p * b ≤ 1074 * 5 = mul-le-mul h K in
    omega (arith, div-le_self (nat_abs p * b) c)

module _ (F : NumberFormat) (o : Options) (row : Pair) (W : Writable F o row) where
  -- ---- each layout, for a D of at most 64 digits
  module _ (D : List ℕ) (few : length D ≤ 64) where
    scientific_length : length (scientific F o D) ≤ 1300
    unfolding scientific
    scientific_length = simp (length-append, length-take) (go (ltb 1 (length D)) (trim F o && not F.no_exponent_without_fraction))
      where
        l : least F o ≤ most_count
        l = W.least

        go : (a b : Bool) → min 1 (length D) + length (cond a (point F o ∷ (drop 1 D ++ zeros (least F o - length D))) (cond b [] (point F o ∷ zeros (max 1 (least F o - 1))))) ≤ 1300
        go true b = simp (length-append, length-drop, length-replicate) (omega (arith, l, few))
        go false true = omega arith
        go false false = simp length-replicate (omega (arith, l))

    negative_length : (p : ℤ) → nat_abs p ≤ 1074 → length (negative F o D p) < longest_text
    unfolding negative
    negative_length p h = let l = W.least in simp (length-append, length-replicate) (omega arith)

    positive_length : (places so_far : ℕ) → places ≤ 1025 → length (positive F o D places so_far) < longest_text
    unfolding positive
    positive_length places so_far h = go (ltb places (length D)) (trim F o)
      where
        l : least F o ≤ most_count
        l = W.least

        go : (a b : Bool) → length (cond a (take places D ++ (point F o ∷ (drop places D ++ zeros (least F o - length D)))) (D ++ (zeros (places - length D) ++ cond b [] (point F o ∷ (48 ∷ zeros (least F o - so_far)))))) < longest_text
        go true b = simp (length-append, length-take, length-drop, length-replicate) (omega (arith, l, few, h))
        go false true = simp (length-append, length-replicate) (omega (arith, few, h))
        go false false = simp (length-append, length-replicate) (omega (arith, l, few, h))

  -- ---- the exponent: its magnitude is below 2 ^ 13, so it has at most 13 digits
  sign_length : (p : ℤ) → length (exponent_sign F o p) ≤ 1
  sign_length (negsuc n) = omega arith
  sign_length (pos n) = go F.required_exponent_sign
    where
      go : (b : Bool) → length {A = ℕ} (cond b (43 ∷ []) []) ≤ 1
      go true = omega arith
      go false = omega arith

  exponent_length : (p : ℤ) → nat_abs p ≤ 1074 → length (exponent_text F o row p) ≤ 15
  unfolding exponent_text
  exponent_length p h =
      let R = W.reads in
      simp length-append (omega (arith, sign_length p, few_digits F.exponent_radix o.exponent_width (power row.b row.c p) R.power W.width (power_few row.b row.c p R.pair.few_bits h)))

  -- ---- the whole text
  laid_length : (D : List ℕ) (so_far : ℕ) (s : ℤ) → length D ≤ 64 → Between 1074 1024 s → length (laid_out F o row D (place row.b s) so_far (layout_of F o s)) < longest_text
  unfolding layout_of
  laid_length D so_far s few h = go (is_scientific F o s) s h
    where
      go : (b : Bool) (s : ℤ) → Between 1074 1024 s → length (laid_out F o row D (place row.b s) so_far (cond b Scientific (cond (lt_z s (pos 0)) Negative Positive))) < longest_text
      go true s h = simp length-append (omega (arith, scientific_length D few, exponent_length (place row.b s) (place_near row.b s h)))
      go false (pos n) h = rw (leb-suc-zero n) (positive_length D few (n / row.b + 1) so_far (omega (arith, div-le_self n row.b)))
      go false (negsuc n) h = negative_length D few (negsuc (n / row.b)) (omega (arith, div-le_self n row.b))

  pub text_length : (m : ℕ) (e : ℤ) → Ranged m e → length (text F o row m e) < longest_text
  unfolding text
  text_length m e r = laid_length (exact_digits row.b m e) (digits_so_far F o m (exact_digits row.b m e)) (scale m e) (exact_few row.b m e W.reads.pair.some_bits W.reads.pair.few_bits r.few) r.near
