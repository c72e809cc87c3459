-- The shape of a written text has digits of its radices, and one at least where one must be. Assumes nothing.
use Prim.Native.Nat.{ℕ, zero, suc, ◌+◌, ◌-◌, ◌*◌, ◌/◌, ◌^◌, ◌<◌, max}
use mathlib.Core.Path.{refl}
use mathlib.Core.Bool.{Bool, true, false, not, cond, ◌&&◌}
use mathlib.Core.List.{List, [], ◌∷◌, ◌++◌}
use native.Mathlib.Omega.{arith}
use native.Mathlib.Numerals.{add-one}
use lib.Dec.{ltb}
use lib.IntN.{ℤ, nat_abs}
use lib.ListN.{length, take, drop}
use lib.Pow.{pow_pos}
use Rattle.lexical_util.specs.Digit.{AreDigits}
use Rattle.lexical_exponent.specs.Exponent.{scale, place, modulo}
use Rattle.lexical_util.proofs.RadixLaws.{radix_bounds}
use Rattle.lexical_write_integer_spec.specs.Digits.{digits, widened}
use Rattle.lexical_write_integer_spec.proofs.DigitsLaws.{radix_above, digits_below, count_pos}
use Rattle.lexical_write_integer_spec.proofs.NumeralLaws.{length_widened, widened_below}
use Rattle.lexical_format.specs.declared.format.Pair.{Pair}
use Rattle.lexical_format.specs.declared.format.NumberFormat.{NumberFormat}
use Rattle.lexical_format.specs.declared.options.Options.{Options}
use Rattle.lexical_format.proofs.FormatLaws.{Readable}
use Rattle.lexical_write_float_spec.specs.declared.layout.Layout.{Layout}
use Rattle.lexical_write_float_spec.specs.declared.layout.Layout.TheVariants.{Scientific, Negative, Positive}
use Rattle.lexical_write_float_spec.specs.Value.{exact_digits}
use Rattle.lexical_write_float_spec.specs.Text.{least, trim, layout_of, digits_so_far}
use Rattle.lexical_read_float_spec.specs.Shape.{Grammar, Tail, absent, Some, TailFits, FractionFits, WellFormed}
use Rattle.lexical_read_float_spec.specs.Parse.{with_tail}
use Rattle.lexical_read_float_spec.specs.Read.{grammar_of}
use Rattle.lexical_read_float_spec.proofs.RunLaws.{digits_append}
use Rattle.lexical_rewrite_spec.proofs.TextShape.{noughts, tail_of, pad, scientific_shape, negative_shape, positive_shape, shape_in, shape_of_text}

-- ---- lists of digits
digits_take : (r n : ℕ) (s : List ℕ) → AreDigits r s → AreDigits r (take n s)
digits_take r zero s h = tt
digits_take r (suc n) [] h = tt
digits_take r (suc n) (d ∷ s) h = (h.0, digits_take r n s h.1)

digits_drop : (r n : ℕ) (s : List ℕ) → AreDigits r s → AreDigits r (drop n s)
digits_drop r zero s h = h
digits_drop r (suc n) [] h = tt
digits_drop r (suc n) (d ∷ s) h = digits_drop r n s h.1

digits_noughts : (r n : ℕ) → 0 < r → AreDigits r (noughts n)
digits_noughts r zero h = tt
digits_noughts r (suc n) h = (h, digits_noughts r n h)

pub some_digits : (ds : List ℕ) → 0 < length ds → Some ds
some_digits [] h = absurd (omega arith)
some_digits (d ∷ ds) h = tt

some_append : (s t : List ℕ) → Some s → Some (s ++ t)
some_append [] t h = absurd h
some_append (d ∷ s) t h = tt

some_take : (n : ℕ) (s : List ℕ) → Some s → Some (take (suc n) s)
some_take n [] h = h
some_take n (d ∷ s) h = tt

module _ (F : NumberFormat) (o : Options) (row : Pair) (R : Readable F o row) where
  abbrev G : Grammar
  G = grammar_of F o

  radix_pos : 0 < F.mantissa_radix
  radix_pos = rw R.radix_is (pow_pos row.b)

  tail_fits : (p : ℤ) → TailFits F.exponent_radix (tail_of F o row p)
  tail_fits p =
      let q = radix_bounds F.exponent_radix R.power in
      let n = nat_abs p * row.b / row.c in
      let w = o.exponent_width in
      let ds = digits F.exponent_radix n in
      (some_digits (widened w ds) (omega (arith, length_widened w ds, count_pos F.exponent_radix n)), widened_below F.exponent_radix w n q.0)

  -- ---- each layout, of one digit or more
  module _ (ds : List ℕ) (some : Some ds) (all : AreDigits F.mantissa_radix ds) where
    padded : (n : ℕ) → AreDigits F.mantissa_radix (drop n ds ++ noughts (least F o - length ds))
    padded n = digits_append F.mantissa_radix (drop n ds) (pad F o row ds) (digits_drop F.mantissa_radix n ds all) (digits_noughts F.mantissa_radix (least F o - length ds) radix_pos)

    formed : (w f : List ℕ) (dot : Bool) (τ : Tail) → Some w → AreDigits F.mantissa_radix w → FractionFits dot f → AreDigits F.mantissa_radix f → TailFits F.exponent_radix τ → WellFormed G (with_tail w dot f τ)
    formed w f dot τ a b c d e = record { some_whole = a; whole_digits = b; fraction_fits = c; fraction_digits = d; tail_fits = e }

    formed_scientific : (τ : Tail) → TailFits F.exponent_radix τ → WellFormed G (scientific_shape F o row ds τ)
    unfolding scientific_shape
    formed_scientific τ h = go (ltb 1 (length ds)) (trim F o && not F.no_exponent_without_fraction)
      where
        first : AreDigits F.mantissa_radix (take 1 ds)
        first = digits_take F.mantissa_radix 1 ds all

        go : (a b : Bool) → WellFormed G (cond a (with_tail (take 1 ds) true (drop 1 ds ++ pad F o row ds) τ) (cond b (with_tail (take 1 ds) false [] τ) (with_tail (take 1 ds) true (noughts (max 1 (least F o - 1))) τ)))
        go true b = formed (take 1 ds) (drop 1 ds ++ pad F o row ds) true τ (some_take 0 ds some) first tt (padded 1) h
        go false true = formed (take 1 ds) [] false τ (some_take 0 ds some) first refl tt h
        go false false = formed (take 1 ds) (noughts (max 1 (least F o - 1))) true τ (some_take 0 ds some) first tt (digits_noughts F.mantissa_radix (max 1 (least F o - 1)) radix_pos) h

    formed_negative : (p : ℤ) → WellFormed G (negative_shape F o row ds p)
    unfolding negative_shape
    formed_negative p =
        formed (0 ∷ []) (noughts (nat_abs p - 1) ++ (ds ++ pad F o row ds)) true absent tt (radix_pos, tt) tt
        (digits_append F.mantissa_radix (noughts (nat_abs p - 1)) (ds ++ pad F o row ds) (digits_noughts F.mantissa_radix (nat_abs p - 1) radix_pos) (padded 0)) tt

    formed_positive : (p so_far : ℕ) → WellFormed G (positive_shape F o row ds (p + 1) so_far)
    unfolding positive_shape
    formed_positive p so_far = go (ltb (p + 1) (length ds)) (trim F o)
      where
        filled : AreDigits F.mantissa_radix (ds ++ noughts (p + 1 - length ds))
        filled = digits_append F.mantissa_radix ds (noughts (p + 1 - length ds)) all (digits_noughts F.mantissa_radix (p + 1 - length ds) radix_pos)

        whole : Some (take (p + 1) ds)
        whole = rw (add-one p) (some_take p ds some)

        go : (a b : Bool) → WellFormed G (cond a (with_tail (take (p + 1) ds) true (drop (p + 1) ds ++ pad F o row ds) absent) (cond b (with_tail (ds ++ noughts (p + 1 - length ds)) false [] absent) (with_tail (ds ++ noughts (p + 1 - length ds)) true (0 ∷ noughts (least F o - so_far)) absent)))
        go true b = formed (take (p + 1) ds) (drop (p + 1) ds ++ pad F o row ds) true absent whole (digits_take F.mantissa_radix (p + 1) ds all) tt (padded (p + 1)) tt
        go false true = formed (ds ++ noughts (p + 1 - length ds)) [] false absent (some_append ds (noughts (p + 1 - length ds)) some) filled refl tt tt
        go false false =
            formed (ds ++ noughts (p + 1 - length ds)) (0 ∷ noughts (least F o - so_far)) true absent (some_append ds (noughts (p + 1 - length ds)) some) filled tt
            (radix_pos, digits_noughts F.mantissa_radix (least F o - so_far) radix_pos) tt

    formed_in : (p : ℤ) (so_far : ℕ) (l : Layout) → WellFormed G (shape_in F o row ds p so_far l)
    formed_in p so_far Scientific = formed_scientific (tail_of F o row p) (tail_fits p)
    formed_in p so_far Negative = formed_negative p
    formed_in p so_far Positive = formed_positive (nat_abs p) so_far

  pub formed_text : (m : ℕ) (e : ℤ) → WellFormed G (shape_of_text F o row m e)
  unfolding shape_of_text
  formed_text m e =
      let r = radix_above row.b R.pair.some_bits in
      let n = m * 2 ^ modulo e row.b in
      formed_in (digits (2 ^ row.b) n) (some_digits (digits (2 ^ row.b) n) (count_pos (2 ^ row.b) n)) (rw R.radix_is (digits_below (2 ^ row.b) r n))
      (place row.b (scale m e)) (digits_so_far F o m (exact_digits row.b m e)) (layout_of F o (scale m e))
