-- The text of a value under a format: document 01, "Layout", and document 02, 2.2. The value m * 2 ^ e is in normal form. Definitions only.
use Rattle.std.specs.Prelude.{ℕ, zero, suc, ◌+◌, ◌-◌, max, Bool, not, cond, ◌&&◌, ◌||◌, List, [], ◌∷◌, ◌++◌, ltb, ℤ, pos, negsuc, length, take, drop, replicate}
use Rattle.std.specs.Int.Signed.{lt_z}
use Rattle.lexical_exponent.specs.Exponent.{scale, place, power, zeros_behind_point, places_before_point}
use Rattle.lexical_write_integer_spec.specs.Digits.{numeral}
use Rattle.lexical_format.specs.declared.format.Pair.{Pair}
use Rattle.lexical_format.specs.declared.format.NumberFormat.{NumberFormat}
use Rattle.lexical_format.specs.declared.options.Options.{Options}
use Rattle.lexical_format.specs.Format.{low_break, high_break}
use Rattle.lexical_write_float_spec.specs.declared.layout.Layout.{Layout}
use Rattle.lexical_write_float_spec.specs.declared.layout.Layout.TheVariants.{Scientific, Negative, Positive}
use Rattle.lexical_write_float_spec.specs.Value.{exact_digits}

-- n times "0"
abbrev pub zeros : ℕ → List ℕ
zeros n = replicate n 48

module _ (F : NumberFormat) (o : Options) where
  -- the options that the layouts use
  abbrev pub point : ℕ
  point = o.decimal_point

  abbrev pub least : ℕ
  least = o.min_significant_digits

  abbrev pub trim : Bool
  trim = o.trim_floats

  -- ---- which layout: the breaks are held against s, in bits
  -- scientific if not `no_exponent_notation` and (required, or s < low, or s > high)
  unfoldable pub is_scientific : ℤ → Bool
  is_scientific s = not F.no_exponent_notation && (F.required_exponent_notation || (lt_z s (low_break o) || lt_z (high_break o) s))

  -- else negative layout if s < 0, else positive
  unfoldable pub layout_of : ℤ → Layout
  layout_of s = cond (is_scientific s) Scientific (cond (lt_z s (pos 0)) Negative Positive)

  -- ---- scientific: first digit, point, the rest
  -- D of one digit: with trim and without `no_exponent_without_fraction`, the digit alone; otherwise ".0", or zeros up to the least count
  abbrev pub after_one_digit : List ℕ
  after_one_digit = cond (trim && not F.no_exponent_without_fraction) [] (point ∷ zeros (max 1 (least - 1)))

  -- longer D: zeros up to the least count
  unfoldable pub scientific : List ℕ → List ℕ
  scientific D = take 1 D ++ cond (ltb 1 (length D)) (point ∷ (drop 1 D ++ zeros (least - length D))) after_one_digit

  -- then mark, "-" if negative or "+" if that flag is set
  abbrev pub exponent_sign : ℤ → List ℕ
  exponent_sign (negsuc n) = 45 ∷ []
  exponent_sign (pos n) = cond F.required_exponent_sign (43 ∷ []) []

  -- and the magnitude of p * b / c in exponent radix, with zeros in front up to the exponent's width
  unfoldable pub exponent_text : Pair → ℤ → List ℕ
  exponent_text row p = o.exponent ∷ (exponent_sign p ++ numeral F.exponent_radix o.exponent_width (power row.b row.c p))

  -- ---- negative: "0", point, -p-1 zeros, D, zeros up to the least count
  unfoldable pub negative : List ℕ → ℤ → List ℕ
  negative D p = 48 ∷ (point ∷ (zeros (zeros_behind_point p) ++ (D ++ zeros (least - length D))))

  -- ---- positive, p+1 places before the point
  -- zeros fill the places; trim stops there; without it ".0" follows, then zeros as if `so_far` were the digits so far
  abbrev pub after_places : ℕ → List ℕ
  after_places so_far = cond trim [] (point ∷ (48 ∷ zeros (least - so_far)))

  -- if D is longer, the point goes after the places and zeros fill D to the least count
  unfoldable pub positive : List ℕ → ℕ → ℕ → List ℕ
  positive D places so_far =
      cond (ltb places (length D))
      (take places D ++ (point ∷ (drop places D ++ zeros (least - length D))))
      (D ++ (zeros (places - length D) ++ after_places so_far))

  -- ---- the text by its layout
  abbrev pub laid_out : Pair → List ℕ → ℤ → ℕ → Layout → List ℕ
  laid_out row D p so_far Scientific = scientific D ++ exponent_text row p
  laid_out row D p so_far Negative = negative D p
  laid_out row D p so_far Positive = positive D (places_before_point p) so_far

  -- the length of D plus one, for zero 1
  abbrev pub digits_so_far : ℕ → List ℕ → ℕ
  digits_so_far zero D = 1
  digits_so_far (suc m) D = length D + 1

  unfoldable pub text : Pair → ℕ → ℤ → List ℕ
  text row m e =
      let D = exact_digits row.b m e in
      let s = scale m e in
      laid_out row D (place row.b s) (digits_so_far m D) (layout_of s)
