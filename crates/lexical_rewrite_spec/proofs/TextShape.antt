-- Every magnitude's text that is written is the text of a shape without a sign, which the format's grammar has. Assumes nothing.
use Prim.Native.Nat.{ℕ, zero, suc, ◌+◌, ◌-◌, ◌*◌, ◌/◌, ◌^◌, max}
use mathlib.Core.Path.{◌≡◌, refl, sym, ap, ◌∙◌}
use mathlib.Core.Bool.{Bool, true, false, not, cond, ◌&&◌}
use mathlib.Core.List.{List, [], ◌∷◌, ◌++◌, map, append_assoc, append-nil, map-append}
use lib.Dec.{ltb}
use lib.IntN.{ℤ, pos, negsuc, nat_abs}
use lib.ListN.{length, take, drop, replicate, length-map}
use Rattle.lexical_util.specs.Digit.{digit_byte}
use Rattle.lexical_exponent.specs.Exponent.{scale, place, modulo}
use Rattle.lexical_write_integer_spec.specs.Digits.{digits, widened, numeral}
use Rattle.lexical_write_integer_spec.proofs.NumeralLaws.{numeral_one}
use Rattle.lexical_format.specs.declared.format.Pair.{Pair}
use Rattle.lexical_format.specs.declared.format.NumberFormat.{NumberFormat}
use Rattle.lexical_format.specs.declared.options.Options.{Options}
use Rattle.lexical_write_float_spec.specs.declared.layout.Layout.{Layout}
use Rattle.lexical_write_float_spec.specs.declared.layout.Layout.TheVariants.{Scientific, Negative, Positive}
use Rattle.lexical_write_float_spec.specs.Value.{exact_digits}
use Rattle.lexical_write_float_spec.specs.Text.{zeros, point, least, trim, layout_of, scientific, exponent_sign, exponent_text, negative, positive, laid_out, digits_so_far, text}
use Rattle.lexical_read_float_spec.specs.Shape.{Grammar, Sign, unsigned, plus, minus, Tail, absent, exponent, Shape, sign_bytes, tail_bytes}
use Rattle.lexical_read_float_spec.specs.Parse.{with_tail}
use Rattle.lexical_read_float_spec.specs.Read.{grammar_of}
use Rattle.lexical_read_float_spec.proofs.ParseLaws.{unsigned_bytes}

-- ---- bytes of digits
take_map : (n : ℕ) (ds : List ℕ) → take n (map digit_byte ds) ≡ map digit_byte (take n ds)
take_map zero ds = refl
take_map (suc n) [] = refl
take_map (suc n) (d ∷ ds) = ap {B = List ℕ} (λ l. digit_byte d ∷ l) (take_map n ds)

drop_map : (n : ℕ) (ds : List ℕ) → drop n (map digit_byte ds) ≡ map digit_byte (drop n ds)
drop_map zero ds = refl
drop_map (suc n) [] = refl
drop_map (suc n) (d ∷ ds) = drop_map n ds

-- n times the digit 0
abbrev pub noughts : ℕ → List ℕ
noughts n = replicate n 0

zeros_map : (n : ℕ) → zeros n ≡ map digit_byte (noughts n)
unfolding digit_byte
zeros_map zero = refl
zeros_map (suc n) = ap {B = List ℕ} (λ l. 48 ∷ l) (zeros_map n)

module _ (F : NumberFormat) (o : Options) (row : Pair) where
  abbrev G : Grammar
  G = grammar_of F o

  -- ---- the exponent
  abbrev pub sign_of : ℤ → Sign
  sign_of (negsuc n) = minus
  sign_of (pos n) = cond F.required_exponent_sign plus unsigned

  abbrev pub tail_of : ℤ → Tail
  tail_of p = exponent (sign_of p) (widened o.exponent_width (digits F.exponent_radix (nat_abs p * row.b / row.c)))

  sign_bytes_lem : (p : ℤ) → sign_bytes (sign_of p) ≡ exponent_sign F o p
  sign_bytes_lem (negsuc n) = refl
  sign_bytes_lem (pos n) = go F.required_exponent_sign
    where
      go : (b : Bool) → sign_bytes (cond b plus unsigned) ≡ cond b (43 ∷ []) []
      go true = refl
      go false = refl

  tail_bytes_lem : (p : ℤ) → tail_bytes G (tail_of p) ≡ exponent_text F o row p
  unfolding exponent_text numeral
  tail_bytes_lem p = ap (λ (s : List ℕ). o.exponent ∷ (s ++ map digit_byte (widened o.exponent_width (digits F.exponent_radix (nat_abs p * row.b / row.c))))) (sign_bytes_lem p)

  -- ---- each layout, of the digits ds
  module _ (ds : List ℕ) where
    abbrev pub pad : List ℕ
    pad = noughts (least F o - length ds)

    unfoldable pub scientific_shape : Tail → Shape
    scientific_shape τ =
        cond (ltb 1 (length ds)) (with_tail (take 1 ds) true (drop 1 ds ++ pad) τ)
        (cond (trim F o && not F.no_exponent_without_fraction) (with_tail (take 1 ds) false [] τ) (with_tail (take 1 ds) true (noughts (max 1 (least F o - 1))) τ))

    unfoldable pub negative_shape : ℤ → Shape
    negative_shape p = with_tail (0 ∷ []) true (noughts (nat_abs p - 1) ++ (ds ++ pad)) absent

    unfoldable pub positive_shape : ℕ → ℕ → Shape
    positive_shape places so_far =
        cond (ltb places (length ds)) (with_tail (take places ds) true (drop places ds ++ pad) absent)
        (cond (trim F o) (with_tail (ds ++ noughts (places - length ds)) false [] absent) (with_tail (ds ++ noughts (places - length ds)) true (0 ∷ noughts (least F o - so_far)) absent))

    abbrev pub shape_in : ℤ → ℕ → Layout → Shape
    shape_in p so_far Scientific = scientific_shape (tail_of p)
    shape_in p so_far Negative = negative_shape p
    shape_in p so_far Positive = positive_shape (nat_abs p + 1) so_far

    -- ---- and its text
    count : length (map digit_byte ds) ≡ length ds
    count = length-map ds digit_byte

    print_scientific : (τ : Tail) → unsigned_bytes G (scientific_shape τ) ≡ scientific F o (map digit_byte ds) ++ tail_bytes G τ
    unfolding scientific scientific_shape
    print_scientific τ = rw (count, take_map 1 ds, drop_map 1 ds) (go (ltb 1 (length ds)) (trim F o && not F.no_exponent_without_fraction))
      where
        go : (a b : Bool) → unsigned_bytes G (cond a (with_tail (take 1 ds) true (drop 1 ds ++ pad) τ) (cond b (with_tail (take 1 ds) false [] τ) (with_tail (take 1 ds) true (noughts (max 1 (least F o - 1))) τ)))
            ≡ (map digit_byte (take 1 ds) ++ cond a (point F o ∷ (map digit_byte (drop 1 ds) ++ zeros (least F o - length ds))) (cond b [] (point F o ∷ zeros (max 1 (least F o - 1))))) ++ tail_bytes G τ
        go true b = rw (zeros_map (least F o - length ds), ← map-append digit_byte (drop 1 ds) pad, append_assoc)
        go false true = rw append_assoc
        go false false = rw (zeros_map (max 1 (least F o - 1)), append_assoc)

    print_negative : (p : ℤ) → unsigned_bytes G (negative_shape p) ≡ negative F o (map digit_byte ds) p
    unfolding negative negative_shape digit_byte
    print_negative p =
        rw (count, zeros_map (nat_abs p - 1), zeros_map (least F o - length ds), ← map-append digit_byte ds pad, ← map-append digit_byte (noughts (nat_abs p - 1)) (ds ++ pad))
        (ap (λ (l : List ℕ). 48 ∷ (point F o ∷ l)) (append-nil (map digit_byte (noughts (nat_abs p - 1) ++ (ds ++ pad)))))

    print_positive : (places so_far : ℕ) → unsigned_bytes G (positive_shape places so_far) ≡ positive F o (map digit_byte ds) places so_far
    unfolding positive positive_shape digit_byte
    print_positive places so_far = rw (count, take_map places ds, drop_map places ds) (go (ltb places (length ds)) (trim F o))
      where
        go : (a b : Bool) → unsigned_bytes G (cond a (with_tail (take places ds) true (drop places ds ++ pad) absent) (cond b (with_tail (ds ++ noughts (places - length ds)) false [] absent) (with_tail (ds ++ noughts (places - length ds)) true (0 ∷ noughts (least F o - so_far)) absent)))
            ≡ cond a (map digit_byte (take places ds) ++ (point F o ∷ (map digit_byte (drop places ds) ++ zeros (least F o - length ds)))) (map digit_byte ds ++ (zeros (places - length ds) ++ cond b [] (point F o ∷ (48 ∷ zeros (least F o - so_far)))))
        go true b = rw (zeros_map (least F o - length ds), ← map-append digit_byte (drop places ds) pad, append-nil)
        go false true = rw (zeros_map (places - length ds), map-append digit_byte ds (noughts (places - length ds)), append-nil, append-nil)
        go false false = rw (zeros_map (places - length ds), zeros_map (least F o - so_far), map-append digit_byte ds (noughts (places - length ds)), append_assoc, append-nil)

    print_in : (p : ℤ) (so_far : ℕ) (l : Layout) → unsigned_bytes G (shape_in p so_far l) ≡ laid_out F o row (map digit_byte ds) p so_far l
    print_in p so_far Scientific = print_scientific (tail_of p) ∙ ap (λ (t : List ℕ). scientific F o (map digit_byte ds) ++ t) (tail_bytes_lem p)
    print_in p so_far Negative = print_negative p
    print_in p so_far Positive = print_positive (nat_abs p + 1) so_far

  -- ---- the shape of a value's text
  abbrev pub digits_in : ℕ → ℤ → List ℕ
  digits_in m e = digits (2 ^ row.b) (m * 2 ^ modulo e row.b)

  unfoldable pub shape_of_text : ℕ → ℤ → Shape
  shape_of_text m e = shape_in (digits_in m e) (place row.b (scale m e)) (digits_so_far F o m (exact_digits row.b m e)) (layout_of F o (scale m e))

  pub print_text : (m : ℕ) (e : ℤ) → unsigned_bytes G (shape_of_text m e) ≡ text F o row m e
  unfolding shape_of_text text exact_digits
  print_text m e =
      let p = place row.b (scale m e) in
      let so_far = digits_so_far F o m (exact_digits row.b m e) in
      let l = layout_of F o (scale m e) in
      print_in (digits_in m e) p so_far l ∙ ap (λ (D : List ℕ). laid_out F o row D p so_far l) (sym (numeral_one (2 ^ row.b) (m * 2 ^ modulo e row.b)))
