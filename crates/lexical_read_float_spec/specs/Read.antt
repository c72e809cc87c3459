-- What a call to read a float answers: document 01, "Reader" and "Read a float", with the sign of document 02, 2.3. Both widths by the format. Definitions only.
use Rattle.std.specs.Prelude.{ℕ, ◌-◌, ◌*◌, ◌^◌, Bool, true, false, cond, List, [], ◌∷◌, ◌++◌, ltb, length, Float}
use Rattle.std.specs.Float.{Format}
use Rattle.std.specs.Float.Ieee.{round}
use Rattle.lexical_util.specs.Answer.{Answer, done, refused, and_then, checked}
use Rattle.lexical_util.specs.Digit.{digits_value}
use Rattle.lexical_format.specs.declared.format.Pair.{Pair}
use Rattle.lexical_format.specs.declared.format.NumberFormat.{NumberFormat}
use Rattle.lexical_format.specs.declared.options.Options.{Options}
use Rattle.lexical_format.specs.Format.{reading_format}
use Rattle.lexical_read_float_spec.specs.Shape.{Grammar, unsigned, plus, minus, Tail, absent, exponent, Shape}
use Rattle.lexical_read_float_spec.specs.Parse.{shape_of}
use Rattle.lexical_read_float_spec.specs.Round.{too_large}

abbrev pub grammar_of : NumberFormat → Options → Grammar
grammar_of F o = record { radix = F.mantissa_radix; exponent_radix = F.exponent_radix; point = o.decimal_point; mark = o.exponent }

-- ---- the value: the digits before and after the point, read in the radix, times base to the signed exponent, read in exponent radix, 0 if absent
abbrev pub magnitude : ℕ → Tail → ℕ
magnitude exponent_radix absent = 0
magnitude exponent_radix (exponent s ds) = digits_value exponent_radix ds

abbrev pub has_minus : Tail → Bool
has_minus absent = false
has_minus (exponent unsigned ds) = false
has_minus (exponent plus ds) = false
has_minus (exponent minus ds) = true

-- Its size is the fraction numerator / denominator. The radix is 2 ^ b, so each digit behind the point divides by 2 ^ b; the base is 2 ^ c.
module _ (row : Pair) (exponent_radix : ℕ) (s : Shape) where
  abbrev pub base_power : ℕ
  base_power = 2 ^ (row.c * magnitude exponent_radix s.tail)

  unfoldable pub numerator : ℕ
  numerator = digits_value (2 ^ row.b) (s.whole ++ s.fraction) * cond (has_minus s.tail) 1 base_power

  unfoldable pub denominator : ℕ
  denominator = 2 ^ (row.b * length s.fraction) * cond (has_minus s.tail) base_power 1

-- ---- the answer
-- 11 too large, of the magnitude; else the nearest float, ties to even, small values to denormals or zero. It has the sign s, minus zero too
unfoldable pub float_of : Format → Bool → ℕ → ℕ → Answer Float
float_of f s num den = checked ((11, too_large f num den) ∷ []) (done (round f s num den))

-- 10 exponent magnitude above 32,767
abbrev pub greatest_exponent : ℕ
greatest_exponent = 32767

unfoldable pub exponent_too_large : ℕ → Tail → Bool
exponent_too_large exponent_radix tail = ltb greatest_exponent (magnitude exponent_radix tail)

-- place its first digit: the exponent's digits are the last of a text
unfoldable pub exponent_place : List ℕ → Tail → ℕ
exponent_place t absent = length t
exponent_place t (exponent s ds) = length t - length ds

-- decided before the power is formed, so that a long exponent evaluates at once
unfoldable pub value_of : Format → Pair → ℕ → List ℕ → Shape → Answer Float
value_of f row exponent_radix t s =
    elim (exponent_too_large exponent_radix s.tail) [
      | true ↦ refused 10 (exponent_place t s.tail)
      | false ↦ float_of f s.negative (numerator row exponent_radix s) (denominator row exponent_radix s)
    ]

-- 12 text above 4,096 bytes
abbrev pub longest_read : ℕ
longest_read = 4096

-- 12; 9 wrong shape
unfoldable pub read_text : Format → Grammar → List ℕ → Pair → Answer Float
read_text f G t row = checked ((12, ltb longest_read (length t)) ∷ []) (and_then (shape_of G t) (value_of f row G.exponent_radix t))

-- 1, 2, 3
unfoldable pub read_float : Format → NumberFormat → Options → List ℕ → Answer Float
read_float f F o t = and_then (reading_format F o) (read_text f (grammar_of F o) t)
