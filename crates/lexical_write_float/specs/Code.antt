-- What the inner functions ask for and answer. The exported contracts cite none of it. Definitions only.
use Rattle.std.specs.Prelude.{ℕ, ◌^◌, ◌≤◌, ◌<◌, ◌≡◌, Bool, cond, ◌⊎◌, List, [], ◌∷◌, ◌++◌, T, ℤ, length, take, drop}
use Rattle.std.specs.Float.{Format, fin}
use Rattle.std.specs.Float.Ieee.{fits}
use Rattle.lexical_util.specs.Answer.{Answer, done, refused, and_then}
use Rattle.lexical_exponent.specs.Exponent.{place, places_before_point}
use Rattle.lexical_exponent.specs.declared.exponent.Magnitude.{Magnitude}
use Rattle.lexical_float.specs.declared.num.Parts.{Parts}
use Rattle.lexical_float.specs.declared.num.Parts.TheVariants as parts
use Rattle.lexical_float.specs.Sign.{minus_sign}
use Rattle.lexical_write_integer_spec.specs.Digits.{numeral}
use Rattle.lexical_format.specs.declared.checks.CheckedFormat.{CheckedFormat}
use Rattle.lexical_format.specs.declared.format.Pair.{Pair}
use Rattle.lexical_format.specs.declared.format.NumberFormat.{NumberFormat}
use Rattle.lexical_format.specs.declared.options.Options.{Options}
use Rattle.lexical_format.specs.Format.{pair, writing_format, settled, checked_format}
use Rattle.lexical_write_float_spec.specs.declared.layout.Layout.{Layout}
use Rattle.lexical_write_float_spec.specs.declared.layout.Layout.TheVariants.{Scientific, Negative, Positive}
use Rattle.lexical_write_float.specs.declared.plan.Digits.{Digits}
use Rattle.lexical_write_float.specs.declared.plan.Plan.{Plan}
use Rattle.lexical_write_float.specs.declared.write.Placed.{Placed}
use Rattle.lexical_write_float_spec.specs.Value.{Value, normal, exact_digits}
use Rattle.lexical_write_float_spec.specs.Range.{Between}
use Rattle.lexical_write_float_spec.specs.Text.{zeros, scientific, negative, positive}
use Rattle.lexical_write_float_spec.specs.Write.{limited_text}

-- ---- values
-- the value that a magnitude stands for
abbrev pub of_magnitude : Magnitude → Value
of_magnitude v = record { m = v.mantissa; e = v.exponent.0 }

-- the magnitude of a finite float of either width
pub record FloatParts (v : Magnitude) : Type 0 where
  pub width : Format
  pub m : ℕ
  pub e : ℤ
  pub sign : Bool
  pub fits_width : T (fits width (fin sign m e))
  pub is : normal v.mantissa v.exponent.0 ≡ record { m = m; e = e }
  pub near : Between 8000 8000 v.exponent.0

-- ---- a format that passed the check with this answer
pub record Passed (F : NumberFormat) (o : Options) (checked : CheckedFormat) : Type 0 where
  pub row : Pair
  pub is_row : writing_format F o ≡ done row
  pub is_settled : checked ≡ settled o row

-- its two bit counts, which are all that a text takes of the pair's row
abbrev pub checked_row : CheckedFormat → Pair
checked_row checked = pair 0 0 checked.b checked.c

-- ---- D, and a text by its plan
-- D by the number that it spells
abbrev pub digits_of : Digits → List ℕ
digits_of D = numeral (2 ^ D.bits_per_digit) 1 D.value

pub record Counted (D : Digits) : Type 0 where
  pub some_bits : 0 < D.bits_per_digit
  pub few_bits : D.bits_per_digit ≤ 5
  pub count_is : D.count ≡ length (digits_of D)
  pub few : D.count ≤ 64
  pub small : D.value < 2 ^ 59

-- p of s, and D of a value
pub record IsPlaced (m : ℕ) (e s : ℤ) (b : ℕ) (r : Placed) : Type 0 where
  pub place_is : r.p.0 ≡ place b s
  pub digits_are : digits_of r.digits ≡ exact_digits b m e
  pub counted : Counted r.digits

-- what stands from the point on
unfoldable pub fraction_text : ℕ → Plan → List ℕ → List ℕ
fraction_text point P D = cond P.point ((point ∷ []) ++ (zeros P.gap ++ (drop P.leading D ++ zeros P.padding))) []

unfoldable pub plan_text : ℕ → Plan → List ℕ → List ℕ
plan_text point P D = take P.leading D ++ (zeros P.filled ++ fraction_text point P D)

-- numbers small enough for the sum that is the text's length
pub record Small (count : ℕ) (P : Plan) : Type 0 where
  pub leading_few : P.leading ≤ count
  pub filled_few : P.filled ≤ 2000
  pub gap_few : P.gap ≤ 2000
  pub padding_few : P.padding ≤ 2000

-- a length as it is measured against the room: 0 stands for one that has room
abbrev pub Measured : ℕ → ℕ → ℕ → Type 0
Measured room length r = (r ≡ length) ⊎ ((r ≡ 0) × (length ≤ room))

-- a plan of this text, for every D of so many digits
pub record IsPlan (point count : ℕ) (text : List ℕ → List ℕ) (P : Plan) : Type 0 where
  pub is : (D : List ℕ) → length D ≡ count → plan_text point P D ≡ text D
  pub small : Small count P

-- a layout's text without its exponent
abbrev pub body_text : NumberFormat → Options → ℤ → ℕ → Layout → List ℕ → List ℕ
body_text F o p so_far Scientific D = scientific F o D
body_text F o p so_far Negative D = negative F o D p
body_text F o p so_far Positive D = positive F o D (places_before_point p) so_far

-- ---- an exponent in powers of the base, by its sign and its magnitude
abbrev pub sign_text : Bool → Bool → List ℕ
sign_text negative plus = cond negative (45 ∷ []) (cond plus (43 ∷ []) [])

unfoldable pub power_text : ℕ → Bool → Bool → ℕ → ℕ → ℕ → List ℕ
power_text mark negative plus radix width n = (mark ∷ []) ++ (sign_text negative plus ++ numeral radix width n)

-- only the scientific layout has one
abbrev pub tail_text : Layout → ℕ → Bool → Bool → ℕ → ℕ → ℕ → List ℕ
tail_text Scientific mark negative plus radix width n = power_text mark negative plus radix width n
tail_text Negative mark negative plus radix width n = []
tail_text Positive mark negative plus radix width n = []

-- ---- the text of a magnitude: of the float that has it
abbrev pub magnitude_text : NumberFormat → Options → CheckedFormat → Magnitude → List ℕ
magnitude_text F o checked v = let x = normal v.mantissa v.exponent.0 in limited_text F o (checked_row checked) x.m x.e

-- what the parts of a float are asked for: the sign and the magnitude's text, or 7
abbrev pub parts_text : NumberFormat → Options → CheckedFormat → Parts → Answer (List ℕ)
parts_text F o checked (parts.Finite s v) = done (minus_sign s ++ magnitude_text F o checked v)
parts_text F o checked parts.Special = refused 7 0

-- and in any format, whose refusals come first
abbrev pub asked_by_parts : NumberFormat → Options → Parts → Answer (List ℕ)
asked_by_parts F o parts = and_then (checked_format F o) (λ checked. parts_text F o checked parts)

-- parts of a float: what they say of one that is written
abbrev pub OfFloat : Parts → Type 0
OfFloat (parts.Finite s v) = FloatParts v
OfFloat parts.Special = Unit {0}
