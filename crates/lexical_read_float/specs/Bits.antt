-- What the bits that both widths share stand for. No exported contract cites it. Definitions only.
use Rattle.std.specs.Prelude.{ℕ, ◌+◌, ◌*◌, ◌%◌, ◌<◌, ℤ, pos, Float, Result, Ok, Err}
use Rattle.std.specs.Float.{Format}
use Rattle.std.specs.Float.Ieee.{top, of_bits}
use Rattle.lexical_util.specs.Answer.{Answer, of_result_as}
use Rattle.lexical_util.specs.declared.answer.Refusal.{Refusal}
use Rattle.lexical_exponent.specs.Exponent.{height_above}
use Rattle.lexical_read_float.specs.Pattern.{infinity}
use Rattle.lexical_read_float.specs.declared.bits.Powers.{Powers}

abbrev pub of_float_bits : Format → Result ℕ Refusal → Answer Float
of_float_bits f = of_result_as (of_bits f)

-- below the sign, bits below the infinity's
abbrev pub AreFinite : Format → Result ℕ Refusal → Type 0
AreFinite f (Ok n) = (n < 2 * top f) × (n % top f < infinity f)
AreFinite f (Err r) = Unit {0}

-- the powers of two of a value, from what stands behind the point and from its exponent, both in bits
abbrev pub powers_of : ℤ → ℤ → Powers
powers_of places power = record { up = height_above power (pos 0); down = height_above places (pos 0) + height_above (pos 0) power }
