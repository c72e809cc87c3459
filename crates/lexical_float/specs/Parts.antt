-- What a float is, as one answer: document 01, "Float parts" and refusal 7, with the sign of document 02, 2.3. Both widths by the format. Definitions only.
use Rattle.std.specs.Prelude.{◌*◌, not, cond, T, Float}
use Rattle.std.specs.Float.{Format}
use Rattle.std.specs.Float.Ieee.{up, down}
use Rattle.std.specs.Float.Ieee.Exact.{HasValue}
use Rattle.std.specs.Float.Ieee.Scale.{finite}
use Rattle.lexical_exponent.specs.declared.exponent.Magnitude.{Magnitude}
use Rattle.lexical_float.specs.declared.num.Parts.{Parts}
use Rattle.lexical_float.specs.declared.num.Parts.TheVariants.{Finite, Special}
use Rattle.lexical_float.specs.Fields.{mantissa, exponent}
use Rattle.lexical_float.specs.Sign.{sign_bit}

abbrev pub magnitude_of : Format → Float → Magnitude
magnitude_of f x = record { mantissa = mantissa f x; exponent = record { 0 = exponent f x } }

-- the two cases of a float: finite, with its sign bit and its magnitude, and not finite, which is refusal 7
unfoldable pub parts_of : Format → Float → Parts
parts_of f x = cond (finite x) (Finite (sign_bit x) (magnitude_of f x)) Special

-- the parts are the float: they have its sign, and mantissa * 2 ^ exponent, the fraction of `up` and `down`, is its size; or it is not finite
abbrev pub IsValue : Float → Parts → Type 0
IsValue x (Finite s v) = HasValue x s (v.mantissa * up v.exponent.0) (down v.exponent.0)
IsValue x Special = T (not (finite x))
