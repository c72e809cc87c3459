-- Floats at the edges of each width, with their mantissa, exponent and s: document 01, "Float parts". Definitions only.
use Rattle.std.specs.Prelude.{ℕ, ◌-◌, ◌*◌, ◌^◌, Bool, true, false, ◌&&◌, List, [], ◌∷◌, eqb, ℤ, pos, negsuc}
use Prim.Native.String.{String}
use Rattle.std.specs.Bool.{beq}
use Rattle.std.specs.Float.{Format, binary32, binary64}
use Rattle.std.specs.Float.Ieee.{of_bits}
use Rattle.lexical_util.specs.Examples.{Example}
use Rattle.lexical_float.specs.declared.num.Parts.{Parts}
use Rattle.lexical_float.specs.declared.num.Parts.TheVariants.{Finite, Special}
use Rattle.lexical_exponent.specs.Exponent.{scale}
use Rattle.lexical_float.specs.Parts.{parts_of}

abbrev same_integer : ℤ → ℤ → Bool
same_integer (pos a) (pos b) = eqb a b
same_integer (pos a) (negsuc b) = false
same_integer (negsuc a) (pos b) = false
same_integer (negsuc a) (negsuc b) = eqb a b

-- finite with this sign bit, mantissa and exponent; an infinity or a NaN
abbrev is_finite_of : Bool → ℕ → ℤ → Parts → Bool
is_finite_of t m e (Finite s v) = beq s t && (eqb v.mantissa m && same_integer v.exponent.0 e)
is_finite_of t m e Special = false

abbrev is_special : Parts → Bool
is_special (Finite s v) = false
is_special Special = true

-- the float with these bits has this sign bit, is m * 2 ^ e in size, and has this s
abbrev signed : Bool → String → Format → ℕ → ℕ → ℤ → ℤ → Example
signed t name f bits m e s = record { name = name; holds = is_finite_of t m e (parts_of f (of_bits f bits)) && same_integer (scale m e) s }

abbrev plain : String → Format → ℕ → ℕ → ℤ → ℤ → Example
plain = signed false

abbrev negative : String → Format → ℕ → ℕ → ℤ → ℤ → Example
negative = signed true

abbrev special : String → Format → ℕ → Example
special name f bits = record { name = name; holds = is_special (parts_of f (of_bits f bits)) }

unfoldable pub parts : List Example
parts =
    plain "64-bit 0" binary64 0 0 (negsuc 1073) (pos 0)
    ∷ plain "64-bit least denormal" binary64 1 1 (negsuc 1073) (negsuc 1073)
    ∷ plain "64-bit largest denormal" binary64 0xfffffffffffff (2 ^ 52 - 1) (negsuc 1073) (negsuc 1022)
    ∷ plain "64-bit least normal" binary64 0x10000000000000 (2 ^ 52) (negsuc 1073) (negsuc 1021)
    ∷ plain "64-bit 1" binary64 0x3ff0000000000000 (2 ^ 52) (negsuc 51) (pos 0)
    ∷ plain "64-bit 1.5" binary64 0x3ff8000000000000 (3 * 2 ^ 51) (negsuc 51) (pos 0)
    ∷ plain "64-bit largest" binary64 0x7fefffffffffffff (2 ^ 53 - 1) (pos 971) (pos 1023)
    ∷ plain "32-bit 0" binary32 0 0 (negsuc 148) (pos 0)
    ∷ plain "32-bit least denormal" binary32 1 1 (negsuc 148) (negsuc 148)
    ∷ plain "32-bit least normal" binary32 0x800000 (2 ^ 23) (negsuc 148) (negsuc 125)
    ∷ plain "32-bit 1" binary32 0x3f800000 (2 ^ 23) (negsuc 22) (pos 0)
    ∷ plain "32-bit largest" binary32 0x7f7fffff (2 ^ 24 - 1) (pos 104) (pos 127)
    ∷ negative "-0" binary64 0x8000000000000000 0 (negsuc 1073) (pos 0)
    ∷ negative "-least denormal" binary64 0x8000000000000001 1 (negsuc 1073) (negsuc 1073)
    ∷ negative "-1" binary64 0xbff0000000000000 (2 ^ 52) (negsuc 51) (pos 0)
    ∷ negative "-largest" binary64 0xffefffffffffffff (2 ^ 53 - 1) (pos 971) (pos 1023)
    ∷ special "infinity" binary64 0x7ff0000000000000
    ∷ special "-infinity" binary64 0xfff0000000000000
    ∷ special "NaN" binary64 0x7ff8000000000000
    ∷ negative "32-bit -0" binary32 0x80000000 0 (negsuc 148) (pos 0)
    ∷ special "32-bit infinity" binary32 0x7f800000
    ∷ special "32-bit NaN" binary32 0x7f800001
    ∷ []
