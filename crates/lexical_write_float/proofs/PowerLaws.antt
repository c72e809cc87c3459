-- The text of an exponent by its sign and its magnitude: its length, and that it is the text of an exponent in document 01's sense. Assumes nothing.
use Prim.Native.Nat.{ℕ, ◌+◌}
use mathlib.Core.Path.{◌≡◌, refl}
use mathlib.Core.Bool.{Bool}
use native.Mathlib.Omega.{arith}
use lib.IntN.{ℤ, pos, negsuc}
use lib.ListN.{length, length-append}
use Rattle.lexical_exponent.specs.Exponent.{is_negative, power}
use Rattle.lexical_write_integer_spec.specs.Digits.{numeral}
use Rattle.lexical_format.specs.declared.format.Pair.{Pair}
use Rattle.lexical_format.specs.declared.format.NumberFormat.{NumberFormat}
use Rattle.lexical_format.specs.declared.options.Options.{Options}
use Rattle.lexical_write_float_spec.specs.declared.layout.Layout.{Layout}
use Rattle.lexical_write_float_spec.specs.declared.layout.Layout.TheVariants.{Scientific}
use Rattle.lexical_write_float_spec.specs.Text.{exponent_text}
use Rattle.lexical_write_float.specs.Code.{sign_text, power_text, tail_text}

power_length : (mark : ℕ) (negative plus : Bool) (radix width n : ℕ) → length (power_text mark negative plus radix width n) ≡ 1 + length (sign_text negative plus) + length (numeral radix width n)
unfolding power_text
power_length mark negative plus radix width n = simp length-append (omega arith)

pub tail_length : (l : Layout) (mark : ℕ) (negative plus : Bool) (radix width n : ℕ) → l ≡ Scientific → length (tail_text l mark negative plus radix width n) ≡ 1 + length (sign_text negative plus) + length (numeral radix width n)
tail_length l mark negative plus radix width n e = rw e (power_length mark negative plus radix width n)

-- the sign and the magnitude of p * b / c
pub power_is : (F : NumberFormat) (o : Options) (row : Pair) (p : ℤ)
    → power_text o.exponent (is_negative p) F.required_exponent_sign F.exponent_radix o.exponent_width (power row.b row.c p) ≡ exponent_text F o row p
unfolding power_text exponent_text
power_is F o row (pos n) = refl
power_is F o row (negsuc n) = refl
