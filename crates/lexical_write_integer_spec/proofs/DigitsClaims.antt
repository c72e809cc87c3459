-- The laws of a number's digits and of its last ones, as they are claimed. Assumes nothing.
use Prim.Native.Nat.{◌^◌}
use mathlib.Core.Path.{sym}
use native.Mathlib.Omega.{arith}
use Rattle.lexical_write_integer_spec.specs.Digits.{digits}
use Rattle.lexical_write_integer_spec.specs.Claims.{ReadBack, EachBelow, NoLeadingZero, DigitCount, LastJoin, LastAreAll}
use Rattle.lexical_write_integer_spec.proofs.CountLaws.{count_ceil}
use Rattle.lexical_write_integer_spec.proofs.DigitsLaws.{first_pos}
use Rattle.lexical_write_integer_spec.proofs.NumeralLaws.{length_widened, widened_value, widened_below, widened_one}
use Rattle.lexical_write_integer_spec.proofs.LastLaws.{numeral_last, last_add}

pub read_back : ReadBack
read_back = widened_value

pub each_below : EachBelow
each_below = widened_below

pub no_leading_zero : NoLeadingZero
no_leading_zero radix x h p e = omega (arith, first_pos radix h x p, rw (widened_one radix x) at e)

pub digit_count_lem : DigitCount
digit_count_lem b width x B = omega (arith, length_widened width (digits (2 ^ b) x), count_ceil b x B)

pub last_join : LastJoin
last_join = last_add

pub last_are_all : LastAreAll
last_are_all radix width x h = sym (numeral_last radix h width x)
