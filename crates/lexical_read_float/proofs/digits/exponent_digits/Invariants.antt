-- `lexical_read_float::digits::exponent_digits` meets its contract: at each place the digits still to come, added to the sum so far, make the whole, cut off at 32,768. Assumes nothing.
use Prim.Native.Nat.{◌≤◌, min}
use mathlib.Core.Path.{◌≡◌}
use lib.ListN.{length}
use Rattle.lexical_util.specs.Digit.{read_on, digits_value}
use Rattle.lexical_read_float.specs.Digits.{digits_from, end_from}
use Rattle.lexical_read_float.specs.Scan.{too_great}
use Rattle.lexical_read_float.proofs.digits.exponent_digits.Given as goal

abbrev pub invariant-loop-i : goal.invariant-loop-i
invariant-loop-i l =
    (l.i ≤ length l.text) × (l.magnitude ≤ too_great) × (end_from l.radix l.text l.i ≡ end_from l.radix l.text l.from)
    × (min (read_on l.radix l.magnitude (digits_from l.radix l.text l.i)) too_great ≡ min (digits_value l.radix (digits_from l.radix l.text l.from)) too_great)
