-- `lexical_read_float::digits::further_digits` meets its contract: at each place the digits so far are 0 and those still to come, or not all are. Assumes nothing.
use Prim.Native.Nat.{◌≤◌}
use mathlib.Core.Bool.{◌&&◌}
use mathlib.Core.Path.{◌≡◌}
use lib.Dec.{eqb}
use lib.ListN.{length}
use Rattle.lexical_read_float.specs.Digits.{all_zero, digits_from, end_from}
use Rattle.lexical_read_float.proofs.digits.further_digits.Given as goal

abbrev pub invariant-loop-i : goal.invariant-loop-i
invariant-loop-i l =
    (l.i ≤ length l.text) × (end_from l.radix l.text l.i ≡ end_from l.radix l.text l.from) × ((eqb l.seen 0 && all_zero (digits_from l.radix l.text l.i)) ≡ all_zero (digits_from l.radix l.text l.from))
