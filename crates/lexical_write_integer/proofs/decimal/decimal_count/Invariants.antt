-- `lexical_write_integer::decimal::decimal_count` meets its contract: the digits counted and those left are one more than all. Assumes nothing.
use Prim.Native.Nat.{◌+◌, ◌≤◌}
use mathlib.Core.Path.{◌≡◌}
use lib.ListN.{length}
use Rattle.lexical_write_integer_spec.specs.Digits.{digits}
use Rattle.lexical_write_integer.proofs.decimal.decimal_count.Given as goal

abbrev pub invariant-loop-v : goal.invariant-loop-v
invariant-loop-v l = (l.count + length (digits 10 l.v) ≡ length (digits 10 l.value) + 1) × (l.count + l.v ≤ l.value + 1)

abbrev pub decreases-loop-v : goal.decreases-loop-v
decreases-loop-v l = l.v
