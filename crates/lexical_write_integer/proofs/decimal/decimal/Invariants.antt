-- `lexical_write_integer::decimal::decimal` meets its contract: the digits left and the bytes stored are the whole. Assumes nothing.
use Prim.Native.Nat.{◌≤◌}
use mathlib.Core.Path.{◌≡◌}
use mathlib.Core.List.{◌++◌}
use lib.ListN.{length, drop}
use Rattle.lexical_write_integer_spec.specs.Write.{last_numeral}
use Rattle.lexical_write_integer.proofs.decimal.decimal.Given as goal

abbrev pub invariant-loop-i : goal.invariant-loop-i
invariant-loop-i l =
    (last_numeral 10 l.count l.value ++ drop l.count l.initial.buffer ≡ last_numeral 10 l.i l.v ++ drop l.i l.buffer)
    × (length l.buffer ≡ length l.initial.buffer)
    × (l.i ≤ l.count)
