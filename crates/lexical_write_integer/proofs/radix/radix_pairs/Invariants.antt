-- `lexical_write_integer::radix::radix_pairs` meets its contract: each step goes on from the bytes so far. Assumes nothing.
use Prim.Native.Nat.{◌-◌, ◌^◌}
use Rattle.lexical_write_integer_spec.specs.Write.{last_numeral}
use Rattle.lexical_write_integer.proofs.StepLaws.{Filled}
use Rattle.lexical_write_integer.proofs.radix.radix_pairs.Given as goal

abbrev pub invariant-loop-at : goal.invariant-loop-at
invariant-loop-at l = Filled (last_numeral (2 ^ l.b) l.count l.value) l.from l.count l.initial.buffer l.buffer l.at

abbrev pub decreases-loop-at : goal.decreases-loop-at
decreases-loop-at l = l.count - l.at
