-- `outage::line::number_on` meets its contract. The loop's invariant: the digits left, behind the number so far, make the number of the whole. Assumes nothing.
use Prim.Native.Nat.{◌≤◌}
use mathlib.Core.Path.{◌≡◌}
use lib.ListN.{drop}
use Rattle.outage.specs.Code.{number_on}
use Rattle.outage.proofs.line.number_on.Given as goal

abbrev pub invariant-loop-at : goal.invariant-loop-at
invariant-loop-at l = (number_on l.limit l.value (drop l.at l.text) ≡ number_on l.limit 0 l.text) × (l.value ≤ l.limit)
