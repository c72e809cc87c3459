-- `outage::line::find` meets its contract. The loop's invariant: the place, and how far the byte is from there, make the place of the byte in the whole. Assumes nothing.
use Prim.Native.Nat.{◌+◌, ◌≤◌}
use mathlib.Core.Path.{◌≡◌}
use lib.ListN.{length, drop}
use Rattle.outage_spec.specs.Sheet.{before}
use Rattle.outage.proofs.line.find.Given as goal

abbrev pub invariant-loop-at : goal.invariant-loop-at
invariant-loop-at l = (l.at + length (before l.byte (drop l.at l.text)) ≡ length (before l.byte l.text)) × (l.at ≤ length l.text)
