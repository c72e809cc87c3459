-- `outage_planes::planes::put_as_planes` meets its contract. The loop's invariant: the first planes have been put. Assumes nothing.
use Prim.Native.Nat.{◌+◌, ◌*◌, ◌≤◌}
use mathlib.Core.Path.{◌≡◌}
use lib.ListN.{length, take}
use Rattle.lexical_buffer.specs.Put.{Puts}
use Rattle.outage_planes.specs.Code.{of_each}
use Rattle.outage_planes.proofs.planes.put_as_planes.Given as goal

abbrev pub invariant-loop-plane : goal.invariant-loop-plane
invariant-loop-plane l = Puts l.initial.packed l.at (of_each (take l.n) (take l.plane-index l.planes)) l.next l.packed × (l.next ≡ l.at + l.n * l.plane-index) × (l.plane-index ≤ 8) × (length l.packed ≡ length l.initial.packed)
