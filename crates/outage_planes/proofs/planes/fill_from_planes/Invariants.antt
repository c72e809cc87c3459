-- `outage_planes::planes::fill_from_planes` meets its contract. The loop's invariant: the first planes have been filled. Assumes nothing.
use Prim.Native.Nat.{ℕ, ◌+◌, ◌*◌, ◌≤◌, ◌<◌}
use mathlib.Core.Path.{◌≡◌}
use lib.ListN.{length, take}
use Rattle.outage_planes_spec.specs.Planes.{byte_of_each}
use Rattle.outage_planes.specs.Code.{byte_across}
use Rattle.outage_planes.proofs.planes.fill_from_planes.Given as goal

abbrev pub invariant-loop-plane : goal.invariant-loop-plane
invariant-loop-plane l = ((i : ℕ) → i < l.n → byte_across i (take l.plane-index l.planes) ≡ byte_of_each l.n l.plane-index (l.at + i) l.packed) × (l.from ≡ l.at + l.n * l.plane-index) × (l.plane-index ≤ 8) × (length l.planes ≡ 8)
