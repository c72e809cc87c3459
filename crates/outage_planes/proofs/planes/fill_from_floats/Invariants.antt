-- `outage_planes::planes::fill_from_floats` meets its contract. The loop's invariant: the first planes have been filled. Assumes nothing.
use Prim.Native.Nat.{◌≤◌}
use mathlib.Core.Path.{◌≡◌}
use lib.ListN.{length, take}
use Rattle.outage_planes_spec.specs.Planes.{bytes_of_each}
use Rattle.outage_planes.specs.Code.{of_each}
use Rattle.outage_planes.proofs.planes.fill_from_floats.Given as goal

abbrev pub invariant-loop-j : goal.invariant-loop-j
invariant-loop-j l = (of_each (take l.n) (take l.j l.planes) ≡ bytes_of_each 8 l.n l.j l.at l.table) × (l.j ≤ 8) × (length l.planes ≡ 8)
