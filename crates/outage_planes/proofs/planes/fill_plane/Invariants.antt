-- `outage_planes::planes::fill_plane` meets its contract. The loop's invariant: the first bytes have been put. Assumes nothing.
use mathlib.Core.Path.{◌≡◌}
use lib.ListN.{take}
use Rattle.outage_planes_spec.specs.Planes.{byte_of_each}
use Rattle.outage_planes.proofs.planes.fill_plane.Given as goal

abbrev pub invariant-loop-i : goal.invariant-loop-i
invariant-loop-i l = take l.i l.slot-items ≡ byte_of_each 8 l.i l.from l.table
