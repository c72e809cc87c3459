-- `outage_planes::planes::put_as_floats` meets its contract. The loop's invariant: the first floats have been put. Assumes nothing.
use Prim.Native.Nat.{◌+◌, ◌*◌, ◌≤◌}
use mathlib.Core.Path.{◌≡◌}
use lib.ListN.{length}
use Rattle.lexical_buffer.specs.Put.{Puts}
use Rattle.outage_planes.specs.Code.{bytes_across}
use Rattle.outage_planes.proofs.planes.put_as_floats.Given as goal

abbrev pub invariant-loop-i : goal.invariant-loop-i
invariant-loop-i l = Puts l.initial.table l.at (bytes_across 0 l.i l.planes) l.next l.table × (l.next ≡ l.at + 8 * l.i) × (l.i ≤ l.n) × (length l.table ≡ length l.initial.table)
