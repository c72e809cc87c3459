-- `outage_planes::planes::put_float` meets its contract. The loop's invariant: the first bytes have been put. Assumes nothing.
use Prim.Native.Nat.{◌≤◌}
use mathlib.Core.Path.{◌≡◌}
use mathlib.Core.List.{[], ◌∷◌}
use lib.ListN.{length, take, get_or}
use Rattle.lexical_buffer.specs.Put.{put}
use Rattle.outage_planes.specs.Code.{of_each}
use Rattle.outage_planes.proofs.planes.put_float.Given as goal

abbrev pub invariant-loop-j : goal.invariant-loop-j
invariant-loop-j l = (l.table ≡ put l.initial.table l.at (of_each (λ p. get_or p l.i 0 ∷ []) (take l.j l.planes))) × (l.j ≤ 8) × (length l.table ≡ length l.initial.table)
