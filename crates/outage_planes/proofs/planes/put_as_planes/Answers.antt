-- `outage_planes::planes::put_as_planes` meets its contract. The loop's invariant: the first planes have been put. Assumes nothing.
use Prim.Native.Nat.{◌+◌, ◌*◌}
use mathlib.Core.Path.{◌≡◌, refl, ◌∙◌}
use mathlib.Core.List.{[]}
use native.Mathlib.Nat.{mul-suc, mul-zero}
use native.Mathlib.Numerals.{add-one}
use native.Mathlib.Omega.{arith}
use lib.ListN.{length, take, get_or}
use lib.Seq.{length-take-le}
use Rattle.lexical_buffer.proofs.PutLaws.{puts_none, puts_more}
use Rattle.outage_planes.proofs.PlaneLaws.{each_none, each_more}
use Rattle.outage_planes.proofs.planes.put_as_planes.Goals as goal

pub loop-plane-init : goal.loop-plane-init
loop-plane-init c = let a = c.args in
    (rw (each_none (take a.n)) (puts_none a.packed.now a.at), omega (arith, mul-zero a.n), omega arith, refl)

pub loop-plane-preserved : goal.loop-plane-preserved
loop-plane-preserved c = let l = c.loop-plane in
    let a = c.args in
    let more = puts_more _ _ _ (omega arith) l.invariant.0 c.put_first-next.ensures in
    let row : length (take a.n (get_or a.planes.now l.plane-index [])) ≡ a.n = length-take-le a.n (get_or a.planes.now l.plane-index []) (omega (arith, c.put_first-arg-in-loop-plane-1.given)) in
    let next : a.n * (l.plane-index + 1) ≡ a.n * l.plane-index + a.n = rw add-one (mul-suc a.n l.plane-index) in (
      rw (each_more (take a.n) a.planes.now l.plane-index (omega arith)) at more,
      c.put_first-next.ensures.next_is ∙ rw (row, l.invariant.1, next) (omega arith),
      omega arith,
      c.put_first-next.auto.target ∙ l.invariant.3,
    )
