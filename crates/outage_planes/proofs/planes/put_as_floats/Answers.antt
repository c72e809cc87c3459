-- `outage_planes::planes::put_as_floats` meets its contract. The loop's invariant: the first floats have been put. Assumes nothing.
use mathlib.Core.Path.{refl, ◌∙◌}
use native.Mathlib.Omega.{arith}
use Rattle.lexical_buffer.proofs.PutLaws.{puts_none, puts_more}
use Rattle.outage_planes.proofs.PlaneLaws.{across_length, across_none, across_more}
use Rattle.outage_planes.proofs.planes.put_as_floats.Goals as goal

pub loop-i-init : goal.loop-i-init
loop-i-init c = let a = c.args in (rw (across_none 0 a.planes.now) (puts_none a.table.now a.at), omega arith, omega arith, refl)

pub loop-i-preserved : goal.loop-i-preserved
loop-i-preserved c = let l = c.loop-i in
    let a = c.args in
    let more = puts_more _ _ _ (omega arith) l.invariant.0 c.put_float-next.ensures in
    (rw (across_more l.i a.planes.now) at more, omega (arith, c.put_float-next.ensures.next_is, across_length l.i a.planes.now, c.told-planes), omega arith, c.put_float-next.auto.table ∙ l.invariant.3)
