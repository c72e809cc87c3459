-- `outage_planes::planes::fill_plane` meets its contract. The loop's invariant: the first bytes have been put. Assumes nothing.
use Prim.Native.Nat.{ℕ}
use mathlib.Core.Path.{◌≡◌, sym, ◌∙◌}
use native.Mathlib.Numerals.{add-one}
use native.Mathlib.Omega.{arith}
use lib.ListN.{length-take}
use Rattle.std.proofs.lemmas.List.{take_more_set}
use Rattle.lexical_buffer.proofs.PutLaws.{mid_put}
use Rattle.outage_planes_spec.specs.Planes.{byte_of_each}
use Rattle.outage_planes_spec.proofs.EachLaws.{byte_length, byte_none, byte_more}
use Rattle.outage_planes.proofs.planes.fill_plane.Goals as goal

pub loop-i-init : goal.loop-i-init
loop-i-init c = sym (byte_none 8 _ _)

pub loop-i-preserved : goal.loop-i-preserved
loop-i-preserved c = let l = c.loop-i in
    let a = c.args in
    take_more_set l.slot-items l.i _ (omega arith) ∙ rw (l.invariant, add-one) (byte_more 8 a.table.now l.i a.from)

pub returns : goal.returns
returns c = let l = c.loop-i in
    let a = c.args in
    let t = a.table.now in
    let end : l.i ≡ a.n = omega (arith, length-take {A = ℕ}) in
    mid_put a.plane.now l.slot-items (byte_of_each 8 a.n a.from t) 0 a.n a.n (rw end at l.invariant) (omega (arith, length-take {A = ℕ})) (sym (byte_length 8 t a.n a.from))
