-- `outage_planes::planes::fill_from_floats` meets its contract. The loop's invariant: the first planes have been filled. Assumes nothing.
use Prim.Native.Nat.{◌+◌}
use mathlib.Core.Path.{◌≡◌, sym, ap, ◌∙◌}
use mathlib.Core.List.{[]}
use native.Mathlib.Numerals.{add-one}
use native.Mathlib.Omega.{arith}
use lib.ListN.{take, get_or, length-set}
use Rattle.outage_planes_spec.specs.Planes.{byte_of_each}
use Rattle.outage_planes_spec.proofs.EachLaws.{byte_length, bytes_none, bytes_more}
use Rattle.outage_planes.proofs.PlaneLaws.{front_is, each_none, each_set}
use Rattle.outage_planes.proofs.planes.fill_from_floats.Goals as goal

pub loop-j-init : goal.loop-j-init
loop-j-init c = let a = c.args in (each_none (take a.n) ∙ sym (bytes_none 8 a.table.now a.n a.at), omega arith, c.told-planes)

pub loop-j-preserved : goal.loop-j-preserved
loop-j-preserved c = let l = c.loop-j in
    let a = c.args in
    let t = a.table.now in
    let n = a.n in
    let e = byte_of_each 8 n (a.at + l.j) t in
    let is : take n _ ≡ e = ap (take n) c.fill_plane.ensures ∙ front_is (get_or l.planes l.j []) e n (byte_length 8 t n (a.at + l.j)) in
    let s = each_set (take n) l.planes l.j _ (omega arith) in
    let m = bytes_more 8 t n l.j a.at in
    (sym s ∙ rw (l.invariant.0, is) (rw add-one m), omega arith, simp length-set l.invariant.2)
