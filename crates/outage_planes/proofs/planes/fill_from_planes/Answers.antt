-- `outage_planes::planes::fill_from_planes` meets its contract. The loop's invariant: the first planes have been filled. Assumes nothing.
use Prim.Native.Nat.{ℕ, ◌+◌, ◌*◌, ◌≤◌}
use mathlib.Core.Path.{◌≡◌, refl, sym, ap, ◌∙◌}
use mathlib.Core.List.{List, [], ◌∷◌}
use native.Mathlib.Nat.{mul-suc, mul-zero}
use native.Mathlib.Numerals.{add-one}
use native.Mathlib.Omega.{arith}
use borrow.Author.Rules.{part_to_end}
use lib.ListN.{length, get_or, length-set}
use Rattle.outage_planes_spec.proofs.EachLaws.{byte_none, byte_more}
use Rattle.outage_planes.proofs.PlaneLaws.{front_byte, eighth, each_none, each_set, each_all, floats_are}
use Rattle.outage_planes.proofs.planes.fill_from_planes.Goals.{In-loop-plane}
use Rattle.outage_planes.proofs.planes.fill_from_planes.Goals as goal

-- there are n bytes more from the place on
room : (c : In-loop-plane) → let a = c.args in c.loop-plane.from + a.n ≤ length a.packed.now
room c = omega (arith, eighth c.args.n c.loop-plane.plane-index (omega arith))

pub loop-plane-init : goal.loop-plane-init
loop-plane-init c = let a = c.args in
    (λ i h. each_none (λ p. get_or p i 0 ∷ []) ∙ sym (byte_none a.n a.packed.now (a.at + i)), omega (arith, mul-zero a.n), omega arith, c.told-planes)

pub loop-plane-preserved : goal.loop-plane-preserved
loop-plane-preserved c = let l = c.loop-plane in
    let a = c.args in
    let n = a.n in
    let p = a.packed.now in
    let next : n * (l.plane-index + 1) ≡ n * l.plane-index + n = rw add-one (mul-suc n l.plane-index) in
    let put_is = rw (part_to_end p l.from) at c.put_first.ensures.out_is in (
      λ i h.
          let place : l.from + i ≡ a.at + i + n * l.plane-index = omega arith in
          let byte : get_or c.put_first.new.target i 0 ≡ get_or p (a.at + i + n * l.plane-index) 0 = ap (λ (r : List ℕ). get_or r i 0) put_is ∙ front_byte (get_or l.planes l.plane-index []) p n l.from i (room (goal.at.loop-plane-preserved c).In-loop-plane) h ∙ ap (λ (k : ℕ). get_or p k 0) place in
          sym (each_set (λ q. get_or q i 0 ∷ []) l.planes l.plane-index c.put_first.new.target (omega arith)) ∙ rw (l.invariant.0 i h, byte) (rw add-one (byte_more n p l.plane-index (a.at + i))),
      omega arith,
      omega arith,
      simp length-set l.invariant.3,
    )

pub returns : goal.returns
returns c = let l = c.loop-plane in
    let a = c.args in
    let e : l.plane-index ≡ 8 = omega arith in
    floats_are a.n a.at a.packed.now l.planes (λ i h. sym (each_all (λ p. get_or p i 0 ∷ []) l.planes l.plane-index 8 l.invariant.3 e) ∙ l.invariant.0 i h ∙ rw e refl)
