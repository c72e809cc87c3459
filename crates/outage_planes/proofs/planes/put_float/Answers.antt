-- `outage_planes::planes::put_float` meets its contract. The loop's invariant: the first bytes have been put. Assumes nothing.
use Prim.Native.Nat.{ℕ, ◌+◌}
use mathlib.Core.Path.{refl, sym, ap, ◌∙◌}
use mathlib.Core.List.{List, [], ◌∷◌}
use native.Mathlib.Omega.{arith}
use lib.ListN.{take, get_or, length-set}
use lib.Seq.{length-take-le}
use Rattle.lexical_buffer.proofs.PutLaws.{put_nil, put_next}
use Rattle.outage_planes.specs.Code.{of_each}
use Rattle.outage_planes.proofs.PlaneLaws.{each_none, each_more, each_all, across_length}
use Rattle.outage_planes.proofs.planes.put_float.Goals as goal

pub loop-j-init : goal.loop-j-init
loop-j-init c = let a = c.args in
    (sym (rw (each_none (λ p. get_or p a.i 0 ∷ [])) (put_nil _ _)), omega arith, refl)

pub loop-j-preserved : goal.loop-j-preserved
loop-j-preserved c = let l = c.loop-j in
    let a = c.args in
    let byte : List ℕ → List ℕ = λ p. get_or p a.i 0 ∷ [] in
    let ps = take l.j a.planes.now in (
      put_next a.table.now l.table a.at (of_each byte ps) _ _ l.j l.invariant.0 (across_length a.i ps ∙ length-take-le l.j a.planes.now (omega arith)) (omega arith) (each_more byte a.planes.now l.j (omega arith)),
      omega arith,
      simp length-set l.invariant.2,
    )

pub returns : goal.returns
returns c = let l = c.loop-j in
    let a = c.args in
    let all = each_all (λ p. get_or p a.i 0 ∷ []) a.planes.now l.j 8 c.told-planes (omega arith) in
    record { next_is = ap (λ (k : ℕ). a.at + k) (sym (across_length a.i a.planes.now ∙ c.told-planes)); out_is = rw all at l.invariant.0 }
