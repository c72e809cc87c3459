-- `lexical_buffer::bytes::copy` meets its contract. The loop's invariant: the first bytes have been put. Assumes nothing.
use mathlib.Core.Path.{refl, sym}
use native.Mathlib.Numerals.{add-one}
use native.Mathlib.Omega.{arith}
use lib.ListN.{take, length-set}
use lib.Seq.{take-suc, length-take-le}
use Rattle.lexical_buffer.proofs.PutLaws.{put_nil, put_next}
use Rattle.lexical_buffer.proofs.bytes.copy.Goals as goal

pub loop-i-init : goal.loop-i-init
loop-i-init c = (sym (put_nil _ _), refl)

pub loop-i-preserved : goal.loop-i-preserved
loop-i-preserved c = let l = c.loop-i in
    let a = c.args in
    let b = a.bytes.now in (
      put_next a.buffer.now l.buffer a.at (take l.i b) _ _ l.i l.invariant.0 (length-take-le l.i b (omega arith)) (omega arith) (rw (add-one, take-suc b l.i 0 (omega arith))),
      simp length-set l.invariant.1,
    )
