-- `lexical_write_float::pieces::put_zeros` meets its contract: a turn of the loop puts one zero more. Assumes nothing.
use Prim.Native.Nat.{ℕ}
use mathlib.Core.Path.{◌≡◌, ◌∙◌}
use native.Mathlib.Omega.{arith}
use lib.ListN.{length-take, length-drop, length-replicate, replicate-append-replicate}
use Rattle.std.proofs.lemmas.List.{take_more_set}
use Rattle.lexical_write_float_spec.specs.Text.{zeros}
use Rattle.lexical_buffer.proofs.PutLaws.{mid_put}
use Rattle.lexical_write_float.proofs.pieces.put_zeros.Goals as goal

pub loop-byte-preserved : goal.loop-byte-preserved
loop-byte-preserved c = let l = c.loop-byte in
    take_more_set l.byte-items l.byte-index 48 (omega arith) ∙ rw l.invariant (replicate-append-replicate l.byte-index 1 48)

pub returns : goal.returns
returns c = let l = c.loop-byte in
    let a = c.args in
    let n = length-replicate {A = ℕ} a.count 48 in
    let end : l.byte-index ≡ a.count = omega (arith, length-take {A = ℕ}, length-drop {A = ℕ}) in
    record {
      next_is = omega (arith, n);
      out_is = mid_put a.buffer.now l.byte-items (zeros a.count) a.at _ a.count (rw end at l.invariant) (omega (arith, length-take {A = ℕ}, length-drop {A = ℕ})) (omega (arith, n));
    }
