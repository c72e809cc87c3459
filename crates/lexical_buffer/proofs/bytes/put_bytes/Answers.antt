-- `lexical_buffer::bytes::put_bytes` meets its contract: copied where there is room. Assumes nothing.
use Prim.Native.Nat.{◌+◌, ◌≤◌}
use mathlib.Core.Path.{refl, sym, ◌∙◌}
use borrow.Author.Tests.{leb-true}
use lib.ListN.{length}
use Rattle.lexical_buffer.proofs.PutLaws.{put_held}
use Rattle.lexical_buffer.proofs.bytes.put_bytes.Goals.{Then-lies_within}
use Rattle.lexical_buffer.proofs.bytes.put_bytes.Goals as goal

room : (c : Then-lies_within) → let a = c.args in a.at + length a.bytes.now ≤ length a.buffer.now
room c = leb-true _ _ (sym c.lies_within.ensures ∙ c.if-lies_within.true)

pub returns-then-lies_within-clause-buffer_after : goal.returns-then-lies_within-clause-buffer_after
returns-then-lies_within-clause-buffer_after c = let a = c.args in
    c.copy.ensures ∙ sym (put_held _ a.bytes.now a.buffer.now a.at refl (room (goal.at.returns-then-lies_within-clause-buffer_after c).Then-lies_within))
