-- `lexical_buffer::bytes::copy` meets its contract. The loop's invariant: the first bytes have been put. Assumes nothing.
use mathlib.Core.Path.{◌≡◌}
use lib.ListN.{length, take}
use Rattle.lexical_buffer.specs.Put.{put}
use Rattle.lexical_buffer.proofs.bytes.copy.Given as goal

abbrev pub invariant-loop-i : goal.invariant-loop-i
invariant-loop-i l = (l.buffer ≡ put l.initial.buffer l.at (take l.i l.bytes)) × (length l.buffer ≡ length l.initial.buffer)
