-- No more bytes are counted than have passed. Assumes nothing.
use Rattle.std.proofs.Common.{◌≤◌}
use Rattle.examples.proofs.texts.kept.Given as goal

abbrev pub invariant-loop-byte : goal.invariant-loop-byte
invariant-loop-byte l = l.count ≤ l.byte-index
