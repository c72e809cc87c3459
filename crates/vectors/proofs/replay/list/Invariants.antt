-- Each line takes a byte at least, so that there are no more lines than bytes. Assumes nothing.
use Rattle.std.proofs.Common.{length, ◌+◌, ◌≤◌}
use Rattle.vectors.specs.Counts.{Counts}
use Rattle.vectors.proofs.replay.list.Given as goal

abbrev pub invariant-loop-left : goal.invariant-loop-left
invariant-loop-left g l = record {
  counts : Counts l.tally;
  lines : l.tally.lines ≤ l.number;
  number : l.number + length l.left ≤ length l.bytes;
}

abbrev pub decreases-loop-left : goal.decreases-loop-left
decreases-loop-left g l = length l.left
