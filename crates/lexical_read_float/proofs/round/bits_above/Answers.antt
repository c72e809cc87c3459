-- `lexical_read_float::round::bits_above` meets its contract: no bit of a word stands above its 64. Assumes nothing.
use Rattle.lexical_read_float.proofs.RoundLaws.{above_none}
use Rattle.lexical_read_float.proofs.round.bits_above.Goals as goal

pub returns-then-count-gt63 : goal.returns-then-count-gt63
returns-then-count-gt63 c = above_none _ _ c.ranges.bits.fits c.if-count-gt63.true
