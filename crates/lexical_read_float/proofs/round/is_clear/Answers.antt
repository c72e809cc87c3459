-- `lexical_read_float::round::is_clear` meets its contract: shifted down and back, the bits are as they were exactly where the lowest are clear. Assumes nothing.
use Rattle.lexical_read_float.proofs.RoundLaws.{clear_none, clear_some, clear_no}
use Rattle.lexical_read_float.proofs.round.is_clear.Goals as goal

pub returns-then-count-gt63 : goal.returns-then-count-gt63
returns-then-count-gt63 c = clear_none _ _ c.ranges.bits.fits _ c.requires c.if-count-gt63.true

pub returns-then-clear : goal.returns-then-clear
returns-then-clear c = clear_some _ _ c.ranges.bits.fits _ c.if-clear.true

pub returns-else-clear : goal.returns-else-clear
returns-else-clear c = clear_no c.args.bits c.args.count _ c.if-clear.false
