-- `lexical_read_float::round::lift_of` meets its contract. Assumes nothing.
use lib.Ieee.{Format}
use Rattle.lexical_float.specs.Encoding.{of_width}
use Rattle.lexical_read_float.proofs.RoundLaws.{lift_some, lift_none}
use Rattle.lexical_read_float.proofs.round.lift_of.Goals.{Start}
use Rattle.lexical_read_float.proofs.round.lift_of.Goals as goal

abbrev f : Start → Format
f c = of_width c.args.width

pub returns-then-first-last : goal.returns-then-first-last
returns-then-first-last c = lift_some (f (goal.at.returns-then-first-last c).Start) _ c.encoding_of-encoding.ensures _ c.args.up c.args.down _ _ c.significant_bits.ensures.value c.lowest_of.ensures c.if-first-last.true

pub returns : goal.returns
returns c = lift_none (f (goal.at.returns c).Start) _ c.encoding_of-encoding.ensures _ c.args.up c.args.down _ _ c.significant_bits.ensures.value c.lowest_of.ensures c.if-first-last.false
