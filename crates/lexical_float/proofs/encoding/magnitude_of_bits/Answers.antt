-- `lexical_float::encoding::magnitude_of_bits` meets its contract: its masks and sums are the fields of the bits. Assumes nothing.
use lib.Ieee.{Format}
use Rattle.lexical_float.specs.Encoding.{of_width}
use Rattle.lexical_float.proofs.EncodingLaws as L
use Rattle.lexical_float.proofs.encoding.magnitude_of_bits.Goals.{Start}
use Rattle.lexical_float.proofs.encoding.magnitude_of_bits.Goals as goal

abbrev f : Start → Format
f c = of_width c.args.width

pub returns-then-biased-eq0 : goal.returns-then-biased-eq0
returns-then-biased-eq0 c = L.denormal_is (f (goal.at.returns-then-biased-eq0 c).Start) _ c.encoding_of-encoding.ensures _ c.requires c.if-biased-eq0.true

pub returns : goal.returns
returns c = L.normal_is (f (goal.at.returns c).Start) _ c.encoding_of-encoding.ensures _ c.requires c.if-biased-eq0.false
