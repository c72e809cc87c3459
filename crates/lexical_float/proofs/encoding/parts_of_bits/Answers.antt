-- `lexical_float::encoding::parts_of_bits` meets its contract: its tests tell the cases of a bit pattern apart, and its sign. Assumes nothing.
use mathlib.Core.Path.{sym, ◌∙◌}
use lib.Ieee.{Format}
use Rattle.lexical_float.specs.Encoding.{of_width}
use Rattle.lexical_float.proofs.PartsLaws.{special_parts}
use Rattle.lexical_float.proofs.EncodingLaws as L
use Rattle.lexical_float.proofs.encoding.parts_of_bits.Goals.{Start}
use Rattle.lexical_float.proofs.encoding.parts_of_bits.Goals as goal

abbrev f : Start → Format
f c = of_width c.args.width

pub returns-then-is_special : goal.returns-then-is_special
returns-then-is_special c = special_parts (f (goal.at.returns-then-is_special c).Start) _ (sym c.is_special.ensures ∙ c.if-is_special.true)

pub magnitude_of_bits-value-requires : goal.magnitude_of_bits-value-requires
magnitude_of_bits-value-requires c = L.finite_rest (f (goal.at.magnitude_of_bits-value-requires c).Start) _ c.encoding_of-encoding.ensures c.args.bits (sym c.is_special.ensures ∙ c.if-is_special.false)

pub returns : goal.returns
returns c = L.finite_is (f (goal.at.returns c).Start) _ c.encoding_of-encoding.ensures c.args.bits c.requires (sym c.is_special.ensures ∙ c.if-is_special.false) _ c.magnitude_of_bits-value.ensures
