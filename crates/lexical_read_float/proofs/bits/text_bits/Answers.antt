-- `lexical_read_float::bits::text_bits` meets its contract: the scan finds the shape that the definition finds, or its place of refusal 9. Assumes nothing.
use mathlib.Core.Path.{◌∙◌, subst}
use Rattle.lexical_float.specs.Encoding.{of_width}
use Rattle.lexical_read_float.specs.Scan.{IsBounded}
use Rattle.lexical_read_float.proofs.TextLaws.{Small, small, IsNumberOf, text_long, text_wrong, text_found}
use Rattle.lexical_read_float.proofs.bits.text_bits.Goals.{In-Ok, Start}
use Rattle.lexical_read_float.proofs.bits.text_bits.Goals as goal

passed : (c : Start) → Small c.args.format c.args.row
passed c = small c.args.format c.args.options c.args.row c.requires

number : (c : In-Ok)
    → (let a = c.args in IsNumberOf (of_width a.width) a.format a.options a.row a.text.now c.in-Ok.number)
number c =
    text_found _ _ _ _ _ _ c.scan.ensures.value c.if-text-gt-LONGEST_READ.false _ c.requires c.in-Ok.is

pub returns-then-text-gt-LONGEST_READ-clause-result_value : goal.returns-then-text-gt-LONGEST_READ-clause-result_value
returns-then-text-gt-LONGEST_READ-clause-result_value c = let a = c.args in
    rw c.at.ensures (text_long (of_width a.width) a.format a.options a.row a.text.now c.if-text-gt-LONGEST_READ.true)

pub scan-requires : goal.scan-requires
scan-requires c = let n = passed (goal.at.scan-requires c).Start in (c.if-text-gt-LONGEST_READ.false, n.small_radix, n.digit_bits_lem, n.some_power, n.small_power)

pub value_bits-requires : goal.value_bits-requires
value_bits-requires c = let n = passed (goal.at.value_bits-requires c).Start in (subst IsBounded c.in-Ok.is c.scan.ensures.bounded, (number (goal.at.value_bits-requires c).In-Ok).full, n.digit_bits_lem, n.base_bits)

pub returns-in-Ok-clause-result_value : goal.returns-in-Ok-clause-result_value
returns-in-Ok-clause-result_value c = let n = number (goal.at.returns-in-Ok-clause-result_value c).In-Ok in
    c.value_bits.ensures.by_index _ _ n.shape n.digits n.is ∙ n.reads

pub returns-in-Err-clause-result_value : goal.returns-in-Err-clause-result_value
returns-in-Err-clause-result_value c = let a = c.args in
    rw c.at-in-Err.ensures (text_wrong (of_width a.width) a.format a.options a.row a.text.now _ c.scan.ensures.value c.if-text-gt-LONGEST_READ.false _ c.in-Err.is)
