-- `lexical_write_float::binary::write_float_negative_exponent` meets its contract: one law for its plan. Assumes nothing.
use Rattle.lexical_write_float.proofs.PlanLaws as laws
use Rattle.lexical_write_float.proofs.binary.write_float_negative_exponent.Goals as goal

pub returns : goal.returns
returns c = let a = c.args in
    λ F. rw c.missing_digits.ensures (laws.negative_plan F a.options c.requires.1 a.count a.p.0 c.zeros_behind_point.result c.requires.0 c.zeros_behind_point.ensures)
