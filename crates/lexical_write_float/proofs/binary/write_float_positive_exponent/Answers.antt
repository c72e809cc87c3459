-- `lexical_write_float::binary::write_float_positive_exponent` meets its contract: one law for each of its plans. Assumes nothing.
use native.Mathlib.Omega.{arith}
use Rattle.lexical_write_float.proofs.PlanLaws as laws
use Rattle.lexical_write_float.proofs.binary.write_float_positive_exponent.Goals as goal

pub returns-then-places-count : goal.returns-then-places-count
returns-then-places-count c = let a = c.args in λ F. rw c.missing_digits.ensures (laws.positive_more F a.options c.requires.1 a.count a.places a.digits_so_far c.requires.0 c.if-places-count.true)

pub returns-then-options : goal.returns-then-options
returns-then-options c = let a = c.args in λ F. laws.positive_trimmed F a.options c.requires.1 a.count a.places a.digits_so_far c.requires.0 (omega arith) c.if-options.true

pub returns : goal.returns
returns c = let a = c.args in λ F. rw c.missing_digits-2.ensures (laws.positive_filled F a.options c.requires.1 a.count a.places a.digits_so_far c.requires.0 (omega arith) c.if-options.false)
