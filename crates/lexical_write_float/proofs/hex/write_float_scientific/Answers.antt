-- `lexical_write_float::hex::write_float_scientific` meets its contract: one law for each of its plans. Assumes nothing.
use mathlib.Core.Path.{sym, ◌∙◌}
use native.Mathlib.Omega.{arith}
use Rattle.lexical_write_float.proofs.PlanLaws as laws
use Rattle.lexical_write_float.proofs.hex.write_float_scientific.Goals as goal

pub returns-then-count-gt1 : goal.returns-then-count-gt1
returns-then-count-gt1 c = let a = c.args in rw c.missing_digits-padding.ensures (laws.scientific_more a.format a.options c.requires.1 a.count (omega arith))

pub returns-then-stands_alone : goal.returns-then-stands_alone
returns-then-stands_alone c = let a = c.args in laws.scientific_alone a.format a.options c.requires.1 a.count (omega arith) (sym c.stands_alone.ensures ∙ c.if-stands_alone.true)

pub returns-then-padding-eq0 : goal.returns-then-padding-eq0
returns-then-padding-eq0 c = let a = c.args in laws.scientific_one a.format a.options c.requires.1 a.count 1 (omega arith) (sym c.stands_alone.ensures ∙ c.if-stands_alone.false) (omega arith)

pub returns-else-padding-eq0 : goal.returns-else-padding-eq0
returns-else-padding-eq0 c = let a = c.args in laws.scientific_one a.format a.options c.requires.1 a.count c.missing_digits-padding.result (omega arith) (sym c.stands_alone.ensures ∙ c.if-stands_alone.false) (omega arith)
