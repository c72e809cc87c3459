-- `lexical_write_float::plan::plan_length` meets its contract: the pieces' lengths, with the point or without. Assumes nothing.
use native.Mathlib.Omega.{arith}
use Rattle.lexical_write_float.proofs.PlanLaws as laws
use Rattle.lexical_write_float.proofs.plan.plan_length.Goals as goal

pub returns-then-plan : goal.returns-then-plan
returns-then-plan c = let p = c.args.plan in
    (λ D point e. omega (arith, laws.plan_length point p D (omega arith), laws.fraction_length point p D c.if-plan.true), omega arith)

pub returns : goal.returns
returns c = let p = c.args.plan in
    (λ D point e. omega (arith, laws.plan_length point p D (omega arith), laws.no_fraction point p D c.if-plan.false), omega arith)
