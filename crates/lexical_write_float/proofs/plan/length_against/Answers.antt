-- `lexical_write_float::plan::length_against` meets its contract: no text is longer than its zeros and 85 bytes, and otherwise plan and exponent are measured apart. Assumes nothing.
use mathlib.Core.Path.{refl}
use mathlib.Core.Logic.{inr}
use native.Mathlib.Omega.{arith}
use Rattle.lexical_write_float.proofs.PlanLaws.{text_few}
use Rattle.lexical_write_float.proofs.plan.length_against.Goals as goal

pub returns-then-plan-room : goal.returns-then-plan-room
returns-then-plan-room c D point mark e = let a = c.args in
    let few = text_few point a.plan D a.layout mark a.exponent.0 a.plus a.radix a.width a.exponent.1 (omega (arith, c.requires.1.leading_few, e)) (omega (arith, c.requires.0, e)) c.requires.2 c.requires.3 c.requires.4 in
    inr (refl, omega (arith, few, c.if-plan-room.true))
