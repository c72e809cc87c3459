-- `outage::line::read_number` meets its contract: by the number of digits, and the first of them. Assumes nothing.
use mathlib.Core.Path.{◌≡◌, sym, ◌∙◌}
use native.Mathlib.Omega.{arith}
use Rattle.outage_spec.specs.Sheet.{number_in}
use Rattle.outage_spec.proofs.NumberLaws.{spelled, in_none, in_one, in_first, in_zero}
use Rattle.outage.proofs.NumberLaws.{on_is}
use Rattle.outage.proofs.line.read_number.Goals.{then-text-gt1+else-text-eq48, else-text-gt1}
use Rattle.outage.proofs.line.read_number.Goals as goal

pub returns-then-text-eq0 : goal.returns-then-text-eq0
returns-then-text-eq0 c = let a = c.args in sym (in_none a.limit a.text.now (omega arith))

pub returns-then-text-eq48 : goal.returns-then-text-eq48
returns-then-text-eq48 c = let a = c.args in sym (in_zero a.limit a.text.now (omega arith) (omega arith))

pub returns : goal.returns
returns c = let a = c.args in
    let e : number_in a.limit a.text.now ≡ spelled a.limit 0 a.text.now =
    elim c.if-text-gt1.branch [
      | then-text-gt1+else-text-eq48 w ↦ in_first a.limit a.text.now (omega arith) w.if-text-eq48.false
      | else-text-gt1 w ↦ in_one a.limit a.text.now (omega arith)
    ] in
    c.number_on.ensures ∙ on_is a.limit a.text.now 0 (omega arith) ∙ sym e
