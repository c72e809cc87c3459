-- `outage::line::number_on` meets its contract. The loop's invariant: the digits left, behind the number so far, make the number of the whole. Assumes nothing.
use mathlib.Core.Path.{sym, ◌∙◌}
use native.Mathlib.Omega.{arith}
use Rattle.outage.proofs.NumberLaws.{at_end, at_other, at_letter, at_above, at_next}
use Rattle.outage.proofs.line.number_on.Goals as goal

pub returns-in_err-digit : goal.returns-in_err-digit
returns-in_err-digit c = let l = c.loop-at in
    let a = c.args in
    rw c.from_residual.ensures (sym (at_other a.limit l.value a.text.now l.at (omega arith) (sym c.next_digit.ensures.0 ∙ c.in_err-digit.was)) ∙ l.invariant.0)

pub returns-then-digit-gt9 : goal.returns-then-digit-gt9
returns-then-digit-gt9 c = let l = c.loop-at in
    let a = c.args in
    let e = sym c.next_digit.ensures.0 ∙ c.in_ok-digit.was in
    sym (at_letter a.limit l.value a.text.now l.at c.in_ok-digit.digit (omega arith) e (omega arith)) ∙ l.invariant.0

pub returns-then-next-limit : goal.returns-then-next-limit
returns-then-next-limit c = let l = c.loop-at in
    let a = c.args in
    let e = sym c.next_digit.ensures.0 ∙ c.in_ok-digit.was in
    sym (at_above a.limit l.value a.text.now l.at c.in_ok-digit.digit (omega arith) e (omega arith) (omega arith)) ∙ l.invariant.0

pub loop-at-preserved : goal.loop-at-preserved
loop-at-preserved c = let l = c.loop-at in
    let a = c.args in
    let e = sym c.next_digit.ensures.0 ∙ c.in_ok-digit.was in
    (sym (at_next a.limit l.value a.text.now l.at c.in_ok-digit.digit (omega arith) e (omega arith) (omega arith)) ∙ l.invariant.0, omega arith)

pub returns : goal.returns
returns c = let l = c.loop-at in
    let a = c.args in
    sym (at_end a.limit l.value a.text.now l.at (omega arith)) ∙ l.invariant.0
