-- `outage::line::find` meets its contract. The loop's invariant: the place, and how far the byte is from there, make the place of the byte in the whole. Assumes nothing.
use native.Mathlib.Numerals.{add-one}
use native.Mathlib.Omega.{arith}
use Rattle.outage.proofs.FindLaws.{before_more, before_here, before_none}
use Rattle.outage.proofs.line.find.Goals as goal

pub returns-then-here-byte-clause-value : goal.returns-then-here-byte-clause-value
returns-then-here-byte-clause-value c = let l = c.loop-at in
    let a = c.args in
    omega (arith, before_here a.byte a.text.now l.at (omega arith) (omega arith))

pub loop-at-preserved : goal.loop-at-preserved
loop-at-preserved c = let l = c.loop-at in
    let a = c.args in
    (rw (add-one l.at) (omega (arith, before_more a.byte a.text.now l.at (omega arith) (λ e. omega (arith, e)))), omega arith)

pub returns-clause-value : goal.returns-clause-value
returns-clause-value c = let l = c.loop-at in
    let a = c.args in
    omega (arith, before_none a.byte a.text.now l.at (omega arith))
