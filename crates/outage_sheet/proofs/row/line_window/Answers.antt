-- `outage_sheet::row::line_window` meets its contract: no space, a second one, or two fields. Assumes nothing.
use Prim.Native.Nat.{◌+◌}
use mathlib.Core.Path.{sym}
use native.Mathlib.Omega.{arith}
use Rattle.outage_sheet.proofs.RowLaws.{line_none, line_more, line_one}
use borrow.Author.Rules.{part_to_end}
use Rattle.outage_sheet.proofs.row.line_window.Goals as goal

pub returns-then-space-line : goal.returns-then-space-line
returns-then-space-line c = let a = c.args in
    rw c.at.ensures (sym (line_none a.format a.options a.line.now (omega (arith, c.find-space.ensures.value))))

pub returns-then-find-end : goal.returns-then-find-end
returns-then-find-end c = let a = c.args in
    let f = c.find-space in
    let g = c.find in
    rw c.at-then-find-end.ensures (sym (line_more a.format a.options a.line.now f.result f.ensures.value c.if-space-line.false _ (part_to_end a.line.now (f.result + 1)) (λ e. omega (arith, e, g.ensures.value))))

pub returns : goal.returns
returns c = let a = c.args in
    let f = c.find-space in
    let g = c.find in
    line_one a.format a.options a.line.now f.result f.ensures.value c.if-space-line.false _ (part_to_end a.line.now (f.result + 1)) (omega (arith, g.ensures.value, c.if-find-end.false)) _ c.fields_window.ensures
