-- `outage_sheet::row::row_in` meets its contract: the line in front, or no LF. Assumes nothing.
use mathlib.Core.Path.{sym, ◌∙◌}
use native.Mathlib.Omega.{arith}
use lib.Seq.{length-take-le}
use Rattle.outage_spec.proofs.BeforeLaws.{before_le}
use Rattle.outage_sheet.proofs.RowLaws.{row_none, row_line}
use Rattle.outage_sheet.proofs.row.row_in.Goals as goal

pub returns-then-newline-text : goal.returns-then-newline-text
returns-then-newline-text c = let a = c.args in
    rw c.at.ensures (sym (row_none a.format a.options a.text.now (omega (arith, c.requires))))

pub slice_bounds-line_window-end : goal.slice_bounds-line_window-end
slice_bounds-line_window-end c = sym (length-take-le _ _ (omega (arith, c.requires, before_le 10 c.args.text.now)))

pub returns : goal.returns
returns c = let a = c.args in
    c.line_window.ensures ∙ sym (row_line a.format a.options a.text.now a.newline c.requires c.if-newline-text.false)
