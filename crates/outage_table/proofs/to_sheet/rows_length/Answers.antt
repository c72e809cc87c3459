-- `outage_table::to_sheet::rows_length` meets its contract. The loop's invariant: the length of the rows left, behind the sum, is the length of all; each row adds at most 4,552 bytes. Assumes nothing.
use Prim.Native.Nat.{◌+◌, ◌-◌}
use mathlib.Core.Path.{◌≡◌, sym, ap, ◌∙◌}
use Rattle.std.proofs.lemmas.Result.{err_from_is_err_and}
use native.Mathlib.Omega.{arith}
use Rattle.outage_spec.specs.Table.{row_at, rows_from}
use Rattle.lexical_util.specs.Answer.{done}
use Rattle.outage_table.proofs.RowsLaws.{row_texts, rows_more, rows_stop, rows_end, length_after, length_more, length_none, length_all}
use Rattle.outage_table.proofs.to_sheet.rows_length.Goals.{In_ok-window}
use Rattle.outage_table.proofs.to_sheet.rows_length.Goals as goal

passed : (c : In_ok-window) → let l = c.loop-i in let a = c.args in
    row_at a.table.bytes.now a.table.rows l.i ≡ done c.in_ok-window.window
passed c = sym c.in_ok-window.ensures

pub row_length-sum-requires : goal.row_length-sum-requires
row_length-sum-requires c = let l = c.loop-i in
    let a = c.args in
    row_texts a.format a.options c.requires a.table.bytes.now a.table.rows l.i c.in_ok-window.window (passed (goal.at.row_length-sum-requires c).In_ok-window)

pub returns-in_err-window-clause-result_value : goal.returns-in_err-window-clause-result_value
returns-in_err-window-clause-result_value c = let l = c.loop-i in
    let a = c.args in
    let stopped = rows_stop a.table.bytes.now a.table.rows l.i _ _ (omega arith) (sym c.in_err-window.ensures) in
    let p = err_from_is_err_and c.from_residual.result c.from_residual.ensures.1 in
    rw (p.1, p.2) (sym (ap (length_after a.format a.options l.sum) stopped) ∙ l.invariant.0 ∙ length_all a.format a.options (rows_from a.table.bytes.now a.table.rows 0 a.table.rows))

pub loop-i-preserved : goal.loop-i-preserved
loop-i-preserved c = let added = c.row_length-sum.ensures in
    let l = c.loop-i in
    let a = c.args in
    let v = c.in_ok-window.window in
    let rest = rows_from a.table.bytes.now a.table.rows (l.i + 1) (a.table.rows - (l.i + 1)) in
    let more = rows_more a.table.bytes.now a.table.rows l.i v (omega arith) (passed (goal.at.loop-i-preserved c).In_ok-window) in (
      rw added.0 (sym (length_more a.format a.options l.sum v rest) ∙ ap (length_after a.format a.options l.sum) (sym more) ∙ l.invariant.0),
      omega (arith, added.1),
    )

pub returns-clause-result_value : goal.returns-clause-result_value
returns-clause-result_value c = let l = c.loop-i in
    let a = c.args in
    let ended = rows_end a.table.bytes.now a.table.rows l.i (omega arith) in
    sym (length_none a.format a.options l.sum) ∙ sym (ap (length_after a.format a.options l.sum) ended) ∙ l.invariant.0 ∙ length_all a.format a.options (rows_from a.table.bytes.now a.table.rows 0 a.table.rows)
