-- `outage_table::to_sheet::put_rows` meets its contract. The loop's invariant: once the rows left are put, all are. Assumes nothing.
use Prim.Native.Nat.{◌+◌, ◌-◌}
use mathlib.Core.Path.{◌≡◌, sym}
use native.Mathlib.Omega.{arith}
use Rattle.lexical_util.specs.Answer.{done}
use Rattle.outage_spec.specs.Table.{row_at, rows_from}
use Rattle.outage_table.proofs.RowsLaws.{row_texts, rows_more, rows_stop, rows_end, going_dead, going_room, going_more, going_end}
use Rattle.outage_table.proofs.to_sheet.put_rows.Goals.{In-Ok}
use Rattle.outage_table.proofs.to_sheet.put_rows.Goals as goal

passed : (c : In-Ok) → let l = c.loop-row in let a = c.args in
    row_at a.table.bytes.now a.table.rows l.row ≡ done c.in-Ok.window
passed c = sym c.in-Ok.ensures

pub put_row-at-requires : goal.put_row-at-requires
put_row-at-requires c = let l = c.loop-row in
    let a = c.args in
    let v = c.in-Ok.window in
    let rest = rows_from a.table.bytes.now a.table.rows (l.row + 1) (a.table.rows - (l.row + 1)) in
    let more = rows_more a.table.bytes.now a.table.rows l.row v (omega arith) (passed (goal.at.put_row-at-requires c).In-Ok) in
    (row_texts a.format a.options c.requires.0 a.table.bytes.now a.table.rows l.row v (passed (goal.at.put_row-at-requires c).In-Ok), going_room a.format a.options v rest (rw more at l.invariant))

pub returns-in_default : goal.returns-in_default
returns-in_default c = let l = c.loop-row in
    let a = c.args in
    let stopped = rows_stop a.table.bytes.now a.table.rows l.row _ _ (omega arith) (sym c.in_default.ensures) in
    absurd (going_dead a.format a.options (rw stopped at l.invariant))

pub loop-row-preserved : goal.loop-row-preserved
loop-row-preserved c = let l = c.loop-row in
    let a = c.args in
    let v = c.in-Ok.window in
    let rest = rows_from a.table.bytes.now a.table.rows (l.row + 1) (a.table.rows - (l.row + 1)) in
    let more = rows_more a.table.bytes.now a.table.rows l.row v (omega arith) (passed (goal.at.loop-row-preserved c).In-Ok) in
    going_more a.format a.options v rest (rw more at l.invariant) _ _ c.put_row-at.auto.sheet c.put_row-at.ensures

pub returns : goal.returns
returns c = let l = c.loop-row in
    let a = c.args in
    going_end a.format a.options (rw (rows_end a.table.bytes.now a.table.rows l.row (omega arith)) at l.invariant)
