-- `outage_table::to_sheet::put_sheet` meets its contract: where count line and rows have room they are put one behind the other. Assumes nothing.
use Prim.Native.Nat.{◌+◌, ◌≤◌}
use mathlib.Core.Path.{sym, ◌∙◌}
use borrow.Author.Tests.{leb-true}
use lib.ListN.{length}
use Rattle.lexical_write_integer_spec.specs.Digits.{numeral}
use Rattle.outage_spec.specs.Table.{rows_from}
use Rattle.outage_table.specs.Text.{contents, rows_of}
use Rattle.outage_table.proofs.SheetLaws.{sheet_put}
use Rattle.outage_table.proofs.to_sheet.put_sheet.Goals.{Then-sheet_has_room}
use Rattle.outage_table.proofs.to_sheet.put_sheet.Goals as goal

-- there is room
fits : (c : Then-sheet_has_room) → let a = c.args in
    length (numeral 10 1 a.table.rows) + 1 + length (rows_of a.format a.options (contents (rows_from a.table.bytes.now a.table.rows 0 a.table.rows))) ≤ length a.sheet.now
fits c = leb-true _ _ (sym c.sheet_has_room.ensures ∙ c.if-sheet_has_room.true)

pub returns-then-sheet_has_room-clause-sheet_after : goal.returns-then-sheet_has_room-clause-sheet_after
returns-then-sheet_has_room-clause-sheet_after c = let a = c.args in
    (sheet_put a.table.rows (rows_of a.format a.options (contents (rows_from a.table.bytes.now a.table.rows 0 a.table.rows))) a.sheet.now (fits (goal.at.returns-then-sheet_has_room-clause-sheet_after c).Then-sheet_has_room) _ _ c.put_count-at.ensures _ _ c.put_rows.ensures).1
