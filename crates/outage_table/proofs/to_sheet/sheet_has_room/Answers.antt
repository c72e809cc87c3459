-- `outage_table::to_sheet::sheet_has_room` meets its contract: no row is longer than two of the longest texts, a space and an LF, and where that does not settle it they are measured. Assumes nothing.
use Prim.Native.Nat.{◌≤◌}
use mathlib.Core.Path.{◌≡◌, ap, ◌∙◌}
use native.Mathlib.Omega.{arith}
use lib.ListN.{length}
use Rattle.lexical_util.specs.Answer.{of_result}
use Rattle.lexical_write_integer_spec.specs.Digits.{numeral}
use Rattle.outage_spec.specs.Table.{rows_from}
use Rattle.outage_table.proofs.SheetLaws.{count_digits, room_known, length_found}
use Rattle.outage_table.proofs.to_sheet.sheet_has_room.Goals.{After-digit_count}
use Rattle.outage_table.proofs.to_sheet.sheet_has_room.Goals as goal

counted : (c : After-digit_count) → let n = c.args.table.rows in (c.digit_count.result ≡ length (numeral 10 1 n)) × (c.digit_count.result ≤ 3)
counted c =
    let d = count_digits c.args.table.rows c.args.table.few in
    (c.digit_count.ensures ∙ d.0, omega (arith, c.digit_count.ensures, d.0, d.1))

pub returns-then-room-n : goal.returns-then-room-n
returns-then-room-n c = let a = c.args in
    room_known a.format a.options c.requires.0 a.table.bytes.now a.table.rows a.room a.table.few c.requires.1 (omega arith)

pub overflow_add-result : goal.overflow_add-result
overflow_add-result c = omega (arith, (counted (goal.at.overflow_add-result c).After-digit_count).1)

pub overflow_add-result-in-Ok : goal.overflow_add-result-in-Ok
overflow_add-result-in-Ok c = omega (arith, (counted (goal.at.overflow_add-result-in-Ok c).After-digit_count).1, c.rows_length.ensures.few _ (ap of_result c.in-Ok.is))

pub returns-in-Ok : goal.returns-in-Ok
returns-in-Ok c = let a = c.args in
    let all = rows_from a.table.bytes.now a.table.rows 0 a.table.rows in
    let rows = (length_found a.format a.options all _ c.rows_length.ensures.result_value _ (ap of_result c.in-Ok.is)).1 in
    rw ((counted (goal.at.returns-in-Ok c).After-digit_count).0, rows)
