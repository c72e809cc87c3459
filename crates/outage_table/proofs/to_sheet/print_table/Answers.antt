-- `outage_table::to_sheet::print_table` meets its contract: 13, the first refusal of a row, or the sheet of the rows, which are all contents. Assumes nothing.
use mathlib.Core.Path.{◌≡◌, sym, ◌∙◌}
use Rattle.std.proofs.lemmas.Result.{err_from_is_err_and}
use Rattle.lexical_util.specs.Answer.{done}
use Rattle.outage_spec.specs.Table.{table_count}
use Rattle.outage_spec.proofs.TableLaws.{header}
use Rattle.outage_spec.proofs.HeaderLaws.{table_header}
use Rattle.outage_table.proofs.SheetLaws.{windows_sheet, windows_wrong, windows_refused}
use Rattle.outage_table.proofs.to_sheet.print_table.Goals.{In-Some}
use Rattle.outage_table.proofs.to_sheet.print_table.Goals as goal

-- a count was found
counted : (c : In-Some) → table_count c.args.table.now ≡ done c.in-Some.rows
counted c = table_header c.args.table.now ∙ sym (c.in-Some.ensures 13)

-- or the header's refusal
pub returns-in_default : goal.returns-in_default
returns-in_default c = let a = c.args in
    let wrong = windows_wrong a.format a.options a.table.now _ _ (c.in_default.ensures 13 ∙ sym (table_header a.table.now)) in
    record { result_value = rw (c.at.ensures, wrong); sheet_after = rw wrong }

-- the header that passed makes a table
pub invariant_of-table : goal.invariant_of-table
invariant_of-table c = let h = header _ _ (counted (goal.at.invariant_of-table c).In-Some) in
    record { few = h.few; whole = h.size }

pub put_sheet-requires : goal.put_sheet-requires
put_sheet-requires c = (c.requires, c.in_ok-check.ensures)

pub returns-clause-result_value : goal.returns-clause-result_value
returns-clause-result_value c = let a = c.args in
    rw (windows_sheet a.format a.options c.requires a.table.now _ (counted (goal.at.returns-clause-result_value c).In-Some) c.in_ok-check.ensures) (c.put_sheet.ensures.result_value)

pub returns-clause-sheet_after : goal.returns-clause-sheet_after
returns-clause-sheet_after c = let a = c.args in
    rw (windows_sheet a.format a.options c.requires a.table.now _ (counted (goal.at.returns-clause-sheet_after c).In-Some) c.in_ok-check.ensures) (c.put_sheet.ensures.sheet_after)

pub returns-in_err-check : goal.returns-in_err-check
returns-in_err-check c = let a = c.args in
    let p = err_from_is_err_and c.from_residual.result c.from_residual.ensures.1 in
    let wrong = windows_refused a.format a.options a.table.now _ _ _ (counted (goal.at.returns-in_err-check c).In-Some) c.in_err-check.ensures in
    rw (p.1, p.2) (record { result_value = rw wrong; sheet_after = rw wrong })
