-- `outage_table::to_sheet::table_to_sheet` meets its contract: the check's refusal, or what the table is asked for. Assumes nothing.
use mathlib.Core.Path.{refl}
use Rattle.std.proofs.lemmas.Result.{err_from_is_err_and}
use Rattle.outage_spec.proofs.WordLaws.{AreBytes, all_bytes}
use Rattle.outage_table.specs.Text.{Admitted}
use Rattle.outage_table.proofs.SheetLaws.{settled_row, settled_refused, sheet_passed, sheet_refused, meets}
use Rattle.outage_table.proofs.to_sheet.table_to_sheet.Goals.{After-shared_slice_known-1, In_ok-check_format}
use Rattle.outage_table.proofs.to_sheet.table_to_sheet.Goals as goal

admitted : (c : In_ok-check_format) → let a = c.args in Admitted a.format a.options
admitted c =
    let a = c.args in
    settled_row a.format a.options _ (c.in_ok-check_format.ensures)

-- a slice of u8 holds bytes
bytes : (c : After-shared_slice_known-1) → AreBytes c.args.table.now
bytes c = all_bytes c.args.table.now (λ i. (c.shared_slice_known-1.given i).fits)

pub returns : goal.returns
returns c = let a = c.args in
    let f = meets a.format a.options a.table.now a.sheet.now _ _ (bytes (goal.at.returns c).After-shared_slice_known-1) (rw (← sheet_passed a.format a.options (admitted (goal.at.returns c).In_ok-check_format) a.table.now) at c.print_table.ensures.result_value, rw (← sheet_passed a.format a.options (admitted (goal.at.returns c).In_ok-check_format) a.table.now) at c.print_table.ensures.sheet_after) in
    record { result_value = f.0; sheet_after = f.1.0; longest = f.1.1.0; way_back = f.1.1.1 }

pub returns-in_err-check_format : goal.returns-in_err-check_format
returns-in_err-check_format c = let a = c.args in
    let refused = settled_refused a.format a.options _ _ (c.in_err-check_format.ensures) in
    let p = err_from_is_err_and c.from_residual.result c.from_residual.ensures.1 in
    let f = meets a.format a.options a.table.now a.sheet.now _ _ (bytes (goal.at.returns-in_err-check_format c).After-shared_slice_known-1) (rw (sheet_refused a.format a.options _ _ refused a.table.now) (refl, refl)) in
    rw (p.1, p.2) (record { result_value = f.0; sheet_after = f.1.0; longest = f.1.1.0; way_back = f.1.1.1 })
