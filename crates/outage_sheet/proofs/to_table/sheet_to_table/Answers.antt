-- `outage_sheet::to_table::sheet_to_table` meets its contract: the format's refusal, or what the sheet makes. Assumes nothing.
use Rattle.std.proofs.lemmas.Result.{err_from_is_err_and}
use mathlib.Core.Path.{sym}
use lib.ListN.{length}
use Rattle.outage_sheet.proofs.SheetLaws.{format_refused, format_passed, refused_so, answered_so}
use Rattle.outage_sheet.proofs.to_table.sheet_to_table.Goals as goal

pub returns : goal.returns
returns c =
    let a = c.args in
    let e = format_passed a.format a.options a.sheet.now (length a.table.now) _ (sym c.in_ok-check_reading.ensures) in
    let f = answered_so _ a.table.now _ e _ _ (c.read_counted.ensures.result_value, c.read_counted.ensures.table_after) in
    record { result_value = f.0; table_after = f.1 }

pub returns-in_err-check_reading : goal.returns-in_err-check_reading
returns-in_err-check_reading c =
    let a = c.args in
    let p = err_from_is_err_and c.from_residual.result c.from_residual.ensures.1 in
    let f = refused_so _ a.table.now _ _ (format_refused a.format a.options a.sheet.now (length a.table.now) _ _ (sym c.in_err-check_reading.ensures)) in
    rw (p.1, p.2) (record { result_value = f.0; table_after = f.1 })
