-- `outage_sheet::row::fields_window` meets its contract: the start's refusal, the end's, or the check of both. Assumes nothing.
use Rattle.std.proofs.lemmas.Result.{err_from_is_err_and}
use mathlib.Core.Path.{sym, subst, ◌∙◌}
use native.Mathlib.Omega.{arith}
use lib.ListN.{length}
use Rattle.outage_sheet.proofs.RowLaws.{Within, IsNumber, read_within, fields_start, fields_end, fields_both}
use Rattle.outage_sheet.proofs.row.fields_window.Goals as goal

pub overflow_add-start-in-Err : goal.overflow_add-start-in-Err
overflow_add-start-in-Err c =
    let p = subst (Within IsNumber (length c.args.end.now)) (sym c.in-Err.ensures.result_value) (read_within c.args.format c.args.options c.args.end.now) in
    omega (arith, p, c.requires)

pub returns-in_err-x : goal.returns-in_err-x
returns-in_err-x c =
    let a = c.args in
    let p = err_from_is_err_and c.from_residual.result c.from_residual.ensures.1 in
    rw (p.1, p.2) (sym (fields_start a.format a.options a.start.now a.end.now _ _ (sym c.in_err-x.ensures.result_value)))

pub returns-in-Err : goal.returns-in-Err
returns-in-Err c =
    let a = c.args in
    rw c.at.ensures (sym (fields_end a.format a.options a.start.now a.end.now _ _ _ (sym c.in_ok-x.ensures.result_value) (sym c.in-Err.ensures.result_value)))

pub returns : goal.returns
returns c =
    let a = c.args in
    c.check_window.ensures ∙ sym (fields_both a.format a.options a.start.now a.end.now _ _ (sym c.in_ok-x.ensures.result_value) (sym c.in-Ok.ensures.result_value))
