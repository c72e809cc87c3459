-- `outage_table::table::Table::check` meets its contract. The loop's invariant: what is said of the rows left is said of all. Assumes nothing.
use Rattle.std.specs.Prelude.{Ok, Err}
use mathlib.Core.Path.{sym, subst}
use native.Mathlib.Omega.{arith}
use Rattle.std.proofs.lemmas.Result.{err_from_is_err_and}
use Rattle.outage_table.specs.Rows.{AreRows}
use Rattle.outage_table.proofs.RowsLaws.{rows_more, rows_stop, rows_end, checked_more}
use Rattle.outage_table.proofs.table.Table.check.Goals as goal

pub loop-i-preserved : goal.loop-i-preserved
loop-i-preserved c =
    let a = c.args in
    let more = rows_more a.self.bytes.now a.self.rows c.loop-i.i _ (omega arith) (sym c.in_ok-row.ensures) in
    λ r h. c.loop-i.invariant r (subst (AreRows r) (sym more) (checked_more r _ _ h))

pub returns-in_err-row : goal.returns-in_err-row
returns-in_err-row c =
    let a = c.args in
    let p = err_from_is_err_and c.from_residual.result c.from_residual.ensures.1 in
    rw (p.1, p.2) (c.loop-i.invariant (Err _) (rows_stop a.self.bytes.now a.self.rows c.loop-i.i _ _ (omega arith) (sym c.in_err-row.ensures)))

pub returns : goal.returns
returns c = let a = c.args in c.loop-i.invariant (Ok tt) (rw (rows_end a.self.bytes.now a.self.rows c.loop-i.i (omega arith)))
