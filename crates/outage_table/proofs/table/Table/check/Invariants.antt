-- `outage_table::table::Table::check` meets its contract. The loop's invariant: what is said of the rows left is said of all of them. Assumes nothing.
use Rattle.std.specs.Prelude.{◌-◌, Result}
use Rattle.lexical_util.specs.declared.answer.Refusal.{Refusal}
use Rattle.outage_spec.specs.Table.{rows_from}
use Rattle.outage_table.specs.Rows.{AreRows}
use Rattle.outage_table.proofs.table.Table.check.Given as goal

abbrev pub invariant-loop-i : goal.invariant-loop-i
invariant-loop-i l = (r : Result (Unit {0}) Refusal) → AreRows r (rows_from l.self.bytes.now l.self.rows l.i (l.self.rows - l.i)) → AreRows r (rows_from l.self.bytes.now l.self.rows 0 l.self.rows)
