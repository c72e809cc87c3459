-- `outage_table::to_sheet::put_rows` meets its contract. The loop's invariant: once the rows left are put, all are. Assumes nothing.
use Prim.Native.Nat.{◌-◌}
use Rattle.outage_spec.specs.Table.{rows_from}
use Rattle.outage_table.specs.Text.{contents}
use Rattle.outage_table.proofs.RowsLaws.{Going}
use Rattle.outage_table.proofs.to_sheet.put_rows.Given as goal

abbrev pub invariant-loop-row : goal.invariant-loop-row
invariant-loop-row l = Going l.format l.options (contents (rows_from l.table.bytes.now l.table.rows 0 l.table.rows)) l.initial.sheet l.from (rows_from l.table.bytes.now l.table.rows l.row (l.table.rows - l.row)) l.sheet l.at
