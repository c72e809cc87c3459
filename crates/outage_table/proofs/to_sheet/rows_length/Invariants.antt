-- `outage_table::to_sheet::rows_length` meets its contract. The loop's invariant: the length of the rows left, behind the sum, is the length of all; each row adds at most 4,552 bytes. Assumes nothing.
use Prim.Native.Nat.{◌+◌, ◌-◌, ◌*◌, ◌≤◌}
use mathlib.Core.Path.{◌≡◌}
use lib.ListN.{length}
use Rattle.outage_spec.specs.Table.{rows_from}
use Rattle.outage_table.proofs.RowsLaws.{length_after}
use Rattle.lexical_write_float_spec.specs.Write.{longest_text}
use Rattle.outage_table.proofs.to_sheet.rows_length.Given as goal

abbrev pub invariant-loop-i : goal.invariant-loop-i
invariant-loop-i l =
    (length_after l.format l.options l.sum (rows_from l.table.bytes.now l.table.rows l.i (l.table.rows - l.i)) ≡ length_after l.format l.options 0 (rows_from l.table.bytes.now l.table.rows 0 l.table.rows)) × (l.sum ≤ (2 * (longest_text + 1)) * l.i)
