-- `outage_sheet::to_table::read_rows` meets its contract. The loop's invariant: what is left, with the table so far, makes all of it. Assumes nothing.
use Prim.Native.Nat.{◌≤◌}
use lib.ListN.{length}
use Rattle.outage_sheet.proofs.LinesLaws.{Left}
use Rattle.outage_sheet.proofs.to_table.read_rows.Given as goal

abbrev pub invariant-loop-i : goal.invariant-loop-i
invariant-loop-i l = Left l.format l.options l.sheet l.from l.n l.initial.table l.i l.at l.table × (l.at ≤ length l.sheet)
