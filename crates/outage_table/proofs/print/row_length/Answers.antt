-- `outage_table::print::row_length` meets its contract: two texts, a space and LF. Assumes nothing.
use native.Mathlib.Omega.{arith}
use Rattle.outage_table.proofs.TextLaws.{row_length}
use Rattle.outage_table.proofs.print.row_length.Goals as goal

pub returns : goal.returns
returns c = let a = c.args in
    (omega (arith, row_length a.format a.options a.window), omega arith)
