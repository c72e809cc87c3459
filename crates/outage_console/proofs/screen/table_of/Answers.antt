-- `outage_console::screen::table_of` meets its contract: a sheet that is too long, or the call, which has room. Assumes nothing.
use native.Mathlib.Omega.{arith}
use lib.ListN.{length}
use Rattle.outage_console.proofs.ScreenLaws.{reading_long, reading_short}
use Rattle.outage_console.proofs.screen.table_of.Goals as goal

pub returns-then-sheet-gt-LONGEST_SHEET_READ : goal.returns-then-sheet-gt-LONGEST_SHEET_READ
returns-then-sheet-gt-LONGEST_SHEET_READ c = let a = c.args in
    record { result_value = rw (c.at.ensures, ← reading_long a.format a.sheet.now (omega arith)); table_after = rw (← reading_long a.format a.sheet.now (omega arith)) }

pub returns : goal.returns
returns c =
    let a = c.args in
    let short = reading_short a.format a.sheet.now (length a.table.now) (omega arith) (omega arith) in
    record { result_value = rw short at c.sheet_to_table.ensures.result_value; table_after = rw short at c.sheet_to_table.ensures.table_after }
