-- `outage_console::screen::print_sheet` meets its contract: no sheet is longer than the bytes lent. Assumes nothing.
use native.Mathlib.Omega.{arith}
use Rattle.outage_spec.specs.Format.{printed}
use Rattle.outage_spec.proofs.LengthLaws.{sheet_short}
use Rattle.outage_spec.proofs.WordLaws.{all_bytes}
use Rattle.outage_console.specs.Screen.{printing}
use Rattle.outage_console.proofs.ScreenLaws.{put_shown}
use Rattle.outage_console.proofs.WeekLaws.{table_returns}
use Rattle.outage_spec.specs.Sheet.{sheet_size}
use Rattle.lexical_write_float_spec.specs.Write.{longest_text}
use Rattle.outage_console.proofs.screen.print_sheet.Goals as goal

-- a slice of u8 holds bytes, so that its table comes back
pub returns : goal.returns
returns c = let a = c.args in
    let table = a.table.now in
    let answer = rw c.sheet_in-printed.ensures at c.table_to_sheet-answer.ensures.result_value in
    let left = rw c.sheet_in-printed.ensures at c.table_to_sheet-answer.ensures.sheet_after in
    let k = put_shown (printing table) a.out.now _ _ (sheet_size longest_text) _ _ (omega arith) (sheet_short printed.format printed.options table) (answer, left) (c.put_answer.ensures.value, c.put_answer.ensures.out_after) in
    record { value = k.count; out_after = k.bytes; within = k.within; comes_back = table_returns table (all_bytes table (λ i. (c.shared_slice_known-1.given i).fits)) }
