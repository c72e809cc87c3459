-- `outage_console::screen::read_sheet` meets its contract: no table is longer than the bytes lent. Assumes nothing.
use native.Mathlib.Omega.{arith}
use Rattle.outage_console.specs.Screen.{reading}
use Rattle.outage_console.proofs.ScreenLaws.{put_shown, reading_within}
use Rattle.outage_spec.specs.Table.{table_size, most_windows}
use Rattle.outage_console.proofs.screen.read_sheet.Goals as goal

pub returns : goal.returns
returns c = let a = c.args in
    let k = put_shown (reading a.format a.sheet.now) a.out.now _ _ (table_size most_windows) _ _ (omega arith) (reading_within a.format a.sheet.now) (c.table_of-answer.ensures.result_value, c.table_of-answer.ensures.table_after) (c.put_answer.ensures.value, c.put_answer.ensures.out_after) in
    record { value = k.count; out_after = k.bytes; within = k.within }
