-- `outage_console::archive::pack_table` meets its contract: nothing that is packed is longer than the bytes lent. Assumes nothing.
use native.Mathlib.Omega.{arith}
use Rattle.outage_spec.specs.Table.{table_size, most_windows}
use Rattle.outage_planes_spec.specs.Calls.{packed_table}
use Rattle.outage_planes_spec.proofs.InverseLaws.{packed_short}
use Rattle.outage_console.proofs.ScreenLaws.{put_shown}
use Rattle.outage_console.proofs.archive.pack_table.Goals as goal

pub returns : goal.returns
returns c = let a = c.args in
    let e = c.pack-answer.ensures in
    let k = put_shown (packed_table a.table.now) a.out.now _ _ (table_size most_windows) _ _ (omega arith) (packed_short a.table.now) (e.result_value, e.packed_after) (c.put_answer.ensures.value, c.put_answer.ensures.out_after) in
    record { value = k.count; out_after = k.bytes; within = k.within }
