-- `outage_console::archive::unpack_table` meets its contract: nothing that is unpacked is longer than the bytes lent. Assumes nothing.
use native.Mathlib.Omega.{arith}
use Rattle.outage_spec.specs.Table.{table_size, most_windows}
use Rattle.outage_planes_spec.specs.Calls.{unpacked_table}
use Rattle.outage_planes_spec.proofs.InverseLaws.{unpacked_short}
use Rattle.outage_console.proofs.ScreenLaws.{put_shown}
use Rattle.outage_console.proofs.archive.unpack_table.Goals as goal

pub returns : goal.returns
returns c = let a = c.args in
    let e = c.unpack-answer.ensures in
    let k = put_shown (unpacked_table a.packed.now) a.out.now _ _ (table_size most_windows) _ _ (omega arith) (unpacked_short a.packed.now) (e.result_value, e.table_after) (c.put_answer.ensures.value, c.put_answer.ensures.out_after) in
    record { value = k.count; out_after = k.bytes; within = k.within }
