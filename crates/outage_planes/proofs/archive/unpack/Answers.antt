-- `outage_planes::archive::unpack` meets its contract: planes transposed to a table, refused by 17. Assumes nothing.
use Rattle.outage_planes_spec.specs.Calls.{unpacked_table}
use Rattle.outage_planes_spec.proofs.InverseLaws.{packs_back}
use Rattle.outage_planes.proofs.archive.unpack.Goals as goal

pub returns : goal.returns
unfolding unpacked_table
returns c = let e = c.transpose.ensures in
    let a = c.args in
    record { result_value = e.result_value; table_after = e.target_after; packs_back = packs_back a.packed.now a.table.now _ _ e.result_value e.target_after }
