-- `outage_planes::archive::pack` meets its contract: a table transposed to planes, refused by 13. Assumes nothing.
use Rattle.outage_spec.proofs.HeaderLaws.{table_header}
use Rattle.outage_planes_spec.specs.Calls.{packed_table}
use Rattle.outage_planes_spec.proofs.InverseLaws.{unpacks_back}
use Rattle.outage_planes.proofs.archive.pack.Goals as goal

pub returns : goal.returns
unfolding packed_table
returns c = let e = c.transpose.ensures in
    let t = c.args.table.now in
    record {
      result_value = rw (table_header t) e.result_value;
      packed_after = rw (table_header t) e.target_after;
      unpacks_back = unpacks_back t c.args.packed.now _ _ (rw (table_header t) e.result_value) (rw (table_header t) e.target_after);
    }
