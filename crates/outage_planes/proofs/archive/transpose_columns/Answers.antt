-- `outage_planes::archive::transpose_columns` meets its contract: the header and both columns, one behind the other. Assumes nothing.
use native.Mathlib.Omega.{arith}
use lib.ListN.{take}
use lib.Seq.{length-take-le}
use Rattle.lexical_buffer.specs.Put.{Puts}
use Rattle.lexical_buffer.proofs.PutLaws.{text_puts}
use Rattle.outage_planes.proofs.ColumnLaws.{columns_short, starts_end, columns_put}
use Rattle.outage_planes.proofs.archive.transpose_columns.Goals.{After-put_bytes-starts}
use Rattle.outage_planes.proofs.archive.transpose_columns.Goals as goal

-- the header has been put
headed : (g : _) (c : After-put_bytes-starts g) → let a = c.args in Puts a.target.now 0 (take 8 a.source.now) c.put_bytes-starts.result c.put_bytes-starts.new.buffer
headed g c = let a = c.args in text_puts a.target.now 0 _ _ _ (let z = length-take-le 8 a.source.now (omega arith) in rw z (omega arith)) (c.put_bytes-starts.ensures.value, c.put_bytes-starts.ensures.buffer_after)

pub returns-then-target-source : goal.returns-then-target-source
returns-then-target-source g c = let f = columns_short g.D.Direction.made g.met.D.Direction.made_size c.args.source.now c.args.target.now c.args.n c.requires.1 (omega arith) in
    rw c.at.ensures (record { result_value = f.0; target_after = f.1 })

pub transpose_column-requires : goal.transpose_column-requires
transpose_column-requires g c = let t = c.args.source.now in
    let d = c.args.target.now in
    let at = starts_end g.D.Direction.made g.met.D.Direction.made_size t d c.args.n c.requires.1 _ _ _ _ (headed g (goal.at.transpose_column-requires g c).After-put_bytes-starts) c.transpose_column-ends.ensures in
    (c.requires.0, omega (arith, at), omega (arith, at, c.put_bytes-starts.auto.buffer, c.transpose_column-ends.auto.target))

pub returns : goal.returns
returns g c = let f = columns_put g.D.Direction.made g.met.D.Direction.made_size c.args.source.now c.args.target.now c.args.n c.requires.1 (omega arith) _ _ _ _ _ _ (headed g (goal.at.returns g c).After-put_bytes-starts) c.transpose_column-ends.ensures c.transpose_column.ensures in
    record { result_value = f.0; target_after = f.1 }
