-- `outage_planes::planes::put_first` meets its contract. Assumes nothing.
use lib.Seq.{length-take-le}
use Rattle.lexical_buffer.proofs.PutLaws.{text_puts}
use Rattle.outage_planes.proofs.planes.put_first.Goals as goal

pub returns : goal.returns
returns c = let a = c.args in
    text_puts a.target.now a.at _ _ _ (rw (length-take-le a.n a.bytes.now c.requires.0) c.requires.1) (c.put_bytes.ensures.value, c.put_bytes.ensures.buffer_after)
