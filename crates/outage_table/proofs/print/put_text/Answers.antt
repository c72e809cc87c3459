-- `outage_table::print::put_text` meets its contract: the writer has room, so it writes the text. Assumes nothing.
use Rattle.lexical_buffer.proofs.PutLaws.{part_puts}
use Rattle.outage_table.proofs.print.put_text.Goals as goal

pub returns-in-Ok : goal.returns-in-Ok
returns-in-Ok c = part_puts _ _ c.args.sheet.now c.args.at c.requires.0 c.requires.1 _ _ (c.in-Ok.ensures.result_value) c.write_float.ensures.buffer_after
