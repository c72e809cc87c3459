-- `lexical_rewrite::record::number_format_of_record` meets its contract, byte by byte. Assumes nothing.
use Rattle.lexical_rewrite_spec.specs.Record.{number_format_of_record}
use Rattle.lexical_rewrite.proofs.record.number_format_of_record.Goals as goal

pub returns : goal.returns
unfolding number_format_of_record
returns c = rw (c.byte_at.ensures, c.byte_at-2.ensures, c.byte_at-3.ensures, c.flag_at.ensures, c.flag_at-2.ensures, c.flag_at-3.ensures, c.flag_at-4.ensures)
