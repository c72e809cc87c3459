-- `lexical_rewrite::record::options_of_record` meets its contract, byte by byte. Assumes nothing.
use mathlib.Core.Path.{◌∙◌}
use Rattle.lexical_exponent.proofs.DifferenceLaws.{read_back}
use Rattle.lexical_rewrite_spec.specs.Record.{options_of_record}
use Rattle.lexical_rewrite.proofs.record.options_of_record.Goals as goal

pub returns : goal.returns
unfolding options_of_record
returns c = rw (
  c.two_bytes_at.ensures.value,
  c.two_bytes_at-2.ensures.value,
  read_back _ c.signed_at.type_inv ∙ c.signed_at.ensures,
  read_back _ c.signed_at-2.type_inv ∙ c.signed_at-2.ensures,
  c.byte_at.ensures,
  c.mode_at.ensures,
  c.flag_at.ensures,
  c.byte_at-2.ensures,
  c.byte_at-3.ensures,
)
