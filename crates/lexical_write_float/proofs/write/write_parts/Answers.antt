-- `lexical_write_float::write::write_parts` meets its contract: the check's refusal, or what the parts are asked for. Assumes nothing.
use mathlib.Core.Path.{◌≡◌, sym}
use Rattle.lexical_util.specs.Answer.{done}
use Rattle.lexical_format.specs.Format.{checked_format}
use Rattle.lexical_write_float.proofs.AnswerLaws.{passed}
use Rattle.lexical_write_float.proofs.write.write_parts.Goals.{In_ok-checked}
use Rattle.lexical_write_float.proofs.write.write_parts.Goals as goal

admitted : (c : In_ok-checked) → let a = c.args in checked_format a.format a.options ≡ done c.in_ok-checked.checked
admitted c = sym (c.in_ok-checked.ensures)

pub write_checked-requires : goal.write_checked-requires
write_checked-requires c = (passed _ _ _ (sym (admitted (goal.at.write_checked-requires c).In_ok-checked)), c.requires)
