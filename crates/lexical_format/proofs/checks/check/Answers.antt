-- `lexical_format::checks::check` meets its contract: the writer's check is the reader's, then its own four. Assumes nothing.
use mathlib.Core.Path.{sym}
use Rattle.std.proofs.lemmas.Result.{err_from_is_err_and}
use Rattle.lexical_format.proofs.CheckLaws.{reading_of_lem, writer_after_reader}
use Rattle.lexical_format.proofs.checks.check.Goals as goal

pub returns-in_err-row : goal.returns-in_err-row
returns-in_err-row c = let p = err_from_is_err_and c.from_residual.result c.from_residual.ensures.1 in rw (p.1, p.2, writer_after_reader, ← reading_of_lem, sym c.in_err-row.ensures)

pub returns : goal.returns
returns c = rw (writer_after_reader, ← reading_of_lem, sym c.in_ok-row.ensures) c.check_writing.ensures
