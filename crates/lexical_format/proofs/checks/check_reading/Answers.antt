-- `lexical_format::checks::check_reading` meets its contract: the checks look at these five numbers alone. Assumes nothing.
use mathlib.Core.Path.{◌∙◌}
use Rattle.lexical_format.proofs.CheckLaws.{reading_of_lem}
use Rattle.lexical_format.proofs.checks.check_reading.Goals as goal

pub returns : goal.returns
returns c = let a = c.args in c.check_numbers.ensures ∙ reading_of_lem a.format a.options
