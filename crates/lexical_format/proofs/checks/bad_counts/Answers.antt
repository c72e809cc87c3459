-- `lexical_format::checks::bad_counts` meets its contract: the counts are compared where neither is too large and both are given. Assumes nothing.
use Rattle.std.proofs.Common.{arith}
use Rattle.std.proofs.lemmas.Bool.Decides.{nat_tests}
use Rattle.lexical_format.specs.Format.{bad_counts}
use Rattle.lexical_format.proofs.checks.bad_counts.Goals as goal

pub returns-then-most-gt-MOST_COUNT : goal.returns-then-most-gt-MOST_COUNT
unfolding bad_counts
returns-then-most-gt-MOST_COUNT c = grind (arith, nat_tests)

pub returns-then-most-ne0 : goal.returns-then-most-ne0
unfolding bad_counts
returns-then-most-ne0 c = grind (arith, nat_tests)

pub returns-else-most-ne0 : goal.returns-else-most-ne0
unfolding bad_counts
returns-else-most-ne0 c = grind (arith, nat_tests)
