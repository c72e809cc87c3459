-- `lexical_util::digit::is_width` meets its contract. Assumes nothing.
use native.Mathlib.Omega.{arith}
use borrow.Author.Tests.{le-leb, lt-leb}
use Rattle.lexical_util.specs.Digit.{is_width}
use Rattle.lexical_util.proofs.digit.is_width.Goals as goal

pub returns-then-width-ge1 : goal.returns-then-width-ge1
unfolding is_width
returns-then-width-ge1 c = rw (le-leb 1 c.args.width (omega arith))

pub returns-else-width-ge1 : goal.returns-else-width-ge1
unfolding is_width
returns-else-width-ge1 c = rw (lt-leb 1 c.args.width (omega arith))
