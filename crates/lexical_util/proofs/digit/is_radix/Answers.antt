-- `lexical_util::digit::is_radix` meets its contract. Assumes nothing.
use borrow.Author.Rules.{rules}
use mathlib.Core.Path.{sym}
use Rattle.lexical_util.proofs.RadixLaws.{radix_yes, radix_no}
use Rattle.lexical_util.proofs.digit.is_radix.Goals as goal

pub returns-in-2 : goal.returns-in-2
returns-in-2 c = sym (radix_yes _ c.in-2.is)

pub returns-in_default : goal.returns-in_default
returns-in_default c = sym (radix_no _ (search rules))
