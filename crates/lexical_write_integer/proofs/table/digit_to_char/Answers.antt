-- `lexical_write_integer::table::digit_to_char` meets its contract. Assumes nothing.
use mathlib.Core.Path.{sym}
use native.Mathlib.Omega.{arith}
use Rattle.lexical_util.proofs.DigitLaws.{byte_figure, byte_capital}
use Rattle.lexical_write_integer.proofs.table.digit_to_char.Goals as goal

pub returns-then-digit-lt10 : goal.returns-then-digit-lt10
returns-then-digit-lt10 c = sym (byte_figure _ (omega arith))

pub returns-else-digit-lt10 : goal.returns-else-digit-lt10
returns-else-digit-lt10 c = sym (byte_capital _ (omega arith))
