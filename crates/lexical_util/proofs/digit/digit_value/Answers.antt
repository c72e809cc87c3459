-- `lexical_util::digit::digit_value` meets its contract: one law for each range of bytes. Assumes nothing.
use mathlib.Core.Path.{sym, ap, ◌∙◌}
use Rattle.std.specs.Prelude.{Some}
use native.Mathlib.Omega.{arith}
use Rattle.lexical_util.proofs.DigitLaws.{value_figure, value_capital, value_low, value_between, value_high}
use Rattle.lexical_util.proofs.digit.digit_value.Goals as goal

pub returns-in-48-to-57 : goal.returns-in-48-to-57
returns-in-48-to-57 c = sym (value_figure _ (omega arith) (omega arith))

pub returns-in-65-to-86 : goal.returns-in-65-to-86
returns-in-65-to-86 c = ap Some (omega arith) ∙ sym (value_capital _ (omega arith) (omega arith))

pub returns-in_default : goal.returns-in_default
returns-in_default c = sym (value_low _ (omega arith))

pub returns-in_default-2 : goal.returns-in_default-2
returns-in_default-2 c = sym (value_between _ (omega arith) (omega arith))

pub returns-in_default-3 : goal.returns-in_default-3
returns-in_default-3 c = sym (value_high _ (omega arith))
