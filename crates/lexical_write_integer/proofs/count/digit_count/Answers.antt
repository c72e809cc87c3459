-- `lexical_write_integer::count::digit_count` meets its contract: one law for each answer. Assumes nothing.
use mathlib.Core.Path.{refl, sym, ◌∙◌}
use Rattle.lexical_util.specs.Digit.{is_radix}
use Rattle.lexical_util.proofs.BitsLaws.{power_of}
use Rattle.lexical_write_integer_spec.proofs.DigitsAnswer.{log_known, count_widened, count_unknown}
use Rattle.lexical_write_integer.proofs.count.digit_count.Goals as goal

pub returns-then-radix-eq10 : goal.returns-then-radix-eq10
unfolding is_radix
returns-then-radix-eq10 c = rw c.if-radix-eq10.true (c.at_least.ensures ∙ sym (count_widened c.args.value 10 c.args.width _ refl c.decimal_count.ensures))

pub returns-then-is_radix : goal.returns-then-is_radix
returns-then-is_radix c = let a = c.args in
    let known = sym c.is_radix.ensures ∙ c.if-is_radix.true in
    let P = rw (← c.digit_bits.ensures) at (power_of a.radix known c.if-radix-eq10.false) in
    c.at_least-then-is_radix.ensures ∙ sym (count_widened a.value a.radix a.width _ known (c.digit_log.ensures ∙ log_known _ _ P.some_bits ∙ rw P.is))

pub returns-else-is_radix : goal.returns-else-is_radix
returns-else-is_radix c = let a = c.args in sym (count_unknown a.value a.radix a.width (sym c.is_radix.ensures ∙ c.if-is_radix.false))
