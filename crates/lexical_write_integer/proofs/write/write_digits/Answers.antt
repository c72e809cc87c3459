-- `lexical_write_integer::write::write_digits` meets its contract: each branch fills in the radix that it is taken for. Assumes nothing.
use mathlib.Core.Path.{sym, ◌∙◌}
use native.Mathlib.Nat.{sub-zero}
use native.Mathlib.Omega.{arith}
use Rattle.lexical_util.proofs.BitsLaws.{Power, power_of}
use Rattle.lexical_write_integer_spec.proofs.FrontLaws.{grows_all, begun_whole}
use Rattle.lexical_write_integer_spec.proofs.LastLaws.{length_last}
use Rattle.lexical_write_integer.proofs.write.write_digits.Goals.{After-digit_bits}
use Rattle.lexical_write_integer.proofs.write.write_digits.Goals as goal

power : (c : After-digit_bits) → Power c.args.base c.digit_bits.result
power c = rw c.digit_bits.ensures (power_of c.args.base c.requires.0 c.if-base-eq10.false)

pub radix_by_bits-requires : goal.radix_by_bits-requires
radix_by_bits-requires c = ((power (goal.at.radix_by_bits-requires c).After-digit_bits).some_bits, (power (goal.at.radix_by_bits-requires c).After-digit_bits).few_bits, omega arith, rw (c.digit_bits.ensures, sub-zero) c.requires.1, omega arith)

pub returns-then-base-eq10 : goal.returns-then-base-eq10
returns-then-base-eq10 c = let a = c.args in
    rw c.if-base-eq10.true (c.decimal.ensures ∙ sym (begun_whole _ _ a.count (length_last 10 a.count a.value)))

pub returns-else-base-eq10 : goal.returns-else-base-eq10
returns-else-base-eq10 c = grows_all _ _ _ _ (rw (power (goal.at.returns-else-base-eq10 c).After-digit_bits).is at c.radix_by_bits.ensures)
