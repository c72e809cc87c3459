-- `lexical_write_integer::radix::odd_digit` meets its contract: one step, or none. Assumes nothing.
use native.Mathlib.Omega.{arith}
use Rattle.lexical_util.specs.Digit.{digit_byte}
use Rattle.lexical_write_integer.proofs.PairLaws.{digits_follow}
use Rattle.lexical_write_integer.proofs.radix.odd_digit.Goals as goal

pub step_by_digits-requires : goal.step_by_digits-requires
unfolding digit_byte
step_by_digits-requires c = (digits_follow, omega arith, omega arith, omega arith, omega arith, omega arith, c.requires.3, omega arith)
