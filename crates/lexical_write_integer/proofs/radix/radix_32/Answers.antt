-- `lexical_write_integer::radix::radix_32` meets its contract: the loop goes on to the last digit, or nothing is left. antt computes the table from its rule, and compares. Assumes nothing.
use native.Mathlib.Omega.{arith}
use Rattle.lexical_util.specs.Digit.{digit_byte}
use Rattle.lexical_write_integer.specs.Table.{pair_byte}
use Rattle.lexical_write_integer.proofs.PairLaws.{pairs_follow}
use Rattle.lexical_write_integer.proofs.radix.radix_32.Goals as goal

pub radix_pairs-requires : goal.radix_pairs-requires
unfolding pair_byte digit_byte
radix_pairs-requires c = (pairs_follow 5, omega arith, omega arith, omega arith, omega arith, omega arith, omega arith)
