-- `lexical_write_integer::radix::radix` meets its contract: each step goes on from the bytes so far. Assumes nothing.
use native.Mathlib.Omega.{arith}
use Rattle.lexical_util.specs.Digit.{digit_byte}
use Rattle.lexical_write_integer.proofs.PairLaws.{digits_follow}
use Rattle.lexical_write_integer.proofs.StepLaws.{filled_none}
use Rattle.lexical_write_integer.proofs.radix.radix.Goals as goal

pub loop-at-init : goal.loop-at-init
unfolding digit_byte
loop-at-init c = (filled_none _ _ _ _ (omega arith) (omega arith), digits_follow)
