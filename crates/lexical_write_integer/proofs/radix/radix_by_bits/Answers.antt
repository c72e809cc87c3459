-- `lexical_write_integer::radix::radix_by_bits` meets its contract: the first step, and then the loop of the radix. Assumes nothing.
use Prim.Native.Nat.{◌-◌, ◌*◌, ◌<◌}
use mathlib.Core.Path.{◌≡◌}
use native.Mathlib.Omega.{arith}
use Rattle.lexical_util.specs.Digit.{digit_byte}
use Rattle.lexical_write_integer.specs.Table.{pair_byte}
use Rattle.lexical_write_integer.proofs.PairLaws.{pairs_follow}
use Rattle.lexical_write_integer.proofs.StepLaws.{shorter}
use Rattle.lexical_write_integer.proofs.radix.radix_by_bits.Goals.{After-buffer-1, After-odd_digit-at}
use Rattle.lexical_write_integer.proofs.radix.radix_by_bits.Goals as goal

-- behind the first step no shift is longer
fewer : (c : After-odd_digit-at) → c.args.b * (c.args.count - c.odd_digit-at.result - 1) < 64
fewer c = shorter c.args.b _ _ (omega (arith, c.odd_digit-at.ensures.place)) c.requires.3

pub radix_pairs-requires : goal.radix_pairs-requires
unfolding pair_byte digit_byte
radix_pairs-requires c = let r = c.odd_digit-at.ensures.place in
    let one : c.args.b ≡ 1 = omega arith in
    (pairs_follow 1, omega arith, omega arith, r.1, r.2, rw one at (fewer (goal.at.radix_pairs-requires c).After-odd_digit-at), omega arith)
