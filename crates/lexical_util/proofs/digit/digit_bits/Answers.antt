-- `lexical_util::digit::digit_bits` meets its contract: the last arm is that of a number none of the five. Assumes nothing.
use mathlib.Core.Path.{◌≡◌}
use native.Mathlib.Omega.{arith}
use borrow.Author.Tests.{ne_eqb}
use Rattle.lexical_util.specs.Digit.{digit_bits}
use Rattle.lexical_util.proofs.BitsLaws.{digit_bits_other}
use Rattle.lexical_util.proofs.digit.digit_bits.Goals as goal

pub returns-in-2 : goal.returns-in-2
unfolding digit_bits
returns-in-2 c = let e : c.args.radix ≡ 2 = omega arith in rw e

pub returns-in-4 : goal.returns-in-4
unfolding digit_bits
returns-in-4 c = let e : c.args.radix ≡ 4 = omega arith in rw e

pub returns-in-8 : goal.returns-in-8
unfolding digit_bits
returns-in-8 c = let e : c.args.radix ≡ 8 = omega arith in rw e

pub returns-in-16 : goal.returns-in-16
unfolding digit_bits
returns-in-16 c = let e : c.args.radix ≡ 16 = omega arith in rw e

pub returns-in-32 : goal.returns-in-32
unfolding digit_bits
returns-in-32 c = let e : c.args.radix ≡ 32 = omega arith in rw e

pub returns-in_default : goal.returns-in_default
returns-in_default c = let n = c.args.radix in
    digit_bits_other n
    (record {
      not_2 = ne_eqb 2 n (λ e. omega arith);
      not_4 = ne_eqb 4 n (λ e. omega arith);
      not_8 = ne_eqb 8 n (λ e. omega arith);
      not_16 = ne_eqb 16 n (λ e. omega arith);
      not_32 = ne_eqb 32 n (λ e. omega arith);
    })
