-- `lexical_write_integer::count::digit_log` meets its contract: the significant bits over b, rounded up, and at least 1. Assumes nothing.
use Prim.Native.Nat.{◌+◌, ◌-◌}
use mathlib.Core.Path.{◌≡◌, sym, ◌∙◌}
use native.Mathlib.Omega.{arith}
use lib.Ieee.{size}
use Rattle.lexical_write_integer_spec.specs.Write.{digit_log}
use Rattle.lexical_write_integer_spec.proofs.CountLaws.{count_ceil}
use Rattle.lexical_write_integer_spec.proofs.DigitsAnswer.{log_known}
use Rattle.lexical_write_integer.proofs.count.digit_log.Goals as goal

pub returns-then-bits_per_digit-eq0 : goal.returns-then-bits_per_digit-eq0
unfolding digit_log
returns-then-bits_per_digit-eq0 c = let e : c.args.bits_per_digit ≡ 0 = omega arith in rw e

pub returns : goal.returns
returns c = let bits = c.significant_bits-bits.ensures.value in
    let a = c.args in
    let more : size a.value + (a.bits_per_digit - 1) ≡ size a.value + a.bits_per_digit - 1 = omega arith in
    c.at_least.ensures
    ∙ rw (c.quotient-digits.ensures, bits, more) (sym (log_known a.value a.bits_per_digit (omega arith) ∙ count_ceil a.bits_per_digit a.value (omega arith)))
