-- `lexical_write_integer::trace::step_of_radix` meets its contract: a step of one digit or of two, as many as are to be added. Assumes nothing.
use Prim.Native.Nat.{◌-◌}
use mathlib.Core.Path.{◌≡◌}
use native.Mathlib.Omega.{arith}
use Rattle.lexical_util.specs.Digit.{digit_byte}
use Rattle.lexical_write_integer_spec.proofs.StepAnswer.{step_odd, step_even}
use Rattle.lexical_write_integer.specs.Table.{pair_byte}
use Rattle.lexical_write_integer.proofs.PairLaws.{digits_follow, pairs_follow}
use Rattle.lexical_write_integer.proofs.StepLaws.{shorter}
use Rattle.lexical_write_integer.proofs.trace.step_of_radix.Goals as goal

pub step_by_digits-requires : goal.step_by_digits-requires
unfolding digit_byte
step_by_digits-requires c = (digits_follow, omega arith, omega arith, omega arith, omega arith, omega arith, shorter c.args.b _ _ (omega arith) c.requires.3, omega arith)

pub returns-then-count-at-eq1 : goal.returns-then-count-at-eq1
returns-then-count-at-eq1 c = let a = c.args in
    let e = c.step_by_digits.ensures in
    record { value = rw (step_odd (a.count - a.at) (omega arith)) (e.value); buffer_after = rw (step_odd (a.count - a.at) (omega arith)) (e.buffer_after) }

pub step_by_pair-requires : goal.step_by_pair-requires
unfolding pair_byte digit_byte
step_by_pair-requires c = let one : c.args.b ≡ 1 = omega arith in
    (pairs_follow 1, omega arith, omega arith, omega arith, rw one at (shorter c.args.b (c.args.count - c.args.at - 2) _ (omega arith) c.requires.3), omega arith)

pub step_by_pair-requires-in-5 : goal.step_by_pair-requires-in-5
unfolding pair_byte digit_byte
step_by_pair-requires-in-5 c = let five : c.args.b ≡ 5 = omega arith in
    (pairs_follow 5, omega arith, omega arith, omega arith, rw five at (shorter c.args.b (c.args.count - c.args.at - 2) _ (omega arith) c.requires.3), omega arith)

pub step_by_digits-requires-in_default : goal.step_by_digits-requires-in_default
unfolding digit_byte
step_by_digits-requires-in_default c = (digits_follow, omega arith, omega arith, omega arith, omega arith, omega arith, shorter c.args.b _ _ (omega arith) c.requires.3, omega arith)

pub returns-in-1 : goal.returns-in-1
returns-in-1 c = let a = c.args in
    let one : a.b ≡ 1 = omega arith in
    let e = c.step_by_pair.ensures in
    record { value = rw (step_even (a.count - a.at) (omega arith) (omega arith)) e.value; buffer_after = rw (step_even (a.count - a.at) (omega arith) (omega arith), one) (e.buffer_after) }

pub returns-in-5 : goal.returns-in-5
returns-in-5 c = let a = c.args in
    let five : a.b ≡ 5 = omega arith in
    let e = c.step_by_pair-in-5.ensures in
    record { value = rw (step_even (a.count - a.at) (omega arith) (omega arith)) e.value; buffer_after = rw (step_even (a.count - a.at) (omega arith) (omega arith), five) (e.buffer_after) }

pub returns-in_default : goal.returns-in_default
returns-in_default c = let a = c.args in
    let e = c.step_by_digits-in_default.ensures in
    record { value = rw (step_even (a.count - a.at) (omega arith) (omega arith)) (e.value); buffer_after = rw (step_even (a.count - a.at) (omega arith) (omega arith)) (e.buffer_after) }
