-- `lexical_write_integer::front::step_by_digits` meets its contract: what it stores are the next digits, one or two. Assumes nothing.
use mathlib.Core.Path.{◌≡◌}
use native.Mathlib.Numerals.{add-one}
use native.Mathlib.Omega.{arith}
use Rattle.lexical_write_integer.proofs.StepLaws.{one_digit, two_digits, stored}
use Rattle.lexical_write_integer.proofs.front.step_by_digits.Goals as goal

pub returns-then-digits-eq1-clause-buffer_after : goal.returns-then-digits-eq1-clause-buffer_after
returns-then-digits-eq1-clause-buffer_after c = let a = c.args in
    let one : a.digits ≡ 1 = omega arith in
    let s = stored a.b a.value a.count a.at 1 _ a.buffer.now (omega arith) (omega arith) (one_digit _ _ _ (rw one at c.last_char-last.ensures)) in
    rw one s.0

pub returns-then-digits-eq1-clause-grows : goal.returns-then-digits-eq1-clause-grows
returns-then-digits-eq1-clause-grows c = let a = c.args in
    let one : a.digits ≡ 1 = omega arith in
    let s = stored a.b a.value a.count a.at 1 _ a.buffer.now (omega arith) (omega arith) (one_digit _ _ _ (rw one at c.last_char-last.ensures)) in
    s.1

pub returns : goal.returns
returns c = let a = c.args in
    let two : a.digits ≡ 2 = omega arith in
    let s = stored a.b a.value a.count a.at 2 _ a.buffer.now (omega arith) (omega arith) (two_digits _ _ _ _ (rw two at c.last_char-first.ensures) (rw two at c.last_char-last.ensures)) in
    record { value = omega arith; buffer_after = rw (two, add-one) (s.0); grows = rw add-one s.1 }
