-- `lexical_write_integer::trace::write_step` meets its contract: one law for each answer. Assumes nothing.
use Prim.Native.Nat.{ℕ}
use mathlib.Core.Path.{◌≡◌, sym, ◌∙◌}
use mathlib.Core.Bool.{true}
use mathlib.Core.List.{List}
use native.Mathlib.Omega.{arith}
use borrow.Author.Tests.{not-true, not-false}
use lib.ListN.{length}
use Rattle.lexical_util.specs.Answer.{done}
use Rattle.lexical_util.specs.Digit.{is_radix, is_width, digit_bits}
use Rattle.lexical_util.proofs.BitsLaws.{Power, power_of}
use Rattle.lexical_write_integer_spec.specs.Digits.{numeral}
use Rattle.lexical_write_integer_spec.specs.Front.{steps_text}
use Rattle.lexical_write_integer_spec.proofs.CountLaws.{count_room}
use Rattle.lexical_write_integer_spec.proofs.DigitsAnswer.{count_known, last_counted}
use Rattle.lexical_write_integer_spec.proofs.StepAnswer.{step_fits, step_short, step_none, asked_steps, steps_unknown, steps_decimal, steps_no_width}
use Rattle.lexical_write_integer.proofs.trace.write_step.Goals.{After-digit_count-count, Else-not-is_radix}
use Rattle.lexical_write_integer.proofs.trace.write_step.Goals as goal

known : (c : Else-not-is_radix) → is_radix c.args.radix ≡ true
known c = sym c.is_radix.ensures ∙ not-false _ c.if-not-is_radix.false-raw

-- behind the refusals: the text, and how many bytes it has
module _ (c : After-digit_count-count) where
  abbrev text : List ℕ
  text = numeral c.args.radix c.args.width c.args.value

  radix : is_radix c.args.radix ≡ true
  radix = sym c.is_radix.ensures ∙ not-false _ c.if-not-is_radix.false-raw

  width : is_width c.args.width ≡ true
  width = sym c.is_width.ensures ∙ not-false _ c.if-not-is_width.false-raw

  asked : steps_text c.args.value c.args.radix c.args.width ≡ done text
  asked = asked_steps c.args.value c.args.radix c.args.width radix c.if-radix-eq10.false width

  counted : c.digit_count-count.result ≡ length text
  counted = c.digit_count-count.ensures ∙ count_known c.args.value c.args.radix c.args.width radix

  power : Power c.args.radix (digit_bits c.args.radix)
  power = power_of c.args.radix radix c.if-radix-eq10.false

pub returns-then-not-is_radix : goal.returns-then-not-is_radix
returns-then-not-is_radix c = let a = c.args in
    let f = steps_unknown a.value a.radix a.width a.at a.buffer.now (sym c.is_radix.ensures ∙ not-true _ c.if-not-is_radix.true-raw) in
    record { result_value = rw c.at.ensures f.0; buffer_after = f.1; adds = rw c.at.ensures f.2 }

pub returns-then-radix-eq10 : goal.returns-then-radix-eq10
returns-then-radix-eq10 c = let a = c.args in
    let f = steps_decimal a.value a.radix a.width a.at a.buffer.now c.if-radix-eq10.true in
    record { result_value = rw c.at-then-radix-eq10.ensures f.0; buffer_after = f.1; adds = rw c.at-then-radix-eq10.ensures f.2 }

pub returns-then-not-is_width : goal.returns-then-not-is_width
returns-then-not-is_width c = let a = c.args in
    let f = steps_no_width a.value a.radix a.width a.at a.buffer.now (known (goal.at.returns-then-not-is_width c).Else-not-is_radix) c.if-radix-eq10.false (sym c.is_width.ensures ∙ not-true _ c.if-not-is_width.true-raw) in
    record { result_value = rw c.at-then-not-is_width.ensures f.0; buffer_after = f.1; adds = rw c.at-then-not-is_width.ensures f.2 }

pub returns-then-count-buffer : goal.returns-then-count-buffer
returns-then-count-buffer c =
    let d = (goal.at.returns-then-count-buffer c).After-digit_count-count in
    let f = step_short _ (text d) c.args.buffer.now c.args.at _ (asked d) (counted d) (omega arith) in
    record { result_value = rw c.at-then-count-buffer.ensures f.0; buffer_after = f.1; adds = rw c.at-then-count-buffer.ensures f.2 }

pub returns-then-count-at : goal.returns-then-count-at
returns-then-count-at c =
    let d = (goal.at.returns-then-count-at c).After-digit_count-count in
    let a = c.args in
    let none = step_none (text d) a.buffer.now a.at c.digit_count-count.result (omega arith) in
    let f = step_fits _ (text d) a.buffer.now a.at c.digit_count-count.result (asked d) (counted d) (omega arith) a.at a.buffer.now none.0 none.1 in
    record { result_value = f.0; buffer_after = f.1; adds = f.2 }

pub step_of_radix-requires : goal.step_of_radix-requires
step_of_radix-requires c =
    let d = (goal.at.step_of_radix-requires c).After-digit_count-count in
    let b = c.digit_bits.ensures in
    let a = c.args in (
      rw b (power d).some_bits,
      rw b (power d).few_bits,
      omega arith,
      rw b (count_room a.value a.radix a.width _ (radix d) (width d) (omega arith) c.digit_count-count.ensures),
      omega arith,
    )

pub returns : goal.returns
returns c =
    let d = (goal.at.returns c).After-digit_count-count in
    let n = c.step_of_radix.ensures in
    let b = c.digit_bits.ensures in
    let a = c.args in
    let o = rw (b, (power d).is, last_counted a.value a.radix a.width c.digit_count-count.result (radix d) c.digit_count-count.ensures) at n.buffer_after in
    let f = step_fits _ (text d) a.buffer.now a.at c.digit_count-count.result (asked d) (counted d) (omega arith) _ _ n.value o in
    record { result_value = f.0; buffer_after = f.1; adds = f.2 }
