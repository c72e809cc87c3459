-- `lexical_write_integer::write::write_integer` meets its contract: one law for each answer. Assumes nothing.
use mathlib.Core.Path.{◌≡◌, sym, ◌∙◌}
use mathlib.Core.Bool.{true}
use native.Mathlib.Omega.{arith}
use borrow.Author.Tests.{not-true, not-false}
use Rattle.lexical_util.specs.Digit.{is_radix, is_width}
use Rattle.lexical_write_integer_spec.proofs.CountLaws.{count_room}
use Rattle.lexical_write_integer_spec.proofs.DigitsAnswer.{fits, short, unknown, no_width}
use Rattle.lexical_write_integer.proofs.write.write_integer.Goals.{Else-not-is_radix, Else-not-is_width}
use Rattle.lexical_write_integer.proofs.write.write_integer.Goals as goal

known : (c : Else-not-is_radix) → is_radix c.args.radix ≡ true
known c = sym c.is_radix.ensures ∙ not-false _ c.if-not-is_radix.false-raw

wide : (c : Else-not-is_width) → is_width c.args.width ≡ true
wide c = sym c.is_width.ensures ∙ not-false _ c.if-not-is_width.false-raw

pub returns-then-not-is_radix : goal.returns-then-not-is_radix
returns-then-not-is_radix c = let a = c.args in
    let f = unknown a.value a.radix a.width a.buffer.now (sym c.is_radix.ensures ∙ not-true _ c.if-not-is_radix.true-raw) in
    record { result_value = rw c.at.ensures f.0; buffer_after = f.1 }

pub returns-then-not-is_width : goal.returns-then-not-is_width
returns-then-not-is_width c = let a = c.args in
    let f = no_width a.value a.radix a.width a.buffer.now (known (goal.at.returns-then-not-is_width c).Else-not-is_radix) (sym c.is_width.ensures ∙ not-true _ c.if-not-is_width.true-raw) in
    record { result_value = rw c.at-then-not-is_width.ensures f.0; buffer_after = f.1 }

pub returns-then-count-buffer : goal.returns-then-count-buffer
returns-then-count-buffer c = let a = c.args in
    let f = short a.value a.radix a.width _ a.buffer.now (known (goal.at.returns-then-count-buffer c).Else-not-is_radix) (wide (goal.at.returns-then-count-buffer c).Else-not-is_width) c.digit_count-count.ensures (omega arith) in
    record { result_value = rw c.at-then-count-buffer.ensures f.0; buffer_after = f.1 }

pub write_digits-requires : goal.write_digits-requires
write_digits-requires c = let a = c.args in
    (known (goal.at.write_digits-requires c).Else-not-is_radix, count_room a.value a.radix a.width _ (known (goal.at.write_digits-requires c).Else-not-is_radix) (wide (goal.at.write_digits-requires c).Else-not-is_width) (omega arith) c.digit_count-count.ensures, omega arith)

pub returns : goal.returns
returns c = let a = c.args in
    let f = fits a.value a.radix a.width _ a.buffer.now (known (goal.at.returns c).Else-not-is_radix) (wide (goal.at.returns c).Else-not-is_width) c.digit_count-count.ensures (omega arith) in
    record { result_value = f.0; buffer_after = c.write_digits.ensures ∙ f.1 }
