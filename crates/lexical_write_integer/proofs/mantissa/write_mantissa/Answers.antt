-- `lexical_write_integer::mantissa::write_mantissa` meets its contract: one law for each answer. Assumes nothing.
use mathlib.Core.Path.{◌∙◌}
use mathlib.Core.Logic.{inl, inr, ⊎_elim}
use native.Mathlib.Omega.{arith}
use borrow.Author.Tests.{ltb-false}
use Rattle.lexical_write_integer_spec.proofs.FrontLaws.{grows_more, grows_all}
use Rattle.lexical_write_integer_spec.proofs.MantissaAnswer.{unknown, short, fits}
use Rattle.lexical_write_integer.proofs.mantissa.write_mantissa.Goals as goal

pub returns-then-bits_per_digit-eq0 : goal.returns-then-bits_per_digit-eq0
returns-then-bits_per_digit-eq0 c = let a = c.args in
    let f = unknown a.value a.bits_per_digit a.count a.buffer.now (⊎_elim inl (λ w. inr w.1) c.then-bits_per_digit-eq0.either) in
    record { result_value = rw c.at.ensures f.0; buffer_after = f.1 }

pub returns-then-count-buffer : goal.returns-then-count-buffer
returns-then-count-buffer c = let a = c.args in
    let f = short a.value a.bits_per_digit a.count a.buffer.now (omega arith) (omega (arith, ltb-false)) (omega arith) in
    record { result_value = rw c.at-then-count-buffer.ensures f.0; buffer_after = f.1 }

pub returns : goal.returns
returns c = let a = c.args in
    let f = fits a.value a.bits_per_digit a.count a.buffer.now (omega arith) (omega (arith, ltb-false)) (omega arith) in
    record { result_value = f.0; buffer_after = grows_all _ _ _ _ (grows_more (c.zeros_in_front-from.ensures.by_index a.value (omega arith)) c.radix_by_bits.ensures) ∙ f.1 }
