-- `lexical_buffer::number::put_without_zeros` meets its contract: a number below the radix is one digit. Assumes nothing.
use Prim.Native.Nat.{ℕ}
use mathlib.Core.Path.{◌≡◌, refl, sym, ap, ◌∙◌}
use mathlib.Core.List.{List, [], ◌∷◌}
use Rattle.lexical_util.specs.Answer.{done}
use Rattle.lexical_util.specs.Digit.{is_width}
use Rattle.lexical_util.proofs.RadixLaws.{radix_bounds}
use Rattle.lexical_write_integer_spec.specs.Write.{digits_text}
use Rattle.lexical_write_integer_spec.proofs.DigitsAnswer.{asked}
use Rattle.lexical_buffer.proofs.FewDigits.{one_numeral}
use Rattle.lexical_buffer.proofs.number.put_without_zeros.Goals.{After-digit_byte-byte}
use Rattle.lexical_buffer.proofs.number.put_without_zeros.Goals as goal

-- the byte is the text that is asked for
is : (c : After-digit_byte-byte) → let a = c.args in digits_text a.value a.radix 1 ≡ done (c.digit_byte-byte.result ∷ [])
unfolding is_width
is c =
    let a = c.args in
    let known = sym c.is_radix.ensures ∙ c.if-is_radix.true in
    asked a.value a.radix 1 known refl
    ∙ sym (ap (λ (l : List ℕ). done l) (one_numeral a.radix a.value c.digit_byte-byte.result c.if-value-radix.true (radix_bounds a.radix known).1 c.digit_byte-byte.ensures))

pub returns-then-is_radix-clause-value : goal.returns-then-is_radix-clause-value
returns-then-is_radix-clause-value c = rw (is (goal.at.returns-then-is_radix-clause-value c).After-digit_byte-byte) (c.put_byte.ensures.value)

pub returns-then-is_radix-clause-buffer_after : goal.returns-then-is_radix-clause-buffer_after
returns-then-is_radix-clause-buffer_after c = rw (is (goal.at.returns-then-is_radix-clause-buffer_after c).After-digit_byte-byte) (c.put_byte.ensures.buffer_after)
