-- `lexical_buffer::number::put_decimal` meets its contract: below ten one byte, below a hundred two. Assumes nothing.
use mathlib.Core.Path.{◌≡◌, sym, ap, ◌∙◌}
use mathlib.Core.List.{List, [], ◌∷◌}
use Prim.Native.Nat.{ℕ}
use native.Mathlib.Omega.{arith}
use Rattle.lexical_util.specs.Answer.{done}
use Rattle.lexical_write_integer_spec.specs.Write.{digits_text}
use Rattle.lexical_buffer.proofs.FewDigits.{one_numeral, decimal_asked}
use Rattle.lexical_buffer.proofs.number.put_decimal.Goals.{After-digit_byte-byte}
use Rattle.lexical_buffer.proofs.number.put_decimal.Goals as goal

-- the byte is the text that is asked for
is : (c : After-digit_byte-byte) → digits_text c.args.value 10 1 ≡ done (c.digit_byte-byte.result ∷ [])
is c =
    let x = c.args.value in
    decimal_asked x ∙ sym (ap (λ (l : List ℕ). done l) (one_numeral 10 x c.digit_byte-byte.result c.if-value-lt10.true (omega arith) c.digit_byte-byte.ensures))

pub returns-then-value-lt10-clause-value : goal.returns-then-value-lt10-clause-value
returns-then-value-lt10-clause-value c = rw (is (goal.at.returns-then-value-lt10-clause-value c).After-digit_byte-byte) (c.put_byte.ensures.value)

pub returns-then-value-lt10-clause-buffer_after : goal.returns-then-value-lt10-clause-buffer_after
returns-then-value-lt10-clause-buffer_after c = rw (is (goal.at.returns-then-value-lt10-clause-buffer_after c).After-digit_byte-byte) (c.put_byte.ensures.buffer_after)
