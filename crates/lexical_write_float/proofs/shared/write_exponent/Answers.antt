-- `lexical_write_float::shared::write_exponent` meets its contract: mark, sign and digits, each where the one before it ended, and nothing where the layout has no exponent. Assumes nothing.
use native.Mathlib.Omega.{arith}
use Rattle.lexical_buffer.specs.Put.{Puts}
use Rattle.lexical_write_float.specs.Code.{power_text, sign_text}
use Rattle.lexical_write_float.proofs.PowerLaws.{tail_length}
use Rattle.lexical_buffer.proofs.PutLaws.{puts_more, puts_none, text_puts}
use Rattle.lexical_buffer.proofs.FewDigits.{number_puts}
use Prim.Native.Nat.{◌+◌, ◌≤◌}
use mathlib.Core.List.{[], ◌∷◌}
use lib.ListN.{length}
use Rattle.lexical_write_integer_spec.specs.Digits.{numeral}
use Rattle.lexical_write_float.proofs.shared.write_exponent.Goals.{After-put_byte-sign, After-put_number, In-Scientific}
use Rattle.lexical_write_float.proofs.shared.write_exponent.Goals as goal

room : (c : In-Scientific) → let a = c.args in a.at + (1 + length (sign_text a.exponent.0 a.plus) + length (numeral a.radix a.width a.exponent.1)) ≤ length a.buffer.now
room c = let a = c.args in omega (arith, c.requires.2, tail_length a.layout a.mark a.exponent.0 a.plus a.radix a.width a.exponent.1 c.in-Scientific.is)

mark_put : (p : After-put_byte-sign) → let a = p.args in Puts a.buffer.now a.at (a.mark ∷ []) p.put_byte-sign.result p.put_byte-sign.new.buffer
mark_put p =
    let room' : let a = p.args in a.at + (1 + length (sign_text a.exponent.0 a.plus) + length (numeral a.radix a.width a.exponent.1)) ≤ length a.buffer.now = let a = p.args in omega (arith, p.requires.2, tail_length a.layout a.mark a.exponent.0 a.plus a.radix a.width a.exponent.1 p.in-Scientific.is) in
    let a = p.args in text_puts a.buffer.now a.at (a.mark ∷ []) _ _ (omega (arith, room')) (p.put_byte-sign.ensures.value, p.put_byte-sign.ensures.buffer_after)

-- the digits have room behind mark and sign
number_put : (i : After-put_number) → let a = i.args in
    Puts i.write_exponent_sign-magnitude.new.buffer i.write_exponent_sign-magnitude.result (numeral a.radix a.width a.exponent.1) i.put_number.result i.put_number.new.buffer
number_put i =
    let room' : let a = i.args in a.at + (1 + length (sign_text a.exponent.0 a.plus) + length (numeral a.radix a.width a.exponent.1)) ≤ length a.buffer.now = let a = i.args in omega (arith, i.requires.2, tail_length a.layout a.mark a.exponent.0 a.plus a.radix a.width a.exponent.1 i.in-Scientific.is) in
    let mark_put' : let a = i.args in Puts a.buffer.now a.at (a.mark ∷ []) i.put_byte-sign.result i.put_byte-sign.new.buffer = let a = i.args in text_puts a.buffer.now a.at (a.mark ∷ []) _ _ (omega (arith, room')) (i.put_byte-sign.ensures.value, i.put_byte-sign.ensures.buffer_after) in
    let a = i.args in
    number_puts a.radix a.width a.exponent.1 i.requires.0 i.requires.1 i.write_exponent_sign-magnitude.new.buffer i.write_exponent_sign-magnitude.result _ _ (omega (arith, room', mark_put'.next_is, i.write_exponent_sign-magnitude.ensures.next_is)) (i.put_number.ensures.value, i.put_number.ensures.buffer_after)

pub write_exponent_sign-magnitude-requires : goal.write_exponent_sign-magnitude-requires
write_exponent_sign-magnitude-requires c = omega (arith, room (goal.at.write_exponent_sign-magnitude-requires c).In-Scientific, (mark_put (goal.at.write_exponent_sign-magnitude-requires c).After-put_byte-sign).next_is)

pub returns-in-Scientific : goal.returns-in-Scientific
unfolding power_text
returns-in-Scientific c = rw c.in-Scientific.is
    (puts_more _ _ _ (omega (arith, room (goal.at.returns-in-Scientific c).In-Scientific)) (puts_more _ _ _ (omega (arith, room (goal.at.returns-in-Scientific c).In-Scientific)) (mark_put (goal.at.returns-in-Scientific c).After-put_byte-sign) c.write_exponent_sign-magnitude.ensures) (number_put (goal.at.returns-in-Scientific c).After-put_number))

pub returns-in-Negative : goal.returns-in-Negative
returns-in-Negative c = rw c.in-Negative.is (puts_none _ _)

pub returns-in-Positive : goal.returns-in-Positive
returns-in-Positive c = rw c.in-Positive.is (puts_none _ _)
