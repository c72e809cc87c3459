-- `lexical_write_float::pieces::put_leading` meets its contract: one digit is the last one, which the mask keeps. Assumes nothing.
use Prim.Native.Nat.{◌+◌, ◌-◌, ◌*◌, ◌%◌, ◌^◌}
use mathlib.Core.Path.{◌≡◌}
use mathlib.Core.List.{[], ◌∷◌}
use native.Mathlib.Omega.{arith}
use lib.Pow.{pow_pos}
use Rattle.lexical_write_integer_spec.specs.Write.{last_numeral}
use Rattle.lexical_write_integer.proofs.FillLaws.{shifted}
use Rattle.lexical_buffer.proofs.PutLaws.{text_puts}
use Rattle.lexical_write_float.proofs.OneDigit.{one_last}
use Rattle.lexical_write_float.proofs.pieces.put_leading.Goals.{After-digit_byte-byte}
use Rattle.lexical_write_float.proofs.pieces.put_leading.Goals as goal

-- the byte is the text
is : (c : After-digit_byte-byte) → (let a = c.args in c.digit_byte-byte.result ∷ [] ≡ last_numeral (2 ^ a.bits_per_digit) a.count a.value)
is c =
    let b = c.args.bits_per_digit in
    let p = pow_pos b in
    let z = shifted b (omega (arith, c.requires.1)) in
    one_last b c.args.value _ c.args.count c.digit_byte-byte.result c.requires.1 (let m : (1 * 2 ^ b) % 2 ^ 64 - 1 + 1 ≡ 2 ^ b = omega arith in m) c.if-count-eq1.true c.digit_byte-byte.ensures

pub returns-then-count-eq1 : goal.returns-then-count-eq1
returns-then-count-eq1 c = rw (is (goal.at.returns-then-count-eq1 c).After-digit_byte-byte) at (text_puts c.args.buffer.now c.args.at (_ ∷ []) _ _ (omega (arith, c.requires.2, c.if-count-eq1.true)) (c.put_byte.ensures.value, c.put_byte.ensures.buffer_after))
