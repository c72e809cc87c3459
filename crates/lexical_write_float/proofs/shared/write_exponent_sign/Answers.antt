-- `lexical_write_float::shared::write_exponent_sign` meets its contract: minus, plus, or nothing. Assumes nothing.
use mathlib.Core.List.{[], ◌∷◌}
use native.Mathlib.Omega.{arith}
use Rattle.lexical_buffer.proofs.PutLaws.{puts_none, text_puts}
use Rattle.lexical_write_float.proofs.shared.write_exponent_sign.Goals as goal

pub returns-then-negative : goal.returns-then-negative
returns-then-negative c = let h = rw c.if-negative.true at c.requires in
    rw c.if-negative.true (text_puts c.args.buffer.now c.args.at (45 ∷ []) _ _ (omega (arith, h)) (c.put_byte.ensures.value, c.put_byte.ensures.buffer_after))

pub returns-then-plus : goal.returns-then-plus
returns-then-plus c = let h = rw (c.if-negative.false, c.if-plus.true) at c.requires in
    rw (c.if-negative.false, c.if-plus.true) (text_puts c.args.buffer.now c.args.at (43 ∷ []) _ _ (omega (arith, h)) (c.put_byte-then-plus.ensures.value, c.put_byte-then-plus.ensures.buffer_after))

pub returns : goal.returns
returns c = rw (c.if-negative.false, c.if-plus.false) (puts_none _ _)
