-- `lexical_buffer::number::put_integer` meets its contract: what the digits call made of the part from the place on. Assumes nothing.
use mathlib.Core.Path.{sym}
use native.Mathlib.Omega.{arith}
use Rattle.lexical_buffer.proofs.FewDigits.{digits_past_end}
use Rattle.lexical_buffer.proofs.number.put_integer.Goals as goal

pub returns-then-buffer-at-clause-buffer_after : goal.returns-then-buffer-at-clause-buffer_after
returns-then-buffer-at-clause-buffer_after c = let a = c.args in let s = digits_past_end a.value a.radix a.width a.buffer.now a.at (omega arith) in
    sym s.1
