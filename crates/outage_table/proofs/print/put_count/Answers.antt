-- `outage_table::print::put_count` meets its contract: the digits, then LF, both with room. Assumes nothing.
use Prim.Native.Nat.{zero-le}
use mathlib.Core.Path.{refl}
use mathlib.Core.List.{[], ◌∷◌}
use native.Mathlib.Omega.{arith}
use Rattle.lexical_util.specs.Digit.{is_radix, is_width}
use Rattle.lexical_write_integer_spec.specs.Digits.{numeral}
use Rattle.lexical_buffer.specs.Put.{Puts}
use Rattle.lexical_buffer.proofs.PutLaws.{puts_more, text_puts}
use Rattle.lexical_buffer.proofs.FewDigits.{number_puts}
use Rattle.outage_table.proofs.print.put_count.Goals.{After-put_number-digits}
use Rattle.outage_table.proofs.print.put_count.Goals as goal

digits_put : (c : After-put_number-digits) → let a = c.args in Puts a.sheet.now 0 (numeral 10 1 a.count) c.put_number-digits.result c.put_number-digits.new.buffer
unfolding is_radix is_width
digits_put c = number_puts 10 1 c.args.count refl refl c.args.sheet.now 0 _ _ (omega (arith, c.requires)) (c.put_number-digits.ensures.value, c.put_number-digits.ensures.buffer_after)

pub returns : goal.returns
returns c = puts_more _ _ _ zero-le (digits_put (goal.at.returns c).After-put_number-digits) (text_puts c.put_number-digits.new.buffer c.put_number-digits.result (10 ∷ []) _ _ (omega (arith, c.requires, (digits_put (goal.at.returns c).After-put_number-digits).next_is)) (c.put_byte.ensures.value, c.put_byte.ensures.buffer_after))
