-- `lexical_write_float::pieces::put_digits` meets its contract: the digits have room, so they are written. Assumes nothing.
use Prim.Native.Nat.{◌+◌, ◌^◌, ◌≤◌}
use mathlib.Core.Path.{◌≡◌}
use Rattle.lexical_util.specs.Answer.{done}
use lib.ListN.{length}
use Rattle.lexical_write_integer_spec.specs.Write.{last_numeral, mantissa_text}
use Rattle.lexical_write_integer_spec.proofs.LastLaws.{length_last}
use Rattle.lexical_write_integer_spec.proofs.MantissaAnswer.{asked}
use Rattle.lexical_buffer.proofs.PutLaws.{part_puts, part_refused}
use Rattle.lexical_write_float.proofs.pieces.put_digits.Goals.{Start}
use Rattle.lexical_write_float.proofs.pieces.put_digits.Goals as goal

wanted : (c : Start) → mantissa_text c.args.value c.args.bits_per_digit c.args.count ≡ done (last_numeral (2 ^ c.args.bits_per_digit) c.args.count c.args.value)
wanted c = asked c.args.value c.args.bits_per_digit c.args.count c.requires.0 c.requires.1

room : (c : Start) → c.args.at + length (last_numeral (2 ^ c.args.bits_per_digit) c.args.count c.args.value) ≤ length c.args.buffer.now
room c = rw (length_last (2 ^ c.args.bits_per_digit) c.args.count c.args.value) c.requires.2

pub returns-in-Ok : goal.returns-in-Ok
returns-in-Ok c = part_puts _ _ c.args.buffer.now c.args.at (wanted (goal.at.returns-in-Ok c).Start) (room (goal.at.returns-in-Ok c).Start) _ _ (c.in-Ok.ensures.result_value) c.write_mantissa-written.ensures.buffer_after

pub returns-in-Err : goal.returns-in-Err
returns-in-Err c = absurd (part_refused _ _ c.args.buffer.now c.args.at (wanted (goal.at.returns-in-Err c).Start) (room (goal.at.returns-in-Err c).Start) _ _ (c.in-Err.ensures.result_value))
