-- `outage_console::refusal::put_refusal` meets its contract: five puts, each where the one before it ended. Assumes nothing.
use Rattle.lexical_util.specs.Reason.{reason_number}
use Prim.Native.Nat.{◌≤◌, zero-le}
use mathlib.Core.Path.{refl}
use mathlib.Core.List.{[], ◌∷◌}
use native.Mathlib.Omega.{arith}
use lib.ListN.{length}
use Rattle.lexical_util.specs.Digit.{is_radix, is_width}
use Rattle.lexical_write_integer_spec.specs.Digits.{numeral}
use Rattle.lexical_buffer.specs.Put.{Puts}
use Rattle.lexical_buffer.proofs.PutLaws.{puts_more, text_puts}
use Rattle.lexical_buffer.proofs.FewDigits.{number_puts}
use Rattle.outage_console.specs.Screen.{refusal_line}
use Rattle.outage_console.proofs.ScreenLaws.{line_short}
use Rattle.outage_console.proofs.refusal.put_refusal.Goals as goal

pub returns : goal.returns
unfolding refusal_line is_radix is_width
returns c =
    let a = c.args in
    -- the two numbers' digits, since a u32 and a usize have few
    let short : (length (numeral 10 1 (reason_number a.refusal.reason)) ≤ 10) × (length (numeral 10 1 a.refusal.place) ≤ 20) = line_short _ _ (rw c.number.ensures at c.number.type_inv) (omega arith) in
    -- "refused ", the number, " at ", the place, and LF
    let refused_put : Puts a.out.now 0 (114 ∷ 101 ∷ 102 ∷ 117 ∷ 115 ∷ 101 ∷ 100 ∷ 32 ∷ []) c.put_bytes-number.result c.put_bytes-number.new.buffer = text_puts a.out.now 0 _ _ _ (omega arith) (c.put_bytes-number.ensures.value, c.put_bytes-number.ensures.buffer_after) in
    let number_put = number_puts 10 1 (reason_number a.refusal.reason) refl refl c.put_bytes-number.new.buffer c.put_bytes-number.result _ _ (omega (arith, short, refused_put.next_is)) (rw c.number.ensures at c.put_number-at.ensures.value, rw c.number.ensures at c.put_number-at.ensures.buffer_after) in
    let at_put : Puts c.put_number-at.new.buffer c.put_number-at.result (32 ∷ 97 ∷ 116 ∷ 32 ∷ []) c.put_bytes-place.result c.put_bytes-place.new.buffer = text_puts c.put_number-at.new.buffer c.put_number-at.result _ _ _ (omega (arith, short, refused_put.next_is, number_put.next_is)) (c.put_bytes-place.ensures.value, c.put_bytes-place.ensures.buffer_after) in
    let place_put = number_puts 10 1 a.refusal.place refl refl c.put_bytes-place.new.buffer c.put_bytes-place.result _ _ (omega (arith, short, refused_put.next_is, number_put.next_is, at_put.next_is)) (c.put_number-newline.ensures.value, c.put_number-newline.ensures.buffer_after) in
    let newline_put = text_puts c.put_number-newline.new.buffer c.put_number-newline.result (10 ∷ []) _ _ (omega (arith, short, refused_put.next_is, number_put.next_is, at_put.next_is, place_put.next_is)) (c.put_byte.ensures.value, c.put_byte.ensures.buffer_after) in
    puts_more _ _ _ zero-le refused_put
    (puts_more _ _ _ (omega (arith, refused_put.next_is)) number_put
    (puts_more _ _ _ (omega (arith, short, refused_put.next_is, number_put.next_is)) at_put
    (puts_more _ _ _ (omega (arith, short, refused_put.next_is, number_put.next_is, at_put.next_is)) place_put newline_put)))
