-- `lexical_write_float::plan::put_plan` meets its contract: digits, zeros and the fraction, each where the one before it ended. Assumes nothing.
use mathlib.Core.Path.{◌≡◌, ap, ◌∙◌}
use Prim.Native.Nat.{ℕ, ◌+◌, ◌-◌, ◌*◌, ◌≤◌, ◌<◌, zero-le}
use native.Mathlib.Omega.{arith}
use lib.ListN.{length, length-replicate}
use Rattle.lexical_write_float.specs.Code.{digits_of, fraction_text, plan_text}
use Rattle.lexical_buffer.proofs.PutLaws.{puts_more}
use Rattle.lexical_write_float.proofs.PlanLaws.{plan_length}
use Rattle.lexical_write_integer_spec.proofs.LastLaws.{length_last}
use Rattle.lexical_write_integer_spec.proofs.SplitLaws.{front, shift_small}
use Rattle.lexical_write_float.proofs.plan.put_plan.Goals.{After-put_leading-filled, Start}
use Rattle.lexical_write_float.proofs.plan.put_plan.Goals as goal

leading_in : (c : Start) → c.args.plan.leading ≤ length (digits_of c.args.digits)
leading_in c = omega (arith, c.requires.0.count_is, c.requires.1.leading_few)

room : (c : Start) → let a = c.args in a.plan.leading + a.plan.filled + length (fraction_text a.point a.plan (digits_of a.digits)) ≤ length a.buffer.now
room c = let a = c.args in omega (arith, c.requires.2, plan_length a.point a.plan (digits_of a.digits) (leading_in c))

-- the digits in front, as the code writes them
abbrev shift : (c : Start) → ℕ
shift c = c.args.digits.bits_per_digit * (c.args.digits.count - c.args.plan.leading)

small : (c : Start) → shift c < 64
small c = let D = c.args.digits in let P = c.requires.0 in shift_small D.bits_per_digit D.value D.count c.args.plan.leading P.some_bits P.count_is c.requires.1.leading_few P.few_bits P.small

-- where they end
digits_end : (d : After-put_leading-filled) → d.put_leading-filled.result ≡ 0 + d.args.plan.leading
digits_end d = d.put_leading-filled.ensures.next_is ∙ ap (λ (n : ℕ). 0 + n) (length_last _ d.args.plan.leading _)

pub overflow_shr-leading : goal.overflow_shr-leading
overflow_shr-leading c = small (goal.at.overflow_shr-leading c).Start

pub put_leading-filled-requires : goal.put_leading-filled-requires
put_leading-filled-requires c = (c.requires.0.some_bits, c.requires.0.few_bits, omega (arith, room (goal.at.put_leading-filled-requires c).Start))

pub put_zeros-fraction-requires : goal.put_zeros-fraction-requires
put_zeros-fraction-requires c = omega (arith, room (goal.at.put_zeros-fraction-requires c).Start, digits_end (goal.at.put_zeros-fraction-requires c).After-put_leading-filled)

pub put_fraction-requires : goal.put_fraction-requires
put_fraction-requires c = (c.requires.0, c.requires.1, omega (arith, room (goal.at.put_fraction-requires c).Start, digits_end (goal.at.put_fraction-requires c).After-put_leading-filled, c.put_zeros-fraction.ensures.next_is, length-replicate {A = ℕ} c.args.plan.filled 48))

pub returns : goal.returns
unfolding plan_text
returns c = let D = c.args.digits in
    let P = c.requires.0 in
    let leading = rw (front D.bits_per_digit D.value D.count c.args.plan.leading P.some_bits P.count_is c.requires.1.leading_few) at c.put_leading-filled.ensures in
    puts_more _ _ _ zero-le leading (puts_more _ _ _ (omega (arith, room (goal.at.returns c).Start, digits_end (goal.at.returns c).After-put_leading-filled)) c.put_zeros-fraction.ensures c.put_fraction.ensures)
