-- `lexical_write_float::plan::put_fraction` meets its contract: point, zeros, digits and zeros, each where the one before it ended. Assumes nothing.
use Prim.Native.Nat.{ℕ, ◌+◌, ◌-◌, ◌^◌, ◌≤◌}
use mathlib.Core.List.{[], ◌∷◌}
use native.Mathlib.Omega.{arith}
use lib.ListN.{length, length-replicate}
use Rattle.lexical_buffer.specs.Put.{Puts}
use Rattle.lexical_write_float.specs.Code.{digits_of, fraction_text}
use Rattle.lexical_buffer.proofs.PutLaws.{puts_none, puts_more, text_puts}
use Rattle.lexical_write_float.proofs.PlanLaws.{fraction_length}
use Rattle.lexical_write_integer_spec.proofs.LastLaws.{length_last}
use Rattle.lexical_write_integer_spec.proofs.SplitLaws.{back}
use Rattle.lexical_write_float.proofs.plan.put_fraction.Goals.{After-put_byte-gap, Then-plan}
use Rattle.lexical_write_float.proofs.plan.put_fraction.Goals as goal

-- the places where the pieces begin, and the room that is left
room : (c : Then-plan) → let a = c.args in a.at + (1 + a.plan.gap + (a.digits.count - a.plan.leading) + a.plan.padding) ≤ length a.buffer.now
room c = let a = c.args in omega (arith, c.requires.2, c.requires.0.count_is, fraction_length a.point a.plan (digits_of a.digits) c.if-plan.true)

point_put : (p : After-put_byte-gap) → let a = p.args in Puts a.buffer.now a.at (a.point ∷ []) p.put_byte-gap.result p.put_byte-gap.new.buffer
point_put p =
    let room' : let a = p.args in a.at + (1 + a.plan.gap + (a.digits.count - a.plan.leading) + a.plan.padding) ≤ length a.buffer.now = let a = p.args in omega (arith, p.requires.2, p.requires.0.count_is, fraction_length a.point a.plan (digits_of a.digits) p.if-plan.true) in
    let a = p.args in text_puts a.buffer.now a.at (a.point ∷ []) _ _ (omega (arith, room')) (p.put_byte-gap.ensures.value, p.put_byte-gap.ensures.buffer_after)

pub put_zeros-rest-requires : goal.put_zeros-rest-requires
put_zeros-rest-requires c = omega (arith, room (goal.at.put_zeros-rest-requires c).Then-plan, (point_put (goal.at.put_zeros-rest-requires c).After-put_byte-gap).next_is)

pub put_digits-padding-requires : goal.put_digits-padding-requires
put_digits-padding-requires c = (c.requires.0.some_bits, c.requires.0.few_bits, omega (arith, room (goal.at.put_digits-padding-requires c).Then-plan, (point_put (goal.at.put_digits-padding-requires c).After-put_byte-gap).next_is, c.put_zeros-rest.ensures.next_is, length-replicate {A = ℕ} c.args.plan.gap 48))

pub put_zeros-requires : goal.put_zeros-requires
put_zeros-requires c = let a = c.args in
    omega (arith, room (goal.at.put_zeros-requires c).Then-plan, (point_put (goal.at.put_zeros-requires c).After-put_byte-gap).next_is, c.put_zeros-rest.ensures.next_is, length-replicate {A = ℕ} a.plan.gap 48, c.put_digits-padding.ensures.next_is, length_last (2 ^ a.digits.bits_per_digit) (a.digits.count - a.plan.leading) a.digits.value)

pub returns-then-plan : goal.returns-then-plan
unfolding fraction_text
returns-then-plan c = let a = c.args in
    let rest = rw (back a.digits.bits_per_digit a.digits.value a.digits.count a.plan.leading c.requires.0.some_bits c.requires.0.count_is c.requires.1.leading_few) at c.put_digits-padding.ensures in
    rw c.if-plan.true
    (puts_more _ _ _ (omega (arith, room (goal.at.returns-then-plan c).Then-plan)) (point_put (goal.at.returns-then-plan c).After-put_byte-gap)
    (puts_more _ _ _ (omega (arith, room (goal.at.returns-then-plan c).Then-plan, (point_put (goal.at.returns-then-plan c).After-put_byte-gap).next_is)) c.put_zeros-rest.ensures
    (puts_more _ _ _ (omega (arith, room (goal.at.returns-then-plan c).Then-plan, (point_put (goal.at.returns-then-plan c).After-put_byte-gap).next_is, c.put_zeros-rest.ensures.next_is, length-replicate {A = ℕ} a.plan.gap 48)) rest c.put_zeros.ensures)))

pub returns : goal.returns
unfolding fraction_text
returns c = rw c.if-plan.false (puts_none _ _)
