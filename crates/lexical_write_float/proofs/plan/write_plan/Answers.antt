-- `lexical_write_float::plan::write_plan` meets its contract: plan and exponent are put where they have room. Assumes nothing.
use Prim.Native.Nat.{ℕ, ◌≤◌, zero-le}
use mathlib.Core.Path.{sym}
use mathlib.Core.List.{List, ◌++◌}
use mathlib.Core.Logic.{⊎_elim}
use native.Mathlib.Omega.{arith}
use lib.ListN.{length, length-append}
use Rattle.lexical_write_float.specs.Code.{digits_of, Measured, plan_text, tail_text}
use Rattle.lexical_buffer.proofs.PutLaws.{puts_more, kept}
use Rattle.lexical_write_float.proofs.plan.write_plan.Goals.{After-length_against-length, Else-length-room, Start}
use Rattle.lexical_write_float.proofs.plan.write_plan.Goals as goal

abbrev front : Start → List ℕ
front c = let a = c.args in plan_text a.options.decimal_point a.plan (digits_of a.digits)

abbrev tail : Start → List ℕ
tail c = let a = c.args in tail_text a.layout a.options.exponent a.exponent.0 a.format.required_exponent_sign a.format.exponent_radix a.options.exponent_width a.exponent.1

-- the length as it was measured
measured : (c : After-length_against-length) → (Measured (length c.args.buffer.now) (length ((let a = c.args in plan_text a.options.decimal_point a.plan (digits_of a.digits)) ++ (let a = c.args in tail_text a.layout a.options.exponent a.exponent.0 a.format.required_exponent_sign a.format.exponent_radix a.options.exponent_width a.exponent.1))) c.length_against-length.result)
measured c = c.length_against-length.ensures (digits_of c.args.digits) c.args.options.decimal_point c.args.options.exponent (sym c.requires.0.count_is)

room : (c : Else-length-room) → (length ((let a = c.args in plan_text a.options.decimal_point a.plan (digits_of a.digits)) ++ (let a = c.args in tail_text a.layout a.options.exponent a.exponent.0 a.format.required_exponent_sign a.format.exponent_radix a.options.exponent_width a.exponent.1)) ≤ length c.args.buffer.now)
room c =
    let measured' : (Measured (length c.args.buffer.now) (length ((let a = c.args in plan_text a.options.decimal_point a.plan (digits_of a.digits)) ++ (let a = c.args in tail_text a.layout a.options.exponent a.exponent.0 a.format.required_exponent_sign a.format.exponent_radix a.options.exponent_width a.exponent.1))) c.length_against-length.result) = c.length_against-length.ensures (digits_of c.args.digits) c.args.options.decimal_point c.args.options.exponent (sym c.requires.0.count_is) in
    ⊎_elim (λ e. omega arith) (λ w. w.1) measured'

pub put_plan-mark-requires : goal.put_plan-mark-requires
put_plan-mark-requires c = (c.requires.0, c.requires.1, omega (arith, room (goal.at.put_plan-mark-requires c).Else-length-room, length-append (front (goal.at.put_plan-mark-requires c).Start) (tail (goal.at.put_plan-mark-requires c).Start)))

pub write_exponent-requires : goal.write_exponent-requires
write_exponent-requires c = (c.requires.2, c.requires.3, omega (arith, room (goal.at.write_exponent-requires c).Else-length-room, length-append (front (goal.at.write_exponent-requires c).Start) (tail (goal.at.write_exponent-requires c).Start), c.put_plan-mark.ensures.next_is))

pub returns-clause-buffer_after : goal.returns-clause-buffer_after
returns-clause-buffer_after c = let put = puts_more _ _ _ zero-le c.put_plan-mark.ensures c.write_exponent.ensures in
    kept (front (goal.at.returns-clause-buffer_after c).Start ++ tail (goal.at.returns-clause-buffer_after c).Start) c.args.buffer.now _ (room (goal.at.returns-clause-buffer_after c).Else-length-room) put.out_is
