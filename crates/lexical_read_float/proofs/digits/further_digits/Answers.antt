-- `lexical_read_float::digits::further_digits` meets its contract: at each place the digits so far are 0 and those still to come, or not all are. Assumes nothing.
use Prim.Native.Nat.{◌+◌, ◌≤◌}
use mathlib.Core.List.{[], ◌∷◌}
use mathlib.Core.Path.{◌≡◌}
use native.Mathlib.Omega.{arith}
use lib.Dec.{eqb}
use lib.ListN.{length}
use Rattle.lexical_read_float.proofs.DigitRunLaws.{digit_below, digit_above, from_more, from_stop, from_end, end_here, end_on, zeros_done, zeros_on}
use Rattle.lexical_read_float.specs.Digits.{all_zero, digits_from, end_from}
use Rattle.lexical_read_float.proofs.digits.further_digits.Goals.{At-loop-i}
use Rattle.lexical_read_float.proofs.digits.further_digits.Goals as goal

-- no digit stands at the loop's place
stopped : (c : At-loop-i) → digits_from c.args.radix c.args.text.now c.loop-i.i ≡ []
    → (let a = c.args in
    (c.loop-i.i ≡ end_from a.radix a.text.now a.from) × (eqb c.loop-i.seen 0 ≡ all_zero (digits_from a.radix a.text.now a.from)) × (c.loop-i.i ≤ length a.text.now))
stopped c e = let v = c.loop-i.invariant in (end_here _ _ _ _ v.1 e, zeros_done c.loop-i.seen _ _ v.2 e, v.0)

pub returns-then-digit-radix : goal.returns-then-digit-radix
returns-then-digit-radix c = stopped (goal.at.returns-then-digit-radix c).At-loop-i (from_stop _ _ _ c.loop-i-test.true (digit_above _ _ _ c.requires.1 c.digit_or_none-digit.ensures c.if-digit-radix.true))

pub loop-i-preserved : goal.loop-i-preserved
loop-i-preserved c = let a = c.args in
    let more : digits_from a.radix a.text.now c.loop-i.i ≡ c.digit_or_none-digit.result ∷ digits_from a.radix a.text.now (c.loop-i.i + 1) =
    from_more _ _ c.loop-i.i _ c.loop-i-test.true (digit_below _ _ _ c.requires.1 c.digit_or_none-digit.ensures c.if-digit-radix.false) in
    (omega arith, end_on _ _ _ _ c.loop-i.invariant.1 _ more, zeros_on c.loop-i.seen _ _ _ _ c.loop-i.invariant.2 more)

pub returns : goal.returns
returns c = let end : c.loop-i.i ≡ length c.args.text.now = omega arith in rw end at (stopped (goal.at.returns c).At-loop-i (from_end _ _ _ c.loop-i-test.false))
