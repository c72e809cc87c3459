-- `lexical_read_float::digits::exponent_digits` meets its contract: at each place the digits still to come, added to the sum so far, make the whole, cut off at 32,768. Assumes nothing.
use Prim.Native.Nat.{◌+◌, ◌≤◌, min}
use mathlib.Core.List.{[], ◌∷◌}
use mathlib.Core.Path.{◌≡◌}
use native.Mathlib.Omega.{arith}
use lib.ListN.{length}
use Rattle.lexical_util.specs.Digit.{digits_value}
use Rattle.lexical_read_float.proofs.DigitRunLaws.{digit_below, digit_above, from_more, from_stop, from_end, end_here, end_on, sum_done, sum_on}
use Rattle.lexical_read_float.specs.Digits.{digits_from, end_from}
use Rattle.lexical_read_float.specs.Scan.{too_great}
use Rattle.lexical_read_float.proofs.digits.exponent_digits.Goals.{At-loop-i}
use Rattle.lexical_read_float.proofs.digits.exponent_digits.Goals as goal

-- no digit stands at the loop's place
stopped : (c : At-loop-i) → digits_from c.args.radix c.args.text.now c.loop-i.i ≡ []
    → (let a = c.args in
    (c.loop-i.i ≡ end_from a.radix a.text.now a.from) × (c.loop-i.magnitude ≡ min (digits_value a.radix (digits_from a.radix a.text.now a.from)) too_great)
    × (c.loop-i.i ≤ length a.text.now))
stopped c e = let v = c.loop-i.invariant in (end_here _ _ _ _ v.2 e, sum_done _ _ _ _ v.3 e v.1, v.0)

pub returns-then-digit-radix : goal.returns-then-digit-radix
returns-then-digit-radix c = stopped (goal.at.returns-then-digit-radix c).At-loop-i (from_stop _ _ _ c.loop-i-test.true (digit_above _ _ _ c.requires.2 c.digit_or_none-digit.ensures c.if-digit-radix.true))

pub loop-i-preserved : goal.loop-i-preserved
loop-i-preserved c = let a = c.args in
    let more : digits_from a.radix a.text.now c.loop-i.i ≡ c.digit_or_none-digit.result ∷ digits_from a.radix a.text.now (c.loop-i.i + 1) =
    from_more _ _ c.loop-i.i _ c.loop-i-test.true (digit_below _ _ _ c.requires.2 c.digit_or_none-digit.ensures c.if-digit-radix.false) in
    (omega arith, omega (arith, c.saturated-magnitude.ensures), end_on _ _ _ _ c.loop-i.invariant.2 _ more, sum_on _ _ _ _ c.loop-i.invariant.3 _ _ _ c.requires.1 more c.saturated-magnitude.ensures)

pub returns : goal.returns
returns c = let end : c.loop-i.i ≡ length c.args.text.now = omega arith in rw end at (stopped (goal.at.returns c).At-loop-i (from_end _ _ _ c.loop-i-test.false))
