-- `lexical_read_float::digits::leading_digits` meets its contract: at each place the digits still to come make the same of the bits so far as all make of those at the start. Assumes nothing.
use Prim.Native.Nat.{ℕ, ◌+◌, ◌<◌}
use mathlib.Core.List.{[], ◌∷◌}
use mathlib.Core.Path.{◌≡◌, ap, ◌∙◌}
use native.Mathlib.Omega.{arith}
use lib.ListN.{length}
use Rattle.lexical_read_float.proofs.DigitRunLaws.{digit_below, digit_above, from_more, from_stop, from_end, end_on}
use Rattle.lexical_read_float.specs.Digits.{digits_from, FilledBits}
use Rattle.lexical_read_float.specs.Kept.{full}
use Rattle.lexical_read_float.proofs.KeepLaws.{shift_small, shift_is, kept_on}
use Rattle.lexical_read_float.proofs.digits.leading_digits.Goals.{At-loop-i}
use Rattle.lexical_read_float.proofs.digits.leading_digits.Goals as goal

-- the loop stops here: the bits are full, or no digit stands here
stopped : (c : At-loop-i) → (c.loop-i.bits < full → digits_from c.args.radix c.args.text.now c.loop-i.i ≡ [])
    → (let a = c.args in FilledBits a.radix a.b a.text.now a.from a.start c.loop-i.i c.loop-i.bits)
stopped c e = let v = c.loop-i.invariant in record { forth = v.0; within = v.1; ends = v.2; kept = v.3; done = e }

pub returns-then-digit-radix : goal.returns-then-digit-radix
returns-then-digit-radix c = stopped (goal.at.returns-then-digit-radix c).At-loop-i (λ h. from_stop _ _ _ c.loop-i-test.true (digit_above _ _ _ c.requires.1 c.digit_or_none-digit.ensures c.if-digit-radix.true))

pub overflow_add-bits : goal.overflow_add-bits
overflow_add-bits c = omega (arith, shift_is c.loop-i.bits c.args.b c.if-bits-ge288230376151711744.false c.requires.2, shift_small c.loop-i.bits c.args.b c.if-bits-ge288230376151711744.false c.requires.2)

pub loop-i-preserved : goal.loop-i-preserved
loop-i-preserved c = let a = c.args in
    let more : digits_from a.radix a.text.now c.loop-i.i ≡ c.digit_or_none-digit.result ∷ digits_from a.radix a.text.now (c.loop-i.i + 1) =
    from_more _ _ c.loop-i.i _ c.loop-i-test.true (digit_below _ _ _ c.requires.1 c.digit_or_none-digit.ensures c.if-digit-radix.false) in (
      omega arith,
      omega arith,
      end_on _ _ _ _ c.loop-i.invariant.2 _ more,
      λ below clear. kept_on _ c.loop-i.bits below _ _ clear _ _ c.if-bits-ge288230376151711744.false (ap (λ (x : ℕ). x + c.digit_or_none-digit.result) (shift_is c.loop-i.bits a.b c.if-bits-ge288230376151711744.false c.requires.2)) more ∙ c.loop-i.invariant.3 below clear,
    )

pub returns : goal.returns
returns c = let end : c.loop-i.i ≡ length c.args.text.now = omega arith in rw end at (stopped (goal.at.returns c).At-loop-i (λ h. from_end _ _ _ c.loop-i-test.false))
