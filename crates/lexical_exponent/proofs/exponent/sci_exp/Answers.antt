-- `lexical_exponent::exponent::sci_exp` meets its contract: zero has no significant bit, and any other value's leading bit stands above its exponent. Assumes nothing.
use Prim.Native.Nat.{ℕ, ◌-◌, ◌<◌}
use mathlib.Core.Path.{◌≡◌, sym, ap, ◌∙◌}
use native.Mathlib.Nat.{pos_of_ne-zero}
use lib.IntN.{ℤ, pos, ◌+ℤ◌}
use lib.Ieee.{size}
use Rattle.lexical_exponent.specs.Exponent.{clamped, scale, LeadingBit}
use Rattle.lexical_exponent.proofs.ExponentLaws.{scale_is, leading_bit}
use Rattle.lexical_exponent.proofs.PowerLaws.{size_zero}
use Rattle.lexical_exponent.proofs.exponent.sci_exp.Goals.{Start}
use Rattle.lexical_exponent.proofs.exponent.sci_exp.Goals as goal

led : (c : Start) {s : ℤ} → let v = c.args.value in s ≡ clamped (scale v.mantissa v.exponent.0)
    → (s ≡ clamped (scale v.mantissa v.exponent.0))
    × (0 < v.mantissa → clamped (scale v.mantissa v.exponent.0) ≡ scale v.mantissa v.exponent.0 → LeadingBit v.mantissa v.exponent.0 s)
led c e = (e, λ some held. leading_bit _ _ _ (e ∙ held) some)

pub returns : goal.returns
returns c = let some : 0 < c.args.value.mantissa = pos_of_ne-zero (λ e. c.if-bits-eq0.false (c.significant_bits-bits.ensures.value ∙ ap size e ∙ size_zero)) in
    let e = c.args.value.exponent.0 in
    let f = led (goal.at.returns c).Start (c.raised.ensures ∙ ap clamped (ap (λ (n : ℕ). e +ℤ pos (n - 1)) c.significant_bits-bits.ensures.value ∙ sym (scale_is c.args.value.mantissa e some))) in
    record { result_value = f.0; leading = f.1 }
