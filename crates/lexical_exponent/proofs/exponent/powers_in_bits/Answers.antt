-- `lexical_exponent::exponent::powers_in_bits` meets its contract: by the sign, of at most 2 ^ 31 powers, which are as good as more. Assumes nothing.
use Prim.Native.Nat.{ℕ, ◌*◌, ◌≤◌}
use mathlib.Core.Path.{◌≡◌, sym, ap, ◌∙◌}
use mathlib.Core.Bool.{Bool}
use native.Mathlib.Omega.{arith}
use lib.IntN.{pos, ◌*ℤ◌}
use Rattle.lexical_exponent.specs.Exponent.{clamped, signed}
use Rattle.lexical_exponent.proofs.ExponentLaws.{power_above, power_below_fits, power_below, few_same}
use Rattle.lexical_exponent.proofs.exponent.powers_in_bits.Goals.{After-at_most_past-powers}
use Rattle.lexical_exponent.proofs.exponent.powers_in_bits.Goals as goal

few : (c : After-at_most_past-powers) → c.at_most_past-powers.result ≤ 2147483648
few c = omega (arith, c.at_most_past-powers.ensures)

-- the code's product, with the sign
same : (c : After-at_most_past-powers) (s : Bool) → c.args.exponent.0 ≡ s
    → let a = c.args in clamped (signed s (a.bits_per_base * c.at_most_past-powers.result)) ≡ clamped (pos a.bits_per_base *ℤ signed a.exponent.0 a.exponent.1)
same c s e =
    let a = c.args in
    ap (λ (n : ℕ). clamped (signed s (a.bits_per_base * n))) c.at_most_past-powers.ensures
    ∙ few_same s a.bits_per_base a.exponent.1
    ∙ ap (λ (b : Bool). clamped (pos a.bits_per_base *ℤ signed b a.exponent.1)) (sym e)

pub overflow_sub-bits : goal.overflow_sub-bits
overflow_sub-bits c = power_below_fits c.args.bits_per_base c.at_most_past-powers.result (omega arith) (few (goal.at.overflow_sub-bits c).After-at_most_past-powers)

pub returns-then-exponent : goal.returns-then-exponent
returns-then-exponent c = c.clamped.ensures ∙ ap clamped (power_below c.args.bits_per_base c.at_most_past-powers.result (omega arith) (few (goal.at.returns-then-exponent c).After-at_most_past-powers)) ∙ same (goal.at.returns-then-exponent c).After-at_most_past-powers _ c.if-exponent.true

pub returns : goal.returns
returns c = c.clamped-2.ensures ∙ ap clamped (power_above c.args.bits_per_base c.at_most_past-powers.result (omega arith) (few (goal.at.returns c).After-at_most_past-powers)) ∙ same (goal.at.returns c).After-at_most_past-powers _ c.if-exponent.false
