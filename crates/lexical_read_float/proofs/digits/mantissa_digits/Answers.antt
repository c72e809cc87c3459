-- `lexical_read_float::digits::mantissa_digits` meets its contract: digits go into the bits until these are full, and the others are counted and tested for 0. Assumes nothing.
use Prim.Native.Nat.{◌+◌, ◌-◌, ◌*◌, ◌≤◌}
use mathlib.Core.Path.{◌≡◌, ap, ◌∙◌}
use native.Mathlib.Omega.{arith}
use lib.IntN.{ℤ, pos}
use mir.Syntax.{w32}
use mir.Facts.{to_z_pos}
use Rattle.lexical_exponent.specs.Exponent.{height_above}
use Rattle.lexical_exponent.proofs.ExponentLaws.{digits_height}
use Rattle.lexical_read_float.proofs.KeepLaws.{ended, all_kept, stops, joined, joined_below}
use Rattle.lexical_read_float.proofs.digits.mantissa_digits.Goals.{After-further_digits-further, After-height_above}
use Rattle.lexical_read_float.proofs.digits.mantissa_digits.Goals as goal

few : (c : After-further_digits-further)
    → (let a = c.args in
    a.start.below + a.b * (c.further_digits-further.result.end - c.leading_digits-leading.result.end) ≤ 5 * c.further_digits-further.result.end)
few c =
    joined_below _ _ _ _ c.args.start _ _ c.leading_digits-leading.ensures _ c.further_digits-further.ensures.0 c.requires.3 c.requires.4

-- the digits below full bits, in bits
lower_is : (c : After-height_above)
    → (c.height_above.result ≡ c.args.b * (c.further_digits-further.result.end - c.leading_digits-leading.result.end))
lower_is c =
    let few' : (let a = c.args in a.start.below + a.b * (c.further_digits-further.result.end - c.leading_digits-leading.result.end) ≤ 5 * c.further_digits-further.result.end) = joined_below _ _ _ _ c.args.start _ _ c.leading_digits-leading.ensures _ c.further_digits-further.ensures.0 c.requires.3 c.requires.4 in
    let n = c.further_digits-further.result.end - c.leading_digits-leading.result.end in
    c.height_above.ensures
    ∙ ap (λ (z : ℤ). height_above z (pos 0)) c.digits_in_bits-lower.ensures
    ∙ rw (to_z_pos w32 {n = n} (omega (arith, few'))) (digits_height _ n (omega (arith, few')))

pub returns-then-bits-lt288230376151711744 : goal.returns-then-bits-lt288230376151711744
returns-then-bits-lt288230376151711744 c = let filled = c.leading_digits-leading.ensures in
    let f = filled.forth in
    (ended _ _ _ _ c.args.start _ _ filled c.if-bits-lt288230376151711744.true, all_kept _ _ _ _ c.args.start _ _ filled c.if-bits-lt288230376151711744.true, omega arith, filled.within)

pub returns : goal.returns
returns c = let a = c.args in
    let filled = c.leading_digits-leading.ensures in
    rw (lower_is (goal.at.returns c).After-height_above)
    (stops _ _ _ _ a.start _ _ filled _ c.further_digits-further.ensures.0, joined _ _ _ _ a.start _ _ filled _ c.further_digits-further.ensures.0 _ _ c.both.ensures c.further_digits-further.ensures.1, few (goal.at.returns c).After-further_digits-further, c.further_digits-further.ensures.2)
