-- `lexical_read_float::bits::value_bits` meets its contract: the numbers of a text make the numerator and the denominator of its value. Assumes nothing.
use Prim.Native.Nat.{◌+◌, ◌*◌, ◌≤◌}
use mathlib.Core.Path.{◌≡◌, ap, ap₂, ◌∙◌}
use native.Mathlib.Nat.{mul-le-mul, le_trans}
use native.Mathlib.Omega.{arith}
use lib.IntN.{pos, nat_abs}
use Rattle.lexical_exponent.specs.Exponent.{height_above}
use Rattle.lexical_exponent.proofs.ExponentLaws.{height_few, signed_few}
use Rattle.lexical_float.specs.Encoding.{of_width}
use Rattle.lexical_read_float.specs.declared.bits.Powers.{Powers}
use Rattle.lexical_read_float.specs.Bits.{powers_of}
use Rattle.lexical_read_float.proofs.BitsLaws.{refused_ten, value_scaled, kept_holds}
use Rattle.lexical_read_float_spec.specs.Read.{longest_read, greatest_exponent}
use Rattle.lexical_read_float.proofs.bits.value_bits.Goals.{After-powers_in_bits, After-powers_of-powers, Else-power-gt-GREATEST_EXPONENT}
use Rattle.lexical_read_float.proofs.bits.value_bits.Goals as goal

few : (c : Else-power-gt-GREATEST_EXPONENT) → let a = c.args in a.row.b * nat_abs a.number.fraction.0 ≤ 5 * longest_read
few c = mul-le-mul c.requires.2 c.requires.0.few_digits

small : (c : Else-power-gt-GREATEST_EXPONENT) → let a = c.args in a.row.c * a.number.exponent.power.1 ≤ 5 * greatest_exponent
small c = mul-le-mul c.requires.3 c.if-power-gt-GREATEST_EXPONENT.false

-- how far the two exponents are from 0, in bits
places_few : (c : After-powers_in_bits) → height_above c.digits_in_bits-places.result.0 (pos 0) ≤ 5 * longest_read
places_few c =
    let few' : let a = c.args in a.row.b * nat_abs a.number.fraction.0 ≤ 5 * longest_read = mul-le-mul c.requires.2 c.requires.0.few_digits in
    let a = c.args in
    rw c.digits_in_bits-places.ensures (le_trans (height_few a.row.b a.number.fraction.0).0 few')

power_few : (c : After-powers_in_bits) → (height_above c.powers_in_bits.result.0 (pos 0) ≤ 5 * greatest_exponent) × (height_above (pos 0) c.powers_in_bits.result.0 ≤ 5 * greatest_exponent)
power_few c =
    let small' : let a = c.args in a.row.c * a.number.exponent.power.1 ≤ 5 * greatest_exponent = mul-le-mul c.requires.3 c.if-power-gt-GREATEST_EXPONENT.false in
    let a = c.args in
    let w = signed_few a.number.exponent.power.0 a.row.c a.number.exponent.power.1 in
    rw c.powers_in_bits.ensures (le_trans w.0 small', le_trans w.1 small')

up_few : (c : After-powers_of-powers) → c.powers_of-powers.result.up ≤ 5 * greatest_exponent
up_few c =
    let small' : let a = c.args in a.row.c * a.number.exponent.power.1 ≤ 5 * greatest_exponent = mul-le-mul c.requires.3 c.if-power-gt-GREATEST_EXPONENT.false in
    let power_few' : (height_above c.powers_in_bits.result.0 (pos 0) ≤ 5 * greatest_exponent) × (height_above (pos 0) c.powers_in_bits.result.0 ≤ 5 * greatest_exponent) = let a = c.args in
    let w = signed_few a.number.exponent.power.0 a.row.c a.number.exponent.power.1 in
    rw c.powers_in_bits.ensures (le_trans w.0 small', le_trans w.1 small') in
    rw (ap (λ (x : Powers). x.up) c.powers_of-powers.ensures) power_few'.0

down_is : (c : After-powers_of-powers) → c.powers_of-powers.result.down ≡ height_above c.digits_in_bits-places.result.0 (pos 0) + height_above (pos 0) c.powers_in_bits.result.0
down_is c = ap (λ (x : Powers). x.down) c.powers_of-powers.ensures

pub returns-then-power-gt-GREATEST_EXPONENT-clause-by_index : goal.returns-then-power-gt-GREATEST_EXPONENT-clause-by_index
returns-then-power-gt-GREATEST_EXPONENT-clause-by_index c = λ t power s are is. let a = c.args in rw c.at.ensures (refused_ten _ a.row power t s a.number is c.if-power-gt-GREATEST_EXPONENT.true)

pub powers_of-powers-requires : goal.powers_of-powers-requires
powers_of-powers-requires c = (places_few (goal.at.powers_of-powers-requires c).After-powers_in_bits, (power_few (goal.at.powers_of-powers-requires c).After-powers_in_bits).1)

pub round_kept-rounded-requires : goal.round_kept-rounded-requires
round_kept-rounded-requires c = (c.requires.1, c.requires.0.few_below, omega (arith, up_few (goal.at.round_kept-rounded-requires c).After-powers_of-powers), omega (arith, down_is (goal.at.round_kept-rounded-requires c).After-powers_of-powers, places_few (goal.at.round_kept-rounded-requires c).After-powers_in_bits, (power_few (goal.at.round_kept-rounded-requires c).After-powers_in_bits).1))

pub returns-clause-by_index : goal.returns-clause-by_index
returns-clause-by_index c = let a = c.args in
    let f = of_width a.width in
    let powers = c.powers_of-powers.ensures ∙ ap₂ powers_of c.digits_in_bits-places.ensures c.powers_in_bits.ensures in
    λ t power s are is. value_scaled f a.row power t s a.number is (few (goal.at.returns-clause-by_index c).Else-power-gt-GREATEST_EXPONENT) c.if-power-gt-GREATEST_EXPONENT.false (small (goal.at.returns-clause-by_index c).Else-power-gt-GREATEST_EXPONENT) _ _ powers (c.rounded_bits.ensures.result_value ∙ c.round_kept-rounded.ensures.result_value _ _ (kept_holds f a.row power t s a.number is are))
