-- `lexical_write_float::binary::truncate_and_round` meets its contract: what lies below the unit is cut off and rounded. Assumes nothing.
use Prim.Native.Nat.{ℕ, ◌+◌, ◌-◌, ◌*◌, ◌≤◌, ◌<◌}
use mathlib.Core.Path.{◌≡◌, sym, ap, ap₂, ◌∙◌}
use native.Mathlib.Nat.{pos_of_ne-zero}
use native.Mathlib.Omega.{arith}
use lib.IntN.{ℤ, pos, ◌+ℤ◌}
use lib.Ieee.{size}
use lib.Ieee.Digits.{size-le}
use Rattle.lexical_exponent.specs.Exponent.{scale, modulo}
use Rattle.lexical_exponent.proofs.PowerLaws.{size_pos}
use Rattle.lexical_write_float_spec.specs.Value.{normal}
use Rattle.lexical_write_float_spec.specs.Range.{Between}
use Rattle.lexical_write_float_spec.proofs.Integers.{between_wider}
use Rattle.lexical_write_float.proofs.StoredLaws.{raised_is, scale_held}
use Rattle.lexical_write_float_spec.proofs.LimitLaws.{limited_none, limited_zero, kept, limited_kept, limited_cut}
use Rattle.lexical_write_float.proofs.binary.truncate_and_round.Goals.{After-kept_bits-keep, After-raised, After-significant_bits-below, Start}
use Rattle.lexical_write_float.proofs.binary.truncate_and_round.Goals as goal

near : (c : Start) → Between 8000 8000 c.args.value.exponent.0
near c = between_wider 4000 4000 8000 8000 c.args.value.exponent.0 (omega arith) (omega arith) c.requires.1

some : (c : After-kept_bits-keep) → 0 < c.args.value.mantissa
some c = pos_of_ne-zero c.if-mantissa-eq0.false

keep_is : (c : After-kept_bits-keep) → let a = c.args in c.kept_bits-keep.result ≡ kept a.bits_per_digit a.digits (scale a.value.mantissa a.value.exponent.0)
keep_is c =
    let near' : Between 8000 8000 c.args.value.exponent.0 = between_wider 4000 4000 8000 8000 c.args.value.exponent.0 (omega arith) (omega arith) c.requires.1 in
    let a = c.args in c.kept_bits-keep.ensures ∙ ap (λ (s : ℤ). a.bits_per_digit * (a.digits - 1) + modulo s a.bits_per_digit) (c.sci_exp-s.ensures.result_value ∙ scale_held a.value.mantissa a.value.exponent.0 c.requires.0 near')

-- one bit at least, and 60 at most
bits : (c : After-significant_bits-below) → let m = c.args.value.mantissa in (c.significant_bits-below.result ≡ size m) × (0 < size m) × (size m ≤ 60)
bits c =
    let some' : 0 < c.args.value.mantissa = pos_of_ne-zero c.if-mantissa-eq0.false in
    let m = c.args.value.mantissa in
    (c.significant_bits-below.ensures.value, size_pos m some', size-le m 60 c.requires.0)

abbrev cut : After-significant_bits-below → ℕ
cut c = c.significant_bits-below.result - 1 - c.kept_bits-keep.result

few : (c : After-significant_bits-below) → cut c ≤ 64
few c = omega (arith, bits c)

higher : (c : After-raised) → c.raised.result.0 ≡ c.args.value.exponent.0 +ℤ pos (c.significant_bits-below.result - 1 - c.kept_bits-keep.result)
higher c =
    let near' : Between 8000 8000 c.args.value.exponent.0 = between_wider 4000 4000 8000 8000 c.args.value.exponent.0 (omega arith) (omega arith) c.requires.1 in
    let some' : 0 < c.args.value.mantissa = pos_of_ne-zero c.if-mantissa-eq0.false in
    let bits' : let m = c.args.value.mantissa in (c.significant_bits-below.result ≡ size m) × (0 < size m) × (size m ≤ 60) = let m = c.args.value.mantissa in
    (c.significant_bits-below.ensures.value, size_pos m some', size-le m 60 c.requires.0) in
    let few' : (c.significant_bits-below.result - 1 - c.kept_bits-keep.result) ≤ 64 = omega (arith, bits') in
    c.raised.ensures ∙ raised_is c.args.value.exponent.0 (c.significant_bits-below.result - 1 - c.kept_bits-keep.result) near' few'

pub returns-then-digits-eq0 : goal.returns-then-digits-eq0
returns-then-digits-eq0 c = let a = c.args in limited_none a.mode a.bits_per_digit a.digits a.value.mantissa a.value.exponent.0 c.if-digits-eq0.true

pub returns-then-mantissa-eq0 : goal.returns-then-mantissa-eq0
returns-then-mantissa-eq0 c = let a = c.args in limited_zero a.mode a.bits_per_digit a.digits a.value.mantissa a.value.exponent.0 c.if-mantissa-eq0.true

pub returns-then-below-keep : goal.returns-then-below-keep
returns-then-below-keep c = let a = c.args in
    c.normalized.ensures
    ∙ sym (limited_kept a.mode a.bits_per_digit a.digits a.value.mantissa a.value.exponent.0 (omega arith) (omega arith) (some (goal.at.returns-then-below-keep c).After-kept_bits-keep) c.kept_bits-keep.result (keep_is (goal.at.returns-then-below-keep c).After-kept_bits-keep) (omega (arith, bits (goal.at.returns-then-below-keep c).After-significant_bits-below)))

pub round_to_units-units-requires : goal.round_to_units-units-requires
round_to_units-units-requires c = (omega arith, omega (arith, bits (goal.at.round_to_units-units-requires c).After-significant_bits-below))

pub returns : goal.returns
returns c = let a = c.args in
    c.normalized-2.ensures
    ∙ ap₂ normal c.round_to_units-units.ensures (higher (goal.at.returns c).After-raised)
    ∙ sym (limited_cut a.mode a.bits_per_digit a.digits a.value.mantissa a.value.exponent.0 (omega arith) (omega arith) (some (goal.at.returns c).After-kept_bits-keep) c.kept_bits-keep.result (keep_is (goal.at.returns c).After-kept_bits-keep) (cut (goal.at.returns c).After-significant_bits-below) (omega (arith, bits (goal.at.returns c).After-significant_bits-below)) (omega arith))
