-- `lexical_write_float::write::digits_of` meets its contract: the shifted mantissa fits, and spells D. Assumes nothing.
use Prim.Native.Nat.{◌≤◌, ◌<◌, ℕ, ◌*◌, ◌%◌, ◌^◌}
use mathlib.Core.Path.{◌≡◌, sym, ap, ◌∙◌}
use native.Mathlib.Omega.{arith}
use lib.ListN.{length}
use Rattle.lexical_write_integer_spec.specs.Digits.{numeral}
use Rattle.lexical_exponent.specs.Exponent.{modulo}
use Rattle.lexical_write_float_spec.specs.Value.{exact_digits}
use Rattle.lexical_write_integer_spec.proofs.DigitsAnswer.{log_known}
use Rattle.lexical_write_integer_spec.proofs.NumeralLaws.{length_one}
use Rattle.lexical_write_float_spec.proofs.ValueLaws.{exact_few}
use Rattle.lexical_write_float.proofs.TextLaws.{shift_below, shift_fits}
use Rattle.lexical_write_float.proofs.write.digits_of.Goals.{After-calculate_shl-shl}
use Rattle.lexical_write_float.proofs.write.digits_of.Goals as goal

abbrev shifted : After-calculate_shl-shl → ℕ
shifted c = c.args.value.mantissa * 2 ^ c.calculate_shl-shl.result % 18446744073709551616

short : (c : After-calculate_shl-shl) → c.calculate_shl-shl.result < 5
short c = omega (arith, c.calculate_shl-shl.ensures.below c.requires.0, c.requires.1)

shift_is : (c : After-calculate_shl-shl) → shifted c ≡ c.args.value.mantissa * 2 ^ modulo c.args.value.exponent.0 c.args.bits_per_digit
shift_is c =
    let a = c.args in
    shift_fits a.value.mantissa c.calculate_shl-shl.result c.requires.2 (short c)
    ∙ ap (λ (k : ℕ). a.value.mantissa * 2 ^ k) c.calculate_shl-shl.ensures.value

pub returns : goal.returns
unfolding exact_digits
returns c = let a = c.args in
    let n : c.digit_log.result ≡ length (numeral (2 ^ a.bits_per_digit) 1 (shifted (goal.at.returns c).After-calculate_shl-shl)) = c.digit_log.ensures ∙ log_known _ _ c.requires.0 ∙ sym (length_one (2 ^ a.bits_per_digit) (shifted (goal.at.returns c).After-calculate_shl-shl)) in
    let same = ap (numeral (2 ^ a.bits_per_digit) 1) (shift_is (goal.at.returns c).After-calculate_shl-shl) in
    let few : length (numeral (2 ^ a.bits_per_digit) 1 (a.value.mantissa * 2 ^ modulo a.value.exponent.0 a.bits_per_digit)) ≤ 64 = exact_few a.bits_per_digit a.value.mantissa a.value.exponent.0 c.requires.0 c.requires.1 c.requires.2 in
    (same, record { some_bits = c.requires.0; few_bits = c.requires.1; count_is = n; few = rw (n, same) few; small = rw (shift_fits a.value.mantissa c.calculate_shl-shl.result c.requires.2 (short (goal.at.returns c).After-calculate_shl-shl)) (shift_below a.value.mantissa c.calculate_shl-shl.result c.requires.2 (short (goal.at.returns c).After-calculate_shl-shl)) })
