-- `lexical_write_float::shared::exponent_length` meets its contract: the pieces' lengths, and none where the layout has no exponent. Assumes nothing.
use Prim.Native.Nat.{◌≤◌}
use mathlib.Core.Path.{◌≡◌, ◌∙◌}
use native.Mathlib.Omega.{arith}
use lib.ListN.{length}
use Rattle.lexical_write_integer_spec.specs.Digits.{numeral}
use Rattle.lexical_write_integer_spec.proofs.DigitsAnswer.{count_known}
use Rattle.lexical_write_float.proofs.PowerLaws.{tail_length}
use Rattle.lexical_write_float_spec.proofs.LengthLaws.{few_digits}
use Rattle.lexical_write_float.proofs.shared.exponent_length.Goals.{After-digit_count}
use Rattle.lexical_write_float.proofs.shared.exponent_length.Goals as goal

count : (c : After-digit_count) → let a = c.args in c.digit_count.result ≡ length (numeral a.radix a.width a.exponent.1)
count c = c.digit_count.ensures ∙ count_known c.args.exponent.1 c.args.radix c.args.width c.requires.0

few : (c : After-digit_count) → let a = c.args in length (numeral a.radix a.width a.exponent.1) ≤ 13
few c = few_digits c.args.radix c.args.width c.args.exponent.1 c.requires.0 c.requires.1 c.requires.2

pub overflow_add-result-in-Scientific : goal.overflow_add-result-in-Scientific
overflow_add-result-in-Scientific c = omega (arith, count (goal.at.overflow_add-result-in-Scientific c).After-digit_count, few (goal.at.overflow_add-result-in-Scientific c).After-digit_count)

pub returns-in-Scientific : goal.returns-in-Scientific
returns-in-Scientific c = let a = c.args in
    (λ mark. omega (arith, count (goal.at.returns-in-Scientific c).After-digit_count, tail_length a.layout mark a.exponent.0 a.plus a.radix a.width a.exponent.1 c.in-Scientific.is), omega (arith, count (goal.at.returns-in-Scientific c).After-digit_count, few (goal.at.returns-in-Scientific c).After-digit_count))
