-- `lexical_read_float::digits::digit_or_none` meets its contract: figures by the first match, capitals by the second, and none elsewhere. Assumes nothing.
use Prim.Native.Nat.{◌+◌, ◌-◌}
use mathlib.Core.Path.{◌≡◌}
use native.Mathlib.Omega.{arith}
use Rattle.lexical_util.proofs.DigitLaws.{value_capital, value_between, value_high}
use Rattle.lexical_read_float.proofs.DigitRunLaws.{tells_digit, tells_figure}
use Rattle.lexical_read_float.proofs.digits.digit_or_none.Goals as goal

pub returns-in-65-to-86 : goal.returns-in-65-to-86
returns-in-65-to-86 c = let x = c.args.byte in
    let d : x - 65 + 10 ≡ x - 55 = omega arith in
    tells_digit x _ (rw d (value_capital x (omega arith) (omega arith))) (omega arith)

-- no capital: the first match alone tells figures, and none for any other byte
pub returns-in_default-byte : goal.returns-in_default-byte
returns-in_default-byte c = tells_figure c.args.byte c.if-byte-lt48.figure (λ h. value_between _ h (omega arith)) (λ a b. grind arith) (λ a. grind arith) (λ a. grind arith)

pub returns-in_default-byte-2 : goal.returns-in_default-byte-2
returns-in_default-byte-2 c = tells_figure c.args.byte c.if-byte-lt48.figure (λ h. value_high _ (omega arith)) (λ a b. grind arith) (λ a. grind arith) (λ a. grind arith)
