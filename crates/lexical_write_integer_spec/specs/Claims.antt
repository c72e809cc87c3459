-- What the laws of a number's digits, of its last ones, and of filling from the front say. Statements only; `DigitsClaims` and `StepsClaims` prove them.
use Rattle.std.specs.Prelude.{ℕ, ◌+◌, ◌-◌, ◌/◌, ◌^◌, ◌≤◌, ◌<◌, max, ◌≡◌, ◌≢◌, List, ◌++◌, length, get_or}
use Rattle.std.specs.Float.Ieee.{size}
use Rattle.lexical_util.specs.Answer.{done, held}
use Rattle.lexical_util.specs.Digit.{AreDigits, digits_value}
use Rattle.lexical_write_integer_spec.specs.Digits.{digits, widened, numeral}
use Rattle.lexical_write_integer_spec.specs.Write.{last_numeral, digits_text}
use Rattle.lexical_write_integer_spec.specs.Front.{begun, steps_text, after_steps}

-- read back, the digits are the number, whatever the width
abbrev pub ReadBack : Type 0
ReadBack = (radix width x : ℕ) → 1 < radix → digits_value radix (widened width (digits radix x)) ≡ x

-- each is a digit of the radix
abbrev pub EachBelow : Type 0
EachBelow = (radix width x : ℕ) → 1 < radix → AreDigits radix (widened width (digits radix x))

-- in width 1 no leading zeros
abbrev pub NoLeadingZero : Type 0
NoLeadingZero = (radix x : ℕ) → 1 < radix → 0 < x → get_or (widened 1 (digits radix x)) 0 0 ≢ 0

-- in radix 2 ^ b there are ceil (significant bits / b), at least one and at least the width
abbrev pub DigitCount : Type 0
DigitCount = (b width x : ℕ) → 0 < b → length (widened width (digits (2 ^ b) x)) ≡ max (max 1 width) ((size x + b - 1) / b)

-- the last digits are those of the quotient, and then more
abbrev pub LastJoin : Type 0
LastJoin = (radix j k x : ℕ) → last_numeral radix (j + k) x ≡ last_numeral radix j (x / radix ^ k) ++ last_numeral radix k x

-- as many of them as there are digits are the digits
abbrev pub LastAreAll : Type 0
LastAreAll = (radix width x : ℕ) → 1 < radix → last_numeral radix (length (numeral radix width x)) x ≡ numeral radix width x

-- a call that has room leaves its text begun and ended: all of it stands, and the rest is as lent
abbrev pub HeldIsBegun : Type 0
HeldIsBegun = (text out : List ℕ) → length text ≤ length out → held (done text) out ≡ begun text (length text) out

-- in a radix that is filled from the front, steps from the first digit to the last leave what the digits call leaves
abbrev pub StepsMakeTheCall : Type 0
StepsMakeTheCall =
    (x radix width : ℕ) (text out : List ℕ) → steps_text x radix width ≡ done text → length text ≤ length out
    → (digits_text x radix width ≡ done text) × (after_steps text (length text) 0 out ≡ held (digits_text x radix width) out)
