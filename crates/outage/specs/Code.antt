-- What the loop of `read_number` has yet to read. No exported contract cites it. Definitions only.
use Rattle.std.specs.Prelude.{ℕ, ◌+◌, ◌*◌, cond, List, [], ◌∷◌, leb, Option, None, Some}
use Rattle.lexical_util.specs.Digit.{digit_in}

-- one digit of radix 10 more, behind those that spell a
abbrev pub on_digit : ℕ → ℕ → Option ℕ → (ℕ → Option ℕ) → Option ℕ
on_digit limit a None more = None
on_digit limit a (Some d) more = cond (leb (a * 10 + d) limit) (more (a * 10 + d)) None

-- the digits behind those that spell a, where no number on the way is above the limit; leading zeros pass
unfoldable pub number_on : ℕ → ℕ → List ℕ → Option ℕ
number_on limit a [] = Some a
number_on limit a (x ∷ xs) = on_digit limit a (digit_in 10 x) (λ b. number_on limit b xs)
