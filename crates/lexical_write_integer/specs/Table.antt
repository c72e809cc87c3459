-- The table of digit pairs: document 01, "Integer digits"; and the tables' rules. Definitions only.
use Rattle.std.specs.Prelude.{ℕ, ◌+◌, ◌*◌, ◌/◌, ◌%◌, ◌^◌, ◌<◌, ◌≡◌, cond, List, eqb, length, get_or}
use Rattle.lexical_util.specs.Digit.{digit_byte}

-- digit pairs of a radix are one table, 1,024 of them for radix 32: entry i, bytes 2 i and 2 i + 1, holds the digits of i div radix and i mod radix
unfoldable pub pair_byte : ℕ → ℕ → ℕ
pair_byte radix k = let i = k / 2 in cond (eqb (k % 2) 0) (digit_byte (i / radix)) (digit_byte (i % radix))

-- a table of radix 2 ^ b that follows the rule
pub record PairTable (b : ℕ) (table : List ℕ) : Type 0 where
  pub size : length table ≡ 2 * 2 ^ (b + b)
  pub at : (k : ℕ) → k < 2 * 2 ^ (b + b) → get_or table k 0 ≡ pair_byte (2 ^ b) k

-- one of the 32 digits
pub record DigitTable (table : List ℕ) : Type 0 where
  pub at : (k : ℕ) → k < 32 → get_or table k 0 ≡ digit_byte k
