-- Where the numbers of a value lie that is written. No contract of an exported call cites it. Definitions only.
use Rattle.std.specs.Prelude.{ℕ, ◌^◌, ◌≤◌, ◌<◌, ℤ, pos, negsuc}
use Rattle.lexical_exponent.specs.Exponent.{scale}

-- from -least to most
abbrev pub Between : ℕ → ℕ → ℤ → Type 0
Between least most (pos n) = n ≤ most
Between least most (negsuc n) = n < least

-- a value that may be written: a float's, or one that a digit limit made of it
pub record Ranged (m : ℕ) (e : ℤ) : Type 0 where
  pub few : m < 2 ^ 54
  pub near : Between 1074 1024 (scale m e)
