-- What rounding the kept bits answers. No exported contract cites it. Definitions only.
use Rattle.std.specs.Prelude.{ℕ, ◌<◌, Bool, cond, leb, Float, Option, Some, None}
use Rattle.std.specs.Float.{Format}
use Rattle.std.specs.Float.Ieee.{of_bits}
use Rattle.lexical_util.specs.Answer.{Answer, done, refused}
use Rattle.lexical_float.specs.Encoding.{bits_of}
use Rattle.lexical_read_float.specs.Pattern.{pattern, infinity}

-- document 01's answer for the bits below the sign s, or for none; 11 too large
abbrev pub of_rounded : Format → Bool → Option ℕ → Answer Float
of_rounded f s (Some n) = done (of_bits f (bits_of f s n))
of_rounded f s None = refused 11 0

-- bits below the infinity's
abbrev pub IsFinite : Format → Option ℕ → Type 0
IsFinite f (Some n) = n < infinity f
IsFinite f None = Unit {0}

-- from leading bits, of a number times 2 ^ up / 2 ^ down
unfoldable pub rounded_bits : Format → ℕ → Bool → ℕ → ℕ → Option ℕ
rounded_bits f bits clear up down = let n = pattern f bits clear up down in cond (leb (infinity f) n) None (Some n)
