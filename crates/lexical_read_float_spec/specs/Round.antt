-- From a value to a float of a width: document 01, "Reader", with the edge of document 02, 2.1. The value is the fraction a / c, with c above 0. Definitions only.
use Rattle.std.specs.Prelude.{ℕ, suc, ◌+◌, ◌-◌, ◌*◌, ◌/◌, ◌%◌, ◌^◌, ◌≤◌, ◌≡◌, ◌≢◌, Bool, T, leb}
use lib.Ieee.{Float, Format, prec, emax, fits, to_bits}
use Rattle.std.specs.Float.Ieee.Exact.{HasValue}
use Rattle.std.specs.Float.Ieee.Positive.{num, den}
use Rattle.std.specs.Float.Ieee.Scale.{finite}

-- a step at the top of the range, from one float to the next: 2 ^ 971, and 2 ^ 104
abbrev pub top_step : Format → ℕ
top_step f = 2 ^ (suc (emax f) - prec f)

-- the largest finite float, a whole number: 2 ^ 1024 - 2 ^ 971, and 2 ^ 128 - 2 ^ 104
abbrev pub largest : Format → ℕ
largest f = 2 ^ suc (emax f) - top_step f

-- half a step above it: 2 ^ 1024 - 2 ^ 970, and 2 ^ 128 - 2 ^ 103
abbrev pub edge : Format → ℕ
edge f = largest f + top_step f / 2

-- 11 too large: a value from the edge on (document 02, 2.1)
unfoldable pub too_large : Format → ℕ → ℕ → Bool
too_large f a c = leb (edge f * c) a

-- ---- what "the nearest float, ties to even" means; `lib.Ieee.round` computes it
-- how far two whole numbers lie apart
abbrev pub apart : ℕ → ℕ → ℕ
apart m n = (m - n) + (n - m)

-- how far a / c lies from a finite float's size, times c and the denominator of that size
abbrev pub distance : ℕ → ℕ → Float → ℕ
distance a c x = apart (a * den x) (num x * c)

-- x has the sign s, and the width holds it; a / c lies no nearer to any finite float of the width; and where it lies as near to another one, x's last bit is 0.
-- Distances are compared as whole numbers.
pub record Nearest (f : Format) (s : Bool) (a c : ℕ) (x : Float) : Type 0 where
  pub held : T (fits f x)
  pub signed : HasValue x s (num x) (den x)
  pub least : (y : Float) → T (fits f y) → T (finite y) → distance a c x * den y ≤ distance a c y * den x
  pub even : (y : Float) → T (fits f y) → T (finite y) → num y * den x ≢ num x * den y → distance a c x * den y ≡ distance a c y * den x → to_bits f x % 2 ≡ 0
