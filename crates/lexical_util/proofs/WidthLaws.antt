-- The four least widths. Assumes nothing.
use Prim.Native.Nat.{ℕ, zero, suc, ◌≤◌}
use mathlib.Core.Path.{◌≡◌}
use mathlib.Core.Bool.{true}
use native.Mathlib.Omega.{arith}
use borrow.Author.Tests.{le-leb, leb-true}
use Rattle.lexical_util.specs.Digit.{greatest_width, is_width}

pub width_bounds : (w : ℕ) → is_width w ≡ true → (1 ≤ w) × (w ≤ greatest_width)
unfolding is_width
width_bounds zero h = absurd (omega (arith, leb-true 1 0 h))
width_bounds (suc w) h = (omega arith, leb-true (suc w) greatest_width (rw (le-leb 1 (suc w) (omega arith)) at h))
