-- A number of two bytes as an i32: below 32,768 as it stands, else -1 less what 65,535 is above it. Assumes nothing.
use Prim.Native.Nat.{ℕ, ◌-◌, ◌≤◌, ◌<◌, zero, suc}
use mathlib.Core.Path.{◌≡◌, refl, ap, ◌∙◌}
use native.Mathlib.Omega.{arith}
use borrow.Author.Tests.{lt-ltb, le-ltb}
use lib.IntN.{ℤ, pos, negsuc, ◌-ℤ◌}
use mir.Syntax.{w32}
use mir.Val.{SFits, to_z, of_z}
use mir.Facts.{to_z_pos, to_z-of_z}
use Rattle.lexical_rewrite_spec.specs.Record.{twos_complement}

pub signed_low : (n : ℕ) → n < 32768 → to_z w32 n ≡ twos_complement n
signed_low n h = to_z_pos w32 {n = n} (omega arith) ∙ rw (lt-ltb n 32768 h)

below_is : (k : ℕ) → negsuc 0 -ℤ pos k ≡ negsuc k
below_is zero = refl
below_is (suc k) = ap negsuc (omega arith)

high_is : (n : ℕ) → 32768 ≤ n → n < 65536 → negsuc 0 -ℤ to_z w32 (65535 - n) ≡ negsuc (65535 - n)
high_is n h k = ap (λ (z : ℤ). negsuc 0 -ℤ z) (to_z_pos w32 {n = 65535 - n} (omega arith)) ∙ below_is (65535 - n)

pub high_fits : (n : ℕ) → 32768 ≤ n → n < 65536 → SFits w32 (negsuc 0 -ℤ to_z w32 (65535 - n))
high_fits n h k = rw (high_is n h k) (record { sfits = omega arith })

pub signed_high : (n : ℕ) → 32768 ≤ n → n < 65536 → to_z w32 (of_z w32 (negsuc 0 -ℤ to_z w32 (65535 - n))) ≡ twos_complement n
signed_high n h k = to_z-of_z (high_fits n h k) ∙ high_is n h k ∙ rw (le-ltb n 32768 h)
