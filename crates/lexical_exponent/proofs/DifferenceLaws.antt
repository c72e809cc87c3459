-- The difference of two natural numbers as an integer, and in the signed arithmetic of a width. Assumes nothing.
use Prim.Native.Nat.{ℕ, zero, suc, ◌+◌, ◌-◌, ◌^◌, ◌≤◌, ◌<◌}
use mathlib.Core.Bool.{false}
use mathlib.Core.Path.{◌≡◌, refl, sym, ap, ap₂, ◌∙◌}
use native.Mathlib.Decide.{dec_le}
use native.Mathlib.Nat.{lt_of_not-le}
use native.Mathlib.Omega.{arith}
use borrow.Author.Tests.{le-leb, lt-leb, lt-ltb, le-ltb, ltb-false}
use lib.IntN.{ℤ, pos, negsuc, ◌+ℤ◌, ◌-ℤ◌, -ℤ-+ℤ_cancel, +ℤ_comm}
use lib.Signed.{mag, lt_z}
use lib.Ieee.{minus}
use mir.Syntax.{Width, w32, w64}
use mir.Val.{SFits, hbits, to_z, of_z}
use mir.Facts.{to_z-of_z, to_z_pos, sfits_widen}

-- by the larger of the two
pub by_larger : (a b : ℕ) (P : Type 0) → (b ≤ a → P) → (a < b → P) → P
by_larger a b P ge lt = go (dec_le b a)
  where
    go : Dec (b ≤ a) → P
    go (yes h) = ge h
    go (no h) = lt (lt_of_not-le h)

pub minus_ge : (a b : ℕ) → b ≤ a → minus a b ≡ pos (a - b)
minus_ge a b h = rw (le-leb b a h)

pub minus_lt : (a b : ℕ) → a < b → minus a b ≡ negsuc (b - suc a)
minus_lt a b h = rw (lt-leb b a h)

pub nat_less : (w t : ℕ) → t ≤ w → pos w -ℤ pos t ≡ pos (w - t)
nat_less w zero h = ap pos (omega arith)
nat_less w (suc t) h = rw (le-ltb w (suc t) h)

pub nat_more : (w t : ℕ) → w < t → pos w -ℤ pos t ≡ negsuc (t - suc w)
nat_more w zero h = absurd (omega arith)
nat_more w (suc t) h = rw (lt-ltb w (suc t) h)

-- the library's two ways to say it
pub minus_is : (a b : ℕ) → pos a -ℤ pos b ≡ minus a b
minus_is a b = by_larger a b (pos a -ℤ pos b ≡ minus a b) (λ h. nat_less a b h ∙ sym (minus_ge a b h)) (λ h. nat_more a b h ∙ sym (minus_lt a b h))

-- ---- of two integers
pub gap_above : (a b : ℤ) (k : ℕ) → a -ℤ b ≡ pos k → a ≡ b +ℤ pos k
gap_above a b k e = sym (-ℤ-+ℤ_cancel a b) ∙ ap (λ (z : ℤ). z +ℤ b) e ∙ +ℤ_comm (pos k) b

-- the larger one first
pub record Gap (a b : ℤ) : Type 0 where
  pub gap : ℕ
  pub is : a -ℤ b ≡ pos gap
  pub few : gap ≤ suc (mag a + mag b)

pub gap_of : (a b : ℤ) → lt_z a b ≡ false → Gap a b
gap_of (pos m) (pos n) h = record { gap = m - n; is = nat_less m n (ltb-false m n h); few = omega arith }
gap_of (pos m) (negsuc n) h = record { gap = m + suc n; is = refl; few = omega arith }
gap_of (negsuc m) (pos n) h = let z : ◌≡◌ {A = ℕ} 0 1 = cc in absurd (omega arith)
gap_of (negsuc m) (negsuc n) h =
    let l : m ≤ n = ltb-false n m h in
    record { gap = suc n - suc m; is = rw (le-ltb (suc n) (suc m) (omega arith)); few = omega arith }

-- ---- at a width whose signed numbers hold both
module _ (w : Width) (a b : ℕ) (h : a < 2 ^ hbits w) (k : b < 2 ^ hbits w) where
  signed_minus : to_z w a -ℤ to_z w b ≡ minus a b
  signed_minus = ap₂ (λ (x y : ℤ). x -ℤ y) (to_z_pos w h) (to_z_pos w k) ∙ minus_is a b

  pub minus_fits : SFits w (minus a b)
  minus_fits =
      by_larger a b (SFits w (minus a b))
      (λ l. rw (minus_ge a b l) (record { sfits = omega arith }))
      (λ l. rw (minus_lt a b l) (record { sfits = omega arith }))

  pub difference_fits : SFits w (to_z w a -ℤ to_z w b)
  difference_fits = rw signed_minus minus_fits

  pub difference_is : to_z w (of_z w (to_z w a -ℤ to_z w b)) ≡ minus a b
  difference_is = to_z-of_z difference_fits ∙ signed_minus

-- ---- a number of 32 bits, as it is read back
pub read_back : (z : ℤ) → mag z < 2 ^ hbits w32 → to_z w32 (of_z w32 z) ≡ z
read_back z h = to_z-of_z {w = w32} (record { sfits = h })

-- ---- a number of 32 bits, at 64
pub widened : (z : ℤ) → mag z < 2 ^ hbits w32 → SFits w64 (to_z w32 (of_z w32 z)) × (to_z w64 (of_z w64 (to_z w32 (of_z w32 z))) ≡ z)
widened z h =
    let w : SFits w64 z = sfits_widen {w = w32} tt (record { sfits = h }) in
    rw (read_back z h) (w, to_z-of_z w)
