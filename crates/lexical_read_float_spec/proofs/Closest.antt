-- `closest a b` is the whole number closest to a / b, the even one of two: the claims about nearness on which the laws of rounding rest.
-- Nothing here is about floats. Assumes nothing.
use mathlib.Core.Path.{◌≡◌, refl}
use mathlib.Core.Logic.{◌≢◌}
use mathlib.Core.Bool.{not}
use Prim.Native.Nat.{ℕ, zero, suc, ◌+◌, ◌*◌, ◌/◌, ◌%◌, ◌≤◌, ◌<◌, compare, Ordering}
use native.Mathlib.Nat.{le_refl, le_antisymm, le_of_suc-le-suc, lt_of_not-le, suc-mul, mul-le-mul_right, mod-lt, div-add-mod'}
use native.Mathlib.Omega.{arith}
use lib.Dec.{T, is_le, compare_is_eq, leb→le, nleb→lt, eqb→eq, eqb_refl}
use lib.Arith.{lt_of_le-ne}
use lib.Ieee.{nearest}
use lib.Ieee.Nearest.{closest}
use Rattle.lexical_read_float_spec.specs.Round.{apart}

-- ---- what `compare` says
abbrev Compared : Ordering → ℕ → ℕ → Type 0
Compared Ordering.lt a b = a < b
Compared Ordering.eq a b = a ≡ b
Compared Ordering.gt a b = b < a

compared : (a b : ℕ) → Compared (compare a b) a b
compared a b = go (compare a b) (leb→le a b) (nleb→lt a b) (eqb→eq a b) (λ (e : a ≡ b). rw e (eqb_refl b))
  where
    go : (o : Ordering) → (T (is_le o) → a ≤ b) → (T (not (is_le o)) → b < a) → (T (compare_is_eq o) → a ≡ b) → (a ≡ b → T (compare_is_eq o)) → Compared o a b
    go Ordering.lt h k e n = lt_of_le-ne (h tt) n
    go Ordering.eq h k e n = e tt
    go Ordering.gt h k e n = k tt

-- ---- q is closest to a / b: within a half of it, and even at exactly a half
pub record Closest (a b q : ℕ) : Type 0 where
  pub within : 2 * apart a (q * b) ≤ b
  pub even : 2 * apart a (q * b) ≡ b → q % 2 ≡ 0

-- a whole part w and what is left, r, below, above or at a half
module _ (a b w r : ℕ) (is : w * b + r ≡ a) where
  down_to : r * 2 < b → Closest a b w
  down_to h = record { within = omega arith; even = λ e. absurd (omega arith) }

  up_to : r < b → b < r * 2 → Closest a b (suc w)
  up_to l h = let s = suc-mul w b in record { within = omega arith; even = λ e. absurd (omega arith) }

  to_even : r * 2 ≡ b → Closest a b (w + w % 2)
  to_even h = go (w % 2) refl
    where
      go : (v : ℕ) → w % 2 ≡ v → Closest a b (w + v)
      go zero e = record { within = omega arith; even = λ t. omega arith }
      go (suc v) e =
          let s = suc-mul w b in
          let up : w + suc v ≡ suc w = omega arith in
          rw up (record { within = omega arith; even = λ t. omega arith })

pub closest_is : (a b : ℕ) → 0 < b → Closest a b (closest a b)
closest_is a b B = go (compare (a % b * 2) b) (compared (a % b * 2) b)
  where
    go : (o : Ordering) → Compared o (a % b * 2) b → Closest a b (nearest (a / b) o)
    go Ordering.lt h = down_to a b (a / b) (a % b) (div-add-mod' a b) h
    go Ordering.eq h = to_even a b (a / b) (a % b) (div-add-mod' a b) h
    go Ordering.gt h = up_to a b (a / b) (a % b) (div-add-mod' a b) (mod-lt a B) h

-- ---- whole numbers within a half of a / b
next : (b x y : ℕ) → x < y → x * b + b ≤ y * b
next b x y h = rw suc-mul at (mul-le-mul_right b h)

pub at_most : (a b q m : ℕ) → 2 * apart a (q * b) ≤ b → a < m * b → q ≤ m
at_most a b q m w h = le_of_suc-le-suc (lt_of_not-le (λ (g : m < q). let n = next b m q g in omega arith))

pub at_least : (a b q m : ℕ) → 0 < b → 2 * apart a (q * b) ≤ b → m * b ≤ a → m ≤ q
at_least a b q m B w h = le_of_suc-le-suc (lt_of_not-le (λ (g : q < m). let n = next b q m g in omega arith))

-- two of them stand next to each other, a / b halfway between
halfway : (a b x y : ℕ) → 0 < b → 2 * apart a (x * b) ≤ b → 2 * apart a (y * b) ≤ b → x < y → (y ≡ suc x) × (2 * apart a (x * b) ≡ b) × (2 * apart a (y * b) ≡ b)
halfway a b x y B v w h =
    let n = next b x y h in
    (le_antisymm (at_most a b y (suc x) w (rw suc-mul (omega arith))) h, omega arith, omega arith)

-- ---- no whole number lies nearer than q, and where another one lies as near, q is even and the other odd
pub least : (a b q z : ℕ) → Closest a b q → apart a (q * b) ≤ apart a (z * b)
least a b q z c = go (compare z q) (compared z q)
  where
    go : (o : Ordering) → Compared o z q → apart a (q * b) ≤ apart a (z * b)
    go Ordering.lt h = let n = next b z q h in omega arith
    go Ordering.eq h = rw h (le_refl (apart a (q * b)))
    go Ordering.gt h = let n = next b q z h in omega arith

pub tie : (a b q z : ℕ) → 0 < b → Closest a b q → z ≢ q → 2 * apart a (z * b) ≤ b → (q % 2 ≡ 0) × (z % 2 ≡ 1)
tie a b q z B c d w = go (compare z q) (compared z q)
  where
    go : (o : Ordering) → Compared o z q → (q % 2 ≡ 0) × (z % 2 ≡ 1)
    go Ordering.lt h =
        let m = halfway a b z q B w c.within h in
        let e = c.even m.2 in
        (e, omega arith)
    go Ordering.eq h = absurd (d h)
    go Ordering.gt h =
        let m = halfway a b q z B c.within w h in
        let e = c.even m.1 in
        (e, omega arith)
