-- The last bit of a float that is z * 2 ^ k of the smallest value: it is z's, where z has the digits that the width keeps or is the next power of two. Assumes nothing.
use mathlib.Core.Path.{◌≡◌, refl, ap}
use mathlib.Core.Logic.{inl, inr}
use mathlib.Core.Bool.{Bool, true, false, cond}
use Prim.Native.Nat.{ℕ, suc, ◌+◌, ◌-◌, ◌*◌, ◌/◌, ◌%◌, ◌^◌, ◌≤◌, ◌<◌}
use native.Mathlib.Nat.{le_refl, eq-or-lt_of_le, eq-zero-or-pos, mul-le-mul_right, mul-div_cancel, mul_comm, dvd-mul_left_of_dvd, dvd_of_mod-eq-zero, mod-eq-zero_of_dvd}
use native.Mathlib.Omega.{arith}
use lib.Pow.{pow-add, pow_pos, pow-lt, shl_lt}
use lib.Ieee.{Float, Format, binary32, binary64, prec, low, size, hid, top, ones, to_bits}
use lib.Ieee.Digits.{size-le}
use lib.Ieee.Exact.{HasValue}
use lib.Ieee.Fits.{two, two-le_pos}
use Rattle.lexical_exponent.proofs.PowerLaws.{size_more}
use Rattle.lexical_float.proofs.FloatLaws.{bits_of_value}

-- ---- the leading p digits of z * 2 ^ k
pub digits_dropped : (p z k : ℕ) → 0 < p → z < 2 ^ p → (0 < k → 2 ^ (p - 1) ≤ z) → size (z * 2 ^ k) - p ≡ k
digits_dropped p z k P h l =
    let m : size (z * 2 ^ k) ≤ p + k = size-le (z * 2 ^ k) (p + k) (shl_lt p k h) in
    elim (eq-zero-or-pos k) [
      | inl e ↦ omega arith
      | inr K ↦ let g : p - 1 + k < size (z * 2 ^ k) = size_more (z * 2 ^ k) (p - 1 + k) (rw pow-add (mul-le-mul_right (2 ^ k) (l K))) in omega arith
    ]

leading : (p z k : ℕ) → 0 < p → z < 2 ^ p → (0 < k → 2 ^ (p - 1) ≤ z) → z * 2 ^ k / 2 ^ (size (z * 2 ^ k) - p) ≡ z
leading p z k P h l = rw (digits_dropped p z k P h l) (mul-div_cancel z (pow_pos k))

-- 2 ^ p itself is 2 ^ (p - 1) * 2
pub double : (p k : ℕ) → 0 < p → 2 ^ p * 2 ^ k ≡ 2 ^ (p - 1) * 2 ^ suc k
double p k P = rw (← pow-add 2 p k, ← pow-add 2 (p - 1) (suc k)) (ap (λ (x : ℕ). 2 ^ x) (omega arith))

parity : (p z k : ℕ) → 0 < p → 2 ^ (p - 1) % 2 ≡ 0 → z ≤ 2 ^ p → (0 < k → 2 ^ (p - 1) ≤ z) → z * 2 ^ k / 2 ^ (size (z * 2 ^ k) - p) % 2 ≡ z % 2
parity p z k P E h l = elim (eq-or-lt_of_le h) [
  | inl e ↦
      let t = double p 0 P in
      let s : p - 1 < p = omega arith in
      rw (e, double p k P, leading p (2 ^ (p - 1)) (suc k) P (pow-lt s) (λ K. le_refl (2 ^ (p - 1)))) (omega arith)
  | inr g ↦ ap (λ (x : ℕ). x % 2) (leading p z k P g l)
]

-- ---- a float's bit pattern
even_times : (a k : ℕ) → a % 2 ≡ 0 → k * a % 2 ≡ 0
even_times a k h = mod-eq-zero_of_dvd 2 (dvd-mul_left_of_dvd 2 (dvd_of_mod-eq-zero 2 h) k)

hid_even : (f : Format) → hid f % 2 ≡ 0
hid_even binary32 = refl
hid_even binary64 = refl

sign_even : (f : Format) (s : Bool) → cond s (top f) 0 % 2 ≡ 0
sign_even f true = rw (mul_comm (hid f) (suc (ones f))) (even_times (hid f) (suc (ones f)) (hid_even f))
sign_even f false = refl

sum_parity : (a b c d : ℕ) → a % 2 ≡ 0 → b % 2 ≡ 0 → c % 2 ≡ d % 2 → (a + b + c) % 2 ≡ d % 2
sum_parity a b c d h k e = omega arith

pub last_bit : (f : Format) (s : Bool) (x : Float) (z k : ℕ) → z ≤ 2 ^ prec f → (0 < k → 2 ^ (prec f - 1) ≤ z) → HasValue x s (z * 2 ^ k) (2 ^ low f) → to_bits f x % 2 ≡ z % 2
last_bit f s x z k h l v =
    rw (bits_of_value f s x (z * 2 ^ k) (2 ^ low f) (pow_pos (low f)) v, mul-div_cancel (z * 2 ^ k) (pow_pos (low f)))
    (sum_parity (cond s (top f) 0) ((size (z * 2 ^ k) - prec f) * hid f) (z * 2 ^ k / 2 ^ (size (z * 2 ^ k) - prec f)) z (sign_even f s)
    (even_times (hid f) (size (z * 2 ^ k) - prec f) (hid_even f)) (parity (prec f) z k (two-le_pos (prec f) (two f)) (hid_even f) h l))
