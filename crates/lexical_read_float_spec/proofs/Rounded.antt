-- What `round` keeps of a fraction is closest among all numbers t * 2 ^ j with t of at most p digits, and where another one is as close, what is kept is even and the other odd.
-- The fraction is n / den, in units of the format's smallest value. Nothing here is about floats. Assumes nothing.
use mathlib.Core.Path.{◌≡◌, ap, ◌∙◌}
use mathlib.Core.Logic.{◌≢◌, ◌⊎◌, inl, inr}
use Prim.Native.Nat.{ℕ, ◌+◌, ◌-◌, ◌*◌, ◌/◌, ◌%◌, ◌^◌, ◌≤◌, ◌<◌}
use native.Mathlib.Nat.{le_of_lt, lt_of_lt_of_le, lt_of_not-le, ne_of_lt, mul_assoc, mul_comm, mul_left_comm, mul-lt-mul_of_pos_right, mul-pos, le-div_iff_mul-le, div-lt_iff_lt-mul, div-div-eq-div-mul}
use native.Mathlib.Decide.{dec_le}
use native.Mathlib.Omega.{arith}
use lib.Pow.{pow-add, pow_pos, pow_mono, shl_lt}
use lib.Ieee.{size}
use lib.Ieee.Digits.{size_reaches, back}
use lib.Ieee.Fits.{kept-lt}
use lib.Ieee.Order.{drop, kept}
use Rattle.lexical_read_float_spec.specs.Round.{apart}
use Rattle.lexical_read_float_spec.proofs.Closest.{Closest, closest_is, at_most, at_least, least, tie}

-- what lies further below n lies further away
farther : (n y b d : ℕ) → y < b → b ≤ n → d ≤ apart n b → d < apart n y
farther n y b d l h g = omega arith

-- a multiple of 2 ^ j is one of a lower power
pub lower : (t j k : ℕ) → k ≤ j → t * 2 ^ j ≡ t * 2 ^ (j - k) * 2 ^ k
lower t j k h = rw (mul_assoc t (2 ^ (j - k)) (2 ^ k), ← pow-add 2 (j - k) k, back j k h)

-- k digits are dropped so that p are kept, and q is closest to the fraction in units of 2 ^ k
pub record Rounded (p n den k q : ℕ) : Type 0 where
  pub below : n < 2 ^ p * (den * 2 ^ k)
  pub reached : 0 < k → 2 ^ (p - 1) * (den * 2 ^ k) ≤ n
  pub closest : Closest n (den * 2 ^ k) q

pub rounded : (p n den : ℕ) → 0 < p → 0 < den → Rounded p n den (drop p n den) (kept p n den)
rounded p n den P D =
    let k = drop p n den in
    let U : 0 < den * 2 ^ k = mul-pos D (pow_pos k) in
    record {
      below = (div-lt_iff_lt-mul U).0 (rw (div-div-eq-div-mul n den (2 ^ k)) at (kept-lt p (n / den)));
      reached = λ (K : 0 < k).
          let s : p - 1 + k < size (n / den) = omega arith in
          simp mul_left_comm (simp (pow-add, mul_assoc, mul_comm, mul_left_comm) at ((le-div_iff_mul-le D).0 (size_reaches (n / den) (p - 1 + k) s)));
      closest = closest_is n (den * 2 ^ k) U;
    }

-- another number as close: it is z * 2 ^ k with an odd z, and q is even
pub record Tie (n den k q m : ℕ) : Type 0 where
  pub z : ℕ
  pub is : m ≡ z * 2 ^ k
  pub within : 2 * apart n (z * (den * 2 ^ k)) ≤ den * 2 ^ k
  pub even : q % 2 ≡ 0
  pub odd : z % 2 ≡ 1

module _ {p n den k q : ℕ} (P : 0 < p) (D : 0 < den) (r : Rounded p n den k q) where
  -- a number within half of a unit has p digits, or is 2 ^ p
  pub kept_range : (z : ℕ) → 2 * apart n (z * (den * 2 ^ k)) ≤ den * 2 ^ k → (z ≤ 2 ^ p) × (0 < k → 2 ^ (p - 1) ≤ z)
  kept_range z w = (at_most n (den * 2 ^ k) z (2 ^ p) w r.below, λ K. at_least n (den * 2 ^ k) z (2 ^ (p - 1)) (mul-pos D (pow_pos k)) w (r.reached K))

  regroup : (z : ℕ) → z * (den * 2 ^ k) ≡ z * 2 ^ k * den
  regroup z = simp (mul_assoc, mul_comm, mul_left_comm)

  -- t * 2 ^ j is a multiple of 2 ^ k, or it lies below the multiple 2 ^ (p - 1) * 2 ^ k, which the fraction reaches
  multiple : (t j : ℕ) → t < 2 ^ p → ((z : ℕ) × (t * 2 ^ j ≡ z * 2 ^ k)) ⊎ ((t * 2 ^ j * den < 2 ^ (p - 1) * 2 ^ k * den) × (2 ^ (p - 1) * 2 ^ k * den ≤ n))
  multiple t j T = elim (dec_le k j) [
    | yes h ↦ inl (t * 2 ^ (j - k), lower t j k h)
    | no h ↦
        let l : j < k = lt_of_not-le h in
        let s : p + j ≤ p - 1 + k = omega arith in
        let K : 0 < k = omega arith in
        inr (mul-lt-mul_of_pos_right (lt_of_lt_of_le (shl_lt p j T) (rw (pow-add 2 (p - 1) k) at (pow_mono s))) D, rw (regroup (2 ^ (p - 1))) at (r.reached K))
  ]

  least_multiple : (z : ℕ) → apart n (q * 2 ^ k * den) ≤ apart n (z * 2 ^ k * den)
  least_multiple z = rw (regroup q, regroup z) at (least n (den * 2 ^ k) q z r.closest)

  pub rounded_least : (t j : ℕ) → t < 2 ^ p → apart n (q * 2 ^ k * den) ≤ apart n (t * 2 ^ j * den)
  rounded_least t j T = elim (multiple t j T) [
    | inl m ↦ rw m.1 (least_multiple m.0)
    | inr l ↦ le_of_lt (farther n (t * 2 ^ j * den) (2 ^ (p - 1) * 2 ^ k * den) _ l.0 l.1 (least_multiple (2 ^ (p - 1))))
  ]

  pub rounded_tie : (t j : ℕ) → t < 2 ^ p → t * 2 ^ j ≢ q * 2 ^ k → apart n (q * 2 ^ k * den) ≡ apart n (t * 2 ^ j * den) → Tie n den k q (t * 2 ^ j)
  rounded_tie t j T d e = elim (multiple t j T) [
    | inl m ↦
        let z = m.0 in
        let same : apart n (q * (den * 2 ^ k)) ≡ apart n (z * (den * 2 ^ k)) = rw (regroup q, regroup z, ← m.1) e in
        let w : 2 * apart n (z * (den * 2 ^ k)) ≤ den * 2 ^ k = rw same at r.closest.within in
        let o = tie n (den * 2 ^ k) q z (mul-pos D (pow_pos k)) r.closest (λ g. d (m.1 ∙ ap (λ (x : ℕ). x * 2 ^ k) g)) w in
        record { z = z; is = m.1; within = w; even = o.0; odd = o.1 }
    | inr l ↦ absurd (ne_of_lt (farther n (t * 2 ^ j * den) (2 ^ (p - 1) * 2 ^ k * den) _ l.0 l.1 (least_multiple (2 ^ (p - 1)))) e)
  ]
