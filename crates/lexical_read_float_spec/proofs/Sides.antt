-- On which side of the top edge a rounded fraction lies: the fraction, the number that it rounds to and that number's bit pattern agree.
-- The fraction is n / den and rounds to q * 2 ^ k. The range ends at 2 ^ p steps of 2 ^ K, and its edge lies half a step below. Nothing here is about floats. Assumes nothing.
use mathlib.Core.Path.{◌≡◌, subst}
use mathlib.Core.Logic.{◌⊎◌, inl, inr}
use Prim.Native.Nat.{ℕ, suc, ◌+◌, ◌-◌, ◌*◌, ◌^◌, ◌≤◌, ◌<◌}
use native.Mathlib.Nat.{le_trans, lt_of_le_of_lt, lt_of_not-le, eq-or-lt_of_le, one-mul, suc-mul, mul_left_comm, mul-pos, mul-le-mul_left, mul-le-mul_right, mul-lt-mul_of_pos_left, mul-lt-mul_of_pos_right, pow-succ'}
use native.Mathlib.Decide.{ℕ_discrete, dec_le}
use native.Mathlib.Omega.{arith}
use lib.Arith.{lt_of_le-ne}
use lib.Pow.{pow_pos, pow_mono, pow-lt}
use Rattle.lexical_read_float_spec.specs.Round.{apart}
use Rattle.lexical_read_float_spec.proofs.Rounded.{Rounded, kept_range}
use Rattle.lexical_read_float_spec.proofs.LastBit.{double}

abbrev pub Inside : ℕ → ℕ → ℕ → ℕ → ℕ → ℕ → Type 0
Inside p K n den k q =
    (2 * n + den * 2 ^ K < 2 * (2 ^ p * (den * 2 ^ K))) × (q * 2 ^ k < 2 ^ p * 2 ^ K) × (k * 2 ^ (p - 1) + q < K * 2 ^ (p - 1) + 2 * 2 ^ (p - 1))

abbrev pub Outside : ℕ → ℕ → ℕ → ℕ → ℕ → ℕ → Type 0
Outside p K n den k q =
    (2 * (2 ^ p * (den * 2 ^ K)) ≤ 2 * n + den * 2 ^ K) × (2 ^ p * 2 ^ K ≤ q * 2 ^ k) × (K * 2 ^ (p - 1) + 2 * 2 ^ (p - 1) ≤ k * 2 ^ (p - 1) + q)

module _ (p n den k q : ℕ) (P : 0 < p) (D : 0 < den) (r : Rounded p n den k q) where
  abbrev unit : ℕ
  unit = den * 2 ^ k

  range : (q ≤ 2 ^ p) × (0 < k → 2 ^ (p - 1) ≤ q)
  range = kept_range P D r q r.closest.within

  twice : 2 ^ p ≡ 2 * 2 ^ (p - 1)
  twice = let t = double p 0 P in omega arith

  finer : (K : ℕ) → k < K → Inside p K n den k q
  finer K h =
      let m = range.0 in
      let u : 2 * unit ≤ den * 2 ^ K = rw (mul_left_comm 2 den (2 ^ k), ← pow-succ' 2 k) (mul-le-mul_left den (pow_mono h)) in
      let x : 2 * (2 ^ p * unit) ≤ 2 ^ p * (den * 2 ^ K) = rw (mul_left_comm 2 (2 ^ p) unit) (mul-le-mul_left (2 ^ p) u) in
      let y : den * 2 ^ K ≤ 2 ^ p * (den * 2 ^ K) = rw one-mul at (mul-le-mul_right (den * 2 ^ K) (pow_pos p)) in
      let z = mul-le-mul_right (2 ^ (p - 1)) h in (
        omega (arith, r.below),
        lt_of_le_of_lt (mul-le-mul_right (2 ^ k) m) (mul-lt-mul_of_pos_left (pow-lt h) (pow_pos p)),
        omega (arith, twice, suc-mul k (2 ^ (p - 1)), pow_pos (p - 1)),
      )

  coarser : (K : ℕ) → K < k → Outside p K n den k q
  coarser K h =
      let k0 : 0 < k = omega arith in
      let m = range.1 k0 in
      let x : 2 ^ p * 2 ^ K ≤ 2 ^ (p - 1) * 2 ^ k = rw (double p K P) (mul-le-mul_left (2 ^ (p - 1)) (pow_mono h)) in
      let y : 2 ^ p * (den * 2 ^ K) ≤ 2 ^ (p - 1) * unit = rw (mul_left_comm (2 ^ p) den (2 ^ K), mul_left_comm (2 ^ (p - 1)) den (2 ^ k)) (mul-le-mul_left den x) in
      let z = mul-le-mul_right (2 ^ (p - 1)) h in
      (omega (arith, r.reached k0), le_trans x (mul-le-mul_right (2 ^ k) m), omega (arith, suc-mul K (2 ^ (p - 1))))

  -- at a tie q is even, and so two below 2 ^ p at least
  below : q < 2 ^ p → 2 * n + unit < 2 * (2 ^ p * unit)
  below h = elim (ℕ_discrete (2 * apart n (q * unit)) unit) [
    | yes e ↦
        let v = r.closest.even e in
        let s : suc (suc q) ≤ 2 ^ p = omega (arith, twice) in
        let m = mul-le-mul_right unit s in
        omega (arith, suc-mul (suc q) unit, suc-mul q unit, mul-pos D (pow_pos k))
    | no e ↦
        let w : 2 * apart n (q * unit) < unit = lt_of_le-ne r.closest.within e in
        let m = mul-le-mul_right unit h in
        omega (arith, suc-mul q unit)
  ]

  level : Inside p k n den k q ⊎ Outside p k n den k q
  level = elim (dec_le (2 ^ p) q) [
    | yes h ↦
        let w = r.closest.within in
        let m = mul-le-mul_right unit h in
        inr (omega arith, mul-le-mul_right (2 ^ k) h, omega (arith, twice))
    | no h ↦ let g : q < 2 ^ p = lt_of_not-le h in inl (below g, mul-lt-mul_of_pos_right g (pow_pos k), omega (arith, twice))
  ]

  pub sides : (K : ℕ) → Inside p K n den k q ⊎ Outside p K n den k q
  sides K = elim (dec_le k K) [
    | yes h ↦ elim (eq-or-lt_of_le h) [ inl e ↦ subst (λ (x : ℕ). Inside p x n den k q ⊎ Outside p x n den k q) e level | inr g ↦ inl (finer K g) ]
    | no h ↦ inr (coarser K (lt_of_not-le h))
  ]
