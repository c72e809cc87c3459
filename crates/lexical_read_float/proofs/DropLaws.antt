-- How many bits rounding drops of a number and what it keeps, from the number's leading bits: at least one more than the width keeps. One proof for both widths. Assumes nothing.
use Prim.Native.Nat.{ℕ, suc, ◌+◌, ◌-◌, ◌*◌, ◌/◌, ◌^◌, ◌≤◌, ◌<◌}
use mathlib.Core.Path.{◌≡◌, ◌∙◌}
use mathlib.Core.Bool.{Bool}
use native.Mathlib.Nat.{le_trans, le-add_right, lt_of_lt_of_le, lt_of_not-le, mul_assoc, mul-le-mul_right, mul-pos, le-div_iff_mul-le, div-lt_iff_lt-mul, pow-succ'}
use native.Mathlib.Decide.{dec_le}
use native.Mathlib.Omega.{arith}
use lib.Arith.{digits_lt}
use lib.Pow.{pow-add, pow_pos, pow_mono, shl_lt}
use lib.Ieee.{Format, prec, low, size}
use lib.Ieee.Digits.{size-lt, size-le, size_reaches}
use lib.Ieee.Nearest.{closest, closest_same}
use lib.Ieee.Order.{drop, kept}
use Rattle.lexical_exponent.proofs.PowerLaws.{size_more, size_pos}
use Rattle.lexical_read_float_spec.proofs.Closest.{closest_is}
use Rattle.lexical_read_float.specs.Guard.{Leading, is_clear, guarded}
use Rattle.lexical_read_float.specs.Pattern.{lift, below_guard}
use Rattle.lexical_read_float.proofs.GuardLaws.{fewer, closest_unique, guarded_closest}

-- ---- the size of a shifted number
size_shifted : (n s i j : ℕ) → 2 ^ (s - 1) ≤ n → n < 2 ^ s → size (n * 2 ^ i / 2 ^ j) ≡ s + i - j
size_shifted n s i j lo hi =
    let x = n * 2 ^ i / 2 ^ j in
    let most : size x ≤ s + i - j = size-le x (s + i - j) ((div-lt_iff_lt-mul (pow_pos j)).1 (rw (← pow-add 2 (s + i - j) j) (lt_of_lt_of_le (shl_lt s i hi) (pow_mono (omega arith))))) in
    elim (dec_le (s + i) j) [
      | yes h ↦ omega arith
      | no h ↦
          let g : j < s + i = lt_of_not-le h in
          let m : 2 ^ (s - 1 + i) ≤ n * 2 ^ i = rw (pow-add 2 (s - 1) i) (mul-le-mul_right (2 ^ i) lo) in
          let r : 2 ^ (s + i - j - 1) ≤ x = (le-div_iff_mul-le (pow_pos j)).1 (rw (← pow-add 2 (s + i - j - 1) j) (le_trans (pow_mono (omega arith)) m)) in
          let l = size_more x (s + i - j - 1) r in
          omega arith
    ]

size_leading : (n k bits i j : ℕ) (clear : Bool) → 0 < bits → Leading n (2 ^ k) bits clear → size (n * 2 ^ i / 2 ^ j) ≡ size bits + k + i - j
size_leading n k bits i j clear B l =
    let s = size bits in
    let e = l.is in
    let S = size_pos bits B in
    let up : s + k - 1 ≡ s - 1 + k = omega arith in
    let lo : 2 ^ (s + k - 1) ≤ n = rw (up, pow-add 2 (s - 1) k, e) (le_trans (mul-le-mul_right (2 ^ k) (size_reaches bits (s - 1) (omega arith))) (le-add_right (bits * 2 ^ k) l.rest)) in
    let hi : n < 2 ^ (s + k) = rw (pow-add 2 s k, e) (digits_lt (size-lt bits) l.small) in
    size_shifted n (s + k) i j lo hi

-- ---- of n * 2 ^ i / 2 ^ j, in units of the width's least value
module _ (f : Format) (n k bits : ℕ) (clear : Bool) (i j : ℕ) (l : Leading n (2 ^ k) bits clear) (long : 2 ^ prec f ≤ bits) where
  abbrev count : ℕ
  count = below_guard f bits (k + i) j

  least : n * 2 ^ i * 2 ^ low f ≡ n * 2 ^ (i + low f)
  least = rw (mul_assoc n (2 ^ i) (2 ^ low f), ← pow-add 2 i (low f))

  pub drop_is : drop (prec f) (n * 2 ^ i * 2 ^ low f) (2 ^ j) ≡ lift f bits (k + i) j
  unfolding lift
  drop_is =
      let s = size_leading n k bits (i + low f) j clear (lt_of_lt_of_le (pow_pos (prec f)) long) l in
      rw (least, s) (omega arith)

  -- what is dropped reaches into the bits
  reaches : j + lift f bits (k + i) j ≡ i + low f + suc (k + count)
  unfolding lift below_guard
  reaches = let s = size_more bits (prec f) long in omega arith

  unit : 2 ^ j * 2 ^ lift f bits (k + i) j ≡ 2 ^ (i + low f) * (2 * 2 ^ (k + count))
  unit = rw (← pow-add 2 j (lift f bits (k + i) j), reaches, pow-add 2 (i + low f) (suc (k + count)), pow-succ' 2 (k + count))

  leading : Leading n (2 ^ (k + count)) (bits / 2 ^ count) (is_clear clear bits count)
  leading = fewer n k bits clear count l

  pub kept_is : kept (prec f) (n * 2 ^ i * 2 ^ low f) (2 ^ j) ≡ guarded (bits / 2 ^ count) (is_clear clear bits count)
  kept_is =
      let u = 2 * 2 ^ (k + count) in
      let U : 0 < u = omega (arith, pow_pos (k + count)) in
      rw (drop_is, least, unit)
      (closest_same (n * 2 ^ (i + low f)) (2 ^ (i + low f) * u) n u (mul-pos (pow_pos (i + low f)) U) U (mul_assoc n (2 ^ (i + low f)) u)
      ∙ closest_unique n u (closest n u) _ U (closest_is n u U) (guarded_closest n (2 ^ (k + count)) _ _ leading))
