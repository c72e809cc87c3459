-- Powers of two and significant bits: what a power says of its exponent, and of how many bits a number has. Assumes nothing.
use Prim.Native.Nat.{ℕ, suc, ◌+◌, ◌^◌, ◌≤◌, ◌<◌}
use mathlib.Core.Path.{◌≡◌, ap, ◌∙◌}
use native.Mathlib.Nat.{le_antisymm, le_of_suc-le-suc, lt_of_not-le, not-le_of_lt, lt_of_lt_of_le, pow-succ'}
use native.Mathlib.Omega.{arith}
use lib.Count.{count_leading_zeros, leading_length}
use lib.Pow.{pow_mono, pow-lt, pow_pos}
use lib.Ieee.{size}
use lib.Ieee.Digits.{size-lt, size-le}

pub power_le : (a l : ℕ) → 2 ^ a ≤ 2 ^ l → a ≤ l
power_le a l h = le_of_suc-le-suc (lt_of_not-le (λ (g : l < a). not-le_of_lt (pow-lt g) h))

pub size_more : (n j : ℕ) → 2 ^ j ≤ n → j < size n
size_more n j h = lt_of_not-le (λ (g : size n ≤ j). not-le_of_lt (lt_of_lt_of_le (size-lt n) (pow_mono g)) h)

pub size_zero : size 0 ≡ 0
size_zero = omega (arith, size-le 0 0 (pow_pos 0))

pub size_pos : (n : ℕ) → 0 < n → 0 < size n
size_pos n h = size_more n 0 h

-- the width less the leading zeros is the size
pub leading_size : (w x : ℕ) → x < 2 ^ w → count_leading_zeros w x + size x ≡ w
leading_size w x h =
    let t = leading_length w x h in
    let few : t.0 ≤ size x = le_of_suc-le-suc (lt_of_not-le (λ (g : suc (size x) ≤ t.0). omega (arith, size-lt x, pow-succ' 2 (size x), pow_mono g, t.3))) in
    ap (λ (n : ℕ). count_leading_zeros w x + n) (le_antisymm (size-le x t.0 t.2) few) ∙ t.1
