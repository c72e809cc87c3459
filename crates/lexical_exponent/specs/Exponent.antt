-- Significant bits and the three exponents of a value: document 01, "Float parts" and the s of "Layout". Definitions only.
use Rattle.std.specs.Prelude.{ℕ, zero, suc, ◌+◌, ◌-◌, ◌*◌, ◌/◌, ◌%◌, ◌≤◌, ◌<◌, min, Bool, true, false, cond, ℤ, pos, negsuc, neg_ℤ, nat_abs, ◌+ℤ◌, ◌-ℤ◌}
use Rattle.std.specs.Int.Signed.{shr_z, lt_z}
use Rattle.std.specs.Float.Ieee.{up, down, size}

-- significant bits of the mantissa
abbrev pub significant_bits : ℕ → ℕ
significant_bits m = size m

-- an exponent in bits as the code holds it, in 32 bits: from -2 ^ 31 to 2 ^ 31 - 1 it is itself, and past an end it is that end
abbrev pub clamped : ℤ → ℤ
clamped (pos n) = pos (min n 2147483647)
clamped (negsuc n) = negsuc (min n 2147483647)

-- ---- the three exponents of a value m * 2 ^ e
-- s, in bits: e + significant bits of the mantissa - 1; for zero 0
abbrev pub scale : ℕ → ℤ → ℤ
scale zero e = pos 0
scale (suc m) e = e +ℤ pos (significant_bits (suc m) - 1)

-- what s says of the value: it lies from 2 ^ s up to 2 ^ (s + 1). Both sides are multiplied to whole numbers; 2 ^ e is the fraction `up e / down e`.
pub record LeadingBit (m : ℕ) (e s : ℤ) : Type 0 where
  pub from : up s * down e ≤ m * up e * down s
  pub below : m * up e * down (s +ℤ pos 1) < up (s +ℤ pos 1) * down e

-- p, in digits of b bits: floor (s / b), toward minus infinity
abbrev pub place : ℕ → ℤ → ℤ
place b s = shr_z s b

-- p's sign
abbrev pub is_negative : ℤ → Bool
is_negative (pos n) = false
is_negative (negsuc n) = true

-- p * b / c, in powers of the base 2 ^ c: its magnitude; its sign is p's. It is whole, since c divides b in every pair.
abbrev pub power : ℕ → ℕ → ℤ → ℕ
power b c p = nat_abs p * b / c

-- ---- what a layout counts
-- e mod b: e less b times floor (e / b)
abbrev pub modulo : ℤ → ℕ → ℕ
modulo (pos k) b = k % b
modulo (negsuc k) b = b - suc (k % b)

-- negative layout: -p-1 zeros behind the point, by p's magnitude
abbrev pub zeros_behind_point : ℤ → ℕ
zeros_behind_point p = nat_abs p - 1

-- positive layout: p+1 places before the point
abbrev pub places_before_point : ℤ → ℕ
places_before_point p = nat_abs p + 1

-- how many bits an exponent e stands above another, d, and 0 where it does not
abbrev pub height_above : ℤ → ℤ → ℕ
height_above e d = cond (lt_z e d) 0 (nat_abs (e -ℤ d))

-- the integer of a sign and a magnitude, as a text has its exponent
abbrev pub signed : Bool → ℕ → ℤ
signed true n = neg_ℤ (pos n)
signed false n = pos n
