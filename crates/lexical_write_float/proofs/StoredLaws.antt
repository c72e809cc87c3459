-- Numbers as the code holds them: an exponent in 32 bits, and a unit and its mask in 64. Assumes nothing.
use Prim.Native.Nat.{ℕ, zero, suc, ◌+◌, ◌-◌, ◌*◌, ◌%◌, ◌≤◌, ◌<◌, ◌^◌}
use mathlib.Core.Path.{◌≡◌}
use native.Mathlib.Nat.{mod-lt}
use native.Mathlib.Omega.{arith}
use lib.IntN.{ℤ, pos, negsuc, ◌+ℤ◌}
use lib.Signed.{mag}
use lib.Bits.{bit_and}
use lib.Ieee.{size}
use lib.Ieee.Digits.{size-le}
use Rattle.lexical_exponent.specs.Exponent.{clamped, scale}
use Rattle.lexical_exponent.proofs.ExponentLaws.{clamped_is}
use Rattle.lexical_write_float_spec.specs.Range.{Between}
use Rattle.lexical_write_integer.proofs.FillLaws.{shifted, masked}
use lib.Pow.{pow-lt, pow_pos}
use Rattle.lexical_write_float_spec.proofs.Integers.{between_more, between_wider}

-- ---- an exponent that is not far from 0, and some bits higher, is within what 32 bits hold
near_few : (least most : ℕ) (e : ℤ) → least ≤ 20000 → most ≤ 20000 → Between least most e → mag e < 2147483648
near_few least most (pos n) l m h = omega arith
near_few least most (negsuc n) l m h = omega arith

pub near_held : (least most : ℕ) (e : ℤ) → least ≤ 20000 → most ≤ 20000 → Between least most e → clamped e ≡ e
near_held least most e l m h = clamped_is e (near_few least most e l m h)

pub raised_is : (e : ℤ) (n : ℕ) → Between 8000 8000 e → n ≤ 64 → clamped (e +ℤ pos n) ≡ e +ℤ pos n
raised_is e n h l = near_held 8000 (8000 + n) (e +ℤ pos n) (omega arith) (omega arith) (between_more 8000 8000 n e h)

pub scale_held : (m : ℕ) (e : ℤ) → m < 2 ^ 60 → Between 8000 8000 e → clamped (scale m e) ≡ scale m e
scale_held zero e h n = clamped_is (pos 0) (omega arith)
scale_held (suc m) e h n = raised_is e (size (suc m) - 1) n (omega (arith, size-le (suc m) 60 h))

pub raised_near : (e : ℤ) (n : ℕ) → Between 4000 4000 e → n ≤ 64 → Between 8000 8000 (e +ℤ pos n)
raised_near e n h l = between_wider 4000 (4000 + n) 8000 8000 (e +ℤ pos n) (omega arith) (omega arith) (between_more 4000 4000 n e h)

-- 1 << cut, and the bits below it
module _ (m cut : ℕ) (h : cut < 60) where
  abbrev coded_unit : ℕ
  coded_unit = 1 * 2 ^ cut % 18446744073709551616

  pub unit_is : (coded_unit ≡ 2 ^ cut) × (0 < 2 ^ cut) × (2 ^ cut < 1152921504606846976)
  unit_is = let l : 2 ^ cut < 1152921504606846976 = pow-lt {i = cut} {j = 60} h in (shifted cut (omega arith), pow_pos cut, l)

  pub rest_is : (bit_and m (coded_unit - 1) ≡ m % 2 ^ cut) × (m % 2 ^ cut < 2 ^ cut)
  rest_is = (masked cut m (coded_unit - 1) (omega (arith, unit_is.0, unit_is.1)), mod-lt m (pow_pos cut))
