-- Filling from the back, over the radix: one store, and the wanted bytes W, of which the last digits of v are not there yet. Assumes nothing.
use Prim.Native.Nat.{ℕ, zero, suc, ◌+◌, ◌-◌, ◌*◌, ◌/◌, ◌%◌, ◌^◌, ◌≤◌, ◌<◌}
use mathlib.Core.Path.{◌≡◌, sym, ◌∙◌}
use mathlib.Core.List.{List, ◌∷◌, ◌++◌, append_assoc}
use native.Mathlib.Nat.{lt-suc_self, one-mul, mod-eq_of_lt, mod-lt, lt_of_lt_of_le}
use native.Mathlib.Omega.{arith}
use mir.Syntax.{w8}
use mir.Val.{Fits}
use lib.Bits.{bit_and, and_le_r, and_mask}
use lib.ListN.{length, drop, set, length-set}
use lib.Pow.{pow-lt, pow_pos, pow_mono}
use lib.Seq.{drop-cons, get_or-set_same, drop-set-lt}
use Rattle.lexical_util.specs.Digit.{digit_byte}
use Rattle.lexical_write_integer_spec.specs.Write.{last_numeral}

drop_set_here : (l : List ℕ) (j d : ℕ) → j < length l → drop j (set l j d) ≡ d ∷ drop (suc j) l
drop_set_here l j d h =
    drop-cons (set l j d) j 0 (rw length-set h)
    ∙ rw (get_or-set_same l j d 0 h, drop-set-lt (suc j) l j d (lt-suc_self j))

-- the last of i digits of v is stored, and the others, which are its quotient's, are left
pub back_step : (r v : ℕ) (W out : List ℕ) (i d : ℕ) → 0 < i → i ≤ length out → d ≡ digit_byte (v % r)
    → W ≡ last_numeral r i v ++ drop i out → W ≡ last_numeral r (i - 1) (v / r) ++ drop (i - 1) (set out (i - 1) d)
unfolding last_numeral
back_step r v W out zero d p q e w = absurd (omega arith)
back_step r v W out (suc i) d p q e w =
    let s : suc i - 1 ≡ i = omega arith in
    rw (s, drop_set_here out i d (omega arith), e) (w ∙ rw append_assoc)

-- no digit is left
pub back_end : (r v : ℕ) (W out : List ℕ) (i : ℕ) → i ≡ 0 → W ≡ last_numeral r i v ++ drop i out → out ≡ W
unfolding last_numeral
back_end r v W out i z w = sym (w ∙ rw z)

-- ---- radix 2 ^ b
-- the code's shift is the radix
pub shifted : (b : ℕ) → b < 64 → (1 * 2 ^ b) % 2 ^ 64 ≡ 2 ^ b
shifted b h = rw one-mul (mod-eq_of_lt {n = 2 ^ b} {m = 2 ^ 64} (pow-lt {i = b} {j = 64} h))

pub mask_is : (b : ℕ) → b < 64 → (1 * 2 ^ b) % 2 ^ 64 - 1 + 1 ≡ 2 ^ b
mask_is b h = omega (arith, shifted b h, pow_pos b)

-- what the mask keeps is the remainder
pub masked : (b v m : ℕ) → m + 1 ≡ 2 ^ b → bit_and v m ≡ v % 2 ^ b
masked b v m e = let z : m ≡ 2 ^ b - 1 = omega arith in rw z (and_mask v b)

pub radix_le : (b : ℕ) → b ≤ 5 → 2 ^ b ≤ 32
radix_le b h = pow_mono {i = b} {j = 5} h

pub masked_lt : (b v m : ℕ) → b ≤ 5 → m + 1 ≡ 2 ^ b → bit_and v m < 32
masked_lt b v m h e = rw (masked b v m e) (lt_of_lt_of_le (mod-lt v {m = 2 ^ b} (pow_pos b)) (radix_le b h))

-- whatever a mask below 32 keeps is a digit, and fits a byte
pub kept_lt : (v m : ℕ) → m ≤ 31 → bit_and v m < 32
kept_lt v m h = omega (arith, and_le_r v m)

pub kept_fits : (v m : ℕ) → m ≤ 31 → Fits w8 (bit_and v m)
kept_fits v m h = omega (arith, and_le_r v m)
