-- The bit pattern of a rounded fraction is the digits dropped times the hidden bit, and the number kept, and it tells which fractions are too large. One proof for both widths and both signs.
-- Assumes nothing.
use Prim.Native.Nat.{ℕ, suc, ◌+◌, ◌-◌, ◌*◌, ◌/◌, ◌^◌, ◌≤◌, ◌<◌}
use mathlib.Core.Path.{◌≡◌, sym, ap, ◌∙◌}
use mathlib.Core.Logic.{inl, inr}
use mathlib.Core.Bool.{Bool, true, false, cond}
use native.Mathlib.Nat.{le_refl, eq-or-lt_of_le, zero-add, add_assoc, add-mul, mul-div_cancel, suc-mul}
use native.Mathlib.Omega.{arith}
use lib.Dec.{leb}
use lib.Pow.{pow_pos, pow-lt}
use lib.Ieee.{Format, prec, low, size, round, hid, ones, top, of_bits}
use lib.Ieee.Bits.{of_bits-to_bits}
use lib.Ieee.Fits.{two, reach, round-fits}
use lib.Ieee.Scale.{grid}
use Rattle.lexical_float.specs.Encoding.{bits_of}
use Rattle.lexical_float.proofs.FloatLaws.{bits_of_value}
use Rattle.lexical_read_float_spec.specs.Round.{too_large}
use Rattle.lexical_read_float_spec.proofs.Rounded.{kept_range}
use Rattle.lexical_read_float_spec.proofs.LastBit.{digits_dropped, double}
use Rattle.lexical_read_float_spec.proofs.Edge.{positive, dropped, keeps, rounding, top_place, too_large_is, round_value}
use Rattle.lexical_read_float.specs.Pattern.{infinity}

-- ---- the pattern of z * 2 ^ k units, z having at most p digits or being 2 ^ p
abbrev pattern_of : ℕ → ℕ → ℕ
pattern_of p n = (size n - p) * 2 ^ (p - 1) + n / 2 ^ (size n - p)

short : (p z k : ℕ) → 0 < p → z < 2 ^ p → (0 < k → 2 ^ (p - 1) ≤ z) → pattern_of p (z * 2 ^ k) ≡ k * 2 ^ (p - 1) + z
short p z k P h l = rw (digits_dropped p z k P h l, mul-div_cancel z (pow_pos k))

pattern_is : (p z k : ℕ) → 0 < p → z ≤ 2 ^ p → (0 < k → 2 ^ (p - 1) ≤ z) → pattern_of p (z * 2 ^ k) ≡ k * 2 ^ (p - 1) + z
pattern_is p z k P h l = elim (eq-or-lt_of_le h) [
  | inl e ↦
      let t = double p 0 P in
      let s : p - 1 < p = omega arith in
      rw (e, double p k P, short p (2 ^ (p - 1)) (suc k) P (pow-lt s) (λ K. le_refl (2 ^ (p - 1)))) (omega (arith, suc-mul k (2 ^ (p - 1))))
  | inr g ↦ short p z k P g l
]

-- with the sign above it
signed_pattern : (f : Format) (s : Bool) (p q n : ℕ) → p + q ≡ n → cond s (top f) 0 + p + q ≡ bits_of f s n
signed_pattern f true p q n e = add_assoc (top f) p q ∙ ap (λ (k : ℕ). top f + k) e
signed_pattern f false p q n e = rw zero-add e

pub round_bits : (f : Format) (s : Bool) (a c : ℕ) → 0 < c → too_large f a c ≡ false → round f s a c ≡ of_bits f (bits_of f s (dropped f a c * hid f + keeps f a c))
round_bits f s a c C h =
    let r = rounding f a c C in
    let g = kept_range (positive f) C r (keeps f a c) r.closest.within in
    sym (of_bits-to_bits f (round f s a c) (round-fits f s a c))
    ∙ ap (of_bits f)
    (rw (bits_of_value f s (round f s a c) (grid f a c) (2 ^ low f) (pow_pos (low f)) (round_value f a c C s h), mul-div_cancel (grid f a c) (pow_pos (low f)))
    (signed_pattern f s _ _ _ (pattern_is (prec f) (keeps f a c) (dropped f a c) (positive f) g.0 g.1)))

-- ---- the test on the pattern
infinity_is : (f : Format) → infinity f ≡ top_place f * hid f + 2 * hid f
infinity_is f =
    let s : ones f ≡ top_place f + 2 = omega (arith, two f, reach f) in
    rw (← add-mul (top_place f) 2 (hid f), ← s)

pub too_large_bits : (f : Format) (a c : ℕ) → 0 < c → too_large f a c ≡ leb (infinity f) (dropped f a c * hid f + keeps f a c)
too_large_bits f a c C = rw (infinity_is f) (too_large_is f a c C).1
