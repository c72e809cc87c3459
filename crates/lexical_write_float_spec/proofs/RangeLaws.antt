-- The s of every value that is written lies from -1,074 to 1,024, and its mantissa below 2 ^ 54: of a float of either width, and after a digit limit. Assumes nothing.
use Prim.Native.Nat.{ℕ, zero, suc, ◌+◌, ◌-◌, ◌*◌, ◌/◌, ◌%◌, ◌^◌, ◌≤◌, ◌<◌, zero-le}
use mathlib.Core.Path.{◌≡◌, refl, sym, ap, ◌∙◌}
use mathlib.Core.Bool.{Bool}
use native.Mathlib.Nat.{suc-le-suc_iff, mul-le-mul_left, le_trans, le_of_eq, lt_of_lt_of_le, mul-one, div-le_self, div-lt_iff_lt-mul, zero-lt-suc, pow-suc}
use native.Mathlib.Omega.{arith}
use lib.Dec.{T, leb, ltb, eqb, lit≤, ltb→lt, leb→le, eqb→eq}
use lib.IntN.{ℤ, pos, negsuc, nat_abs, ◌+ℤ◌, +ℤ_assoc}
use lib.Pow.{pow-add, pow_pos, pow_mono}
use lib.Ieee.{fin, Format, binary32, binary64, prec, emax, low, up, down, size, fits}
use lib.Ieee.Digits.{size-lt, size-le}
use lib.Ieee.Fits.{and_l, and_r}
use Rattle.lexical_exponent.specs.Exponent.{scale, place}
use Rattle.lexical_exponent.proofs.ExponentLaws.{scale_is}
use Rattle.lexical_exponent.proofs.PowerLaws.{power_le, size_pos}
use Rattle.lexical_format.specs.declared.options.RoundMode.{RoundMode}
use Rattle.lexical_write_float_spec.specs.Value.{normal}
use Rattle.lexical_write_float_spec.specs.Range.{Between, Ranged}
use Rattle.lexical_write_float_spec.specs.Limit.{rounded, limited}
use Rattle.lexical_exponent.proofs.DifferenceLaws.{by_larger}
use Rattle.lexical_write_float_spec.proofs.Integers.{between_add, between_wider}
use Rattle.lexical_write_float_spec.proofs.ValueLaws.{size_under, is_normal, normal_odd, scale_normal}
use Rattle.lexical_write_float_spec.proofs.LimitLaws.{rounded_le, kept, limited_kept, limited_cut}

-- ---- a float of either width
widths : (f : Format) → (prec f ≤ 53) × (suc (emax f) ≤ 1024) × (low f ≤ 1074)
widths binary32 = (lit≤ tt, lit≤ tt, lit≤ tt)
widths binary64 = (lit≤ tt, lit≤ tt, lit≤ tt)

-- what `fits` says of a finite value that is not zero: m is odd and has at most 53 bits, and its s lies in the range of the width
pub record InRange (m : ℕ) (e : ℤ) : Type 0 where
  pub odd : m % 2 ≡ 1
  pub few : size m ≤ 53
  pub low_end : Between 1074 1023 e
  pub high_end : (n : ℕ) → e ≡ pos n → n + size m ≤ 1024

pub in_range : (f : Format) (s : Bool) (m : ℕ) (e : ℤ) → 0 < m → T (fits f (fin s m e)) → InRange m e
unfolding fits
in_range f s zero e M h = absurd (omega arith)
in_range f s (suc m) e M h =
    let A = eqb (suc m % 2) 1 in
    let B = ltb (suc m) (2 ^ prec f) in
    let C = leb (down e) (2 ^ low f) in
    let D = ltb (suc m * up e) (2 ^ suc (emax f) * down e) in
    let w = widths f in
    let few : size (suc m) ≤ 53 = le_trans (size-le (suc m) (prec f) (ltb→lt (suc m) (2 ^ prec f) (search (and_l, and_r)))) w.0 in
    let hi = ends e (leb→le (down e) (2 ^ low f) (search (and_l, and_r))) (ltb→lt (suc m * up e) (2 ^ suc (emax f) * down e) (search (and_l, and_r))) w in
    record { odd = eqb→eq (suc m % 2) 1 (search (and_l, and_r)); few = few; low_end = hi.0; high_end = hi.1 }
  where
    ends : (e : ℤ) → down e ≤ 2 ^ low f → suc m * up e < 2 ^ suc (emax f) * down e → (prec f ≤ 53) × (suc (emax f) ≤ 1024) × (low f ≤ 1074)
        → Between 1074 1023 e × ((n : ℕ) → e ≡ pos n → n + size (suc m) ≤ 1024)
    ends (pos k) lo hi w =
        let p = size_pos (suc m) (zero-lt-suc m) in
        let s = size_under (suc m) k (suc (emax f)) (zero-lt-suc m) (rw mul-one at hi) in
        (omega arith, λ n e. let same : k ≡ n = cc in omega arith)
    ends (negsuc k) lo hi w = (le_trans (power_le (suc k) (low f) lo) w.2, λ n e. absurd (let z : ◌≡◌ {A = ℕ} 0 1 = cc in omega arith))

float_ranged : (m : ℕ) (e : ℤ) → 0 < m → InRange m e → Ranged m e
float_ranged m e M r =
    let p = size_pos m M in
    record {
      few = lt_of_lt_of_le (size-lt m) (pow_mono {i = size m} {j = 54} (let q = r.few in omega arith));
      near = rw (scale_is m e M) (between_add 1074 1024 (size m - 1) e (between_wider 1074 1023 1074 1024 e (omega arith) (omega arith) r.low_end) (let q = r.few in omega arith) (λ n h. let q = r.high_end n h in omega arith));
    }

-- ---- a digit limit
-- c bits cut off, and the rest rounded: the leading bit moves up by one place at most
size_rounded : (mode : RoundMode) (m c : ℕ) → c ≤ size m → c + size (rounded mode m (2 ^ c)) ≤ size m + 1
size_rounded mode m c h =
    let q = rounded mode m (2 ^ c) in
    let n : ℕ = size m - c in
    let e : n + c ≡ size m = omega arith in
    let l : m / 2 ^ c < 2 ^ n = (div-lt_iff_lt-mul (pow_pos c)).1 (lt_of_lt_of_le (size-lt m) (le_of_eq (ap (λ (k : ℕ). 2 ^ k) (sym e) ∙ pow-add 2 n c))) in
    let w = rounded_le mode m (2 ^ c) in
    let v : q < 2 ^ suc n = omega (arith, pow-suc 2 n, pow_pos n) in
    omega (arith, size-le q (suc n) v)

-- some bits are cut off
cut_ranged : (m : ℕ) (e : ℤ) → InRange m e → (c q : ℕ) → c ≤ size m - 1 → c + size q ≤ size m + 1 → q ≤ suc m → Ranged (normal q (e +ℤ pos c)).m (normal q (e +ℤ pos c)).e
cut_ranged m e r c zero k s l = unfold normal in record { few = pow_pos 54; near = zero-le }
cut_ranged m e r c (suc q) k s l =
    let u : ℤ = e +ℤ pos c in
    let v = is_normal (suc q) u (zero-lt-suc q) in
    let p = size_pos (suc q) (zero-lt-suc q) in
    let d = r.few in
    let less : (normal (suc q) u).m ≤ suc q = le_trans (le_trans (le_of_eq (sym (mul-one (normal (suc q) u).m))) (mul-le-mul_left (normal (suc q) u).m (pow_pos v.shift))) (le_of_eq v.is) in
    let small : m < 2 ^ 53 = lt_of_lt_of_le (size-lt m) (pow_mono {i = size m} {j = 53} d) in
    let top : scale (normal (suc q) u).m (normal (suc q) u).e ≡ e +ℤ pos (c + (size (suc q) - 1)) = scale_normal (suc q) u (zero-lt-suc q) ∙ +ℤ_assoc e (pos c) (pos (size (suc q) - 1)) in
    record {
      few = omega arith;
      near = rw top (between_add 1074 1024 (c + (size (suc q) - 1)) e (between_wider 1074 1023 1074 1024 e (omega arith) (omega arith) r.low_end) (omega arith) (λ n g. let z = r.high_end n g in omega arith));
    }

-- ---- after the digit limit, or without one
limited_ranged : (mode : RoundMode) (b k m : ℕ) (e : ℤ) → 0 < b → 0 < m → InRange m e → Ranged (limited mode b k m e).m (limited mode b k m e).e
limited_ranged mode b zero m e B M r = unfold limited in float_ranged m e M r
limited_ranged mode b (suc k) m e B M r =
    let w = kept b (suc k) (scale m e) in
    by_larger w (size m - 1) (Ranged (limited mode b (suc k) m e).m (limited mode b (suc k) m e).e)
    (λ h. rw (limited_kept mode b (suc k) m e B (zero-lt-suc k) M w refl h, normal_odd m e r.odd) (float_ranged m e M r))
    (λ h.
    let c : ℕ = size m - 1 - w in
    rw (limited_cut mode b (suc k) m e B (zero-lt-suc k) M w refl c (omega arith) (omega arith))
    (cut_ranged m e r c (rounded mode m (2 ^ c)) (omega arith) (size_rounded mode m c (omega arith)) (le_trans (rounded_le mode m (2 ^ c)) (suc-le-suc_iff.1 (div-le_self m (2 ^ c))))))

-- ---- of every float of either width that may be written, zero too
pub fits_ranged : (f : Format) (s : Bool) (m : ℕ) (e : ℤ) → T (fits f (fin s m e)) → Ranged m e
fits_ranged f s zero e h = record { few = pow_pos 54; near = zero-le }
fits_ranged f s (suc m) e h = float_ranged (suc m) e (zero-lt-suc m) (in_range f s (suc m) e (zero-lt-suc m) h)

pub limited_fits : (f : Format) (s : Bool) (mode : RoundMode) (b k m : ℕ) (e : ℤ) → 0 < b → T (fits f (fin s m e)) → Ranged (limited mode b k m e).m (limited mode b k m e).e
limited_fits f s mode b zero m e B h = unfold limited in fits_ranged f s m e h
limited_fits f s mode b (suc k) zero e B h = unfold limited in fits_ranged f s zero e h
limited_fits f s mode b (suc k) (suc m) e B h = limited_ranged mode b (suc k) (suc m) e B (zero-lt-suc m) (in_range f s (suc m) e (zero-lt-suc m) h)

-- and p lies no farther than s
pub place_near : (b : ℕ) (s : ℤ) → Between 1074 1024 s → nat_abs (place b s) ≤ 1074
place_near b (pos n) h = omega (arith, div-le_self n b)
place_near b (negsuc n) h = omega (arith, div-le_self n b)
