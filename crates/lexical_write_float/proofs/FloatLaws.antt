-- The normal form of a float's mantissa and exponent is the float itself, for both widths. Assumes nothing.
use Prim.Native.Nat.{ℕ, zero, suc, ◌+◌, ◌*◌, ◌%◌, ◌^◌, ◌<◌}
use mathlib.Core.Path.{◌≡◌, refl, sym, ap, ap₂, ◌∙◌, subst}
use mathlib.Core.Bool.{Bool}
use native.Mathlib.Nat.{lt_of_lt_of_le, mul-one, one-mul, zero-mul, mul_assoc, mul-pos, zero-add, zero-lt-suc, pow-suc}
use native.Mathlib.Omega.{arith}
use borrow.Author.Tests.{lt-ltb, le-ltb}
use lib.Dec.{T, eqb→eq}
use lib.IntN.{ℤ, pos, negsuc, ◌+ℤ◌}
use lib.Pow.{pow-add, pow_pos, pow_mono}
use lib.Ieee.{fin, Format, up, down, size, fits}
use lib.Ieee.Digits.{size-lt}
use lib.Ieee.Exact.{HasValue}
use lib.Ieee.Fits.{up_pos, down_pos}
use Rattle.lexical_exponent.specs.declared.exponent.Magnitude.{Magnitude}
use Rattle.lexical_format.specs.declared.checks.CheckedFormat.{CheckedFormat}
use Rattle.lexical_format.specs.declared.format.NumberFormat.{NumberFormat}
use Rattle.lexical_format.specs.declared.options.Options.{Options}
use Rattle.lexical_format.specs.declared.options.RoundMode.{RoundMode}
use Rattle.lexical_write_float_spec.specs.Value.{Value, normal}
use Rattle.lexical_write_float_spec.specs.Limit.{limited}
use Rattle.lexical_write_float_spec.specs.Text.{text}
use Rattle.lexical_write_float_spec.specs.Write.{limited_text}
use Rattle.lexical_write_float_spec.specs.Range.{Between, Ranged}
use Rattle.lexical_write_float.specs.Code.{of_magnitude, FloatParts, checked_row, magnitude_text}
use Rattle.lexical_write_float_spec.proofs.Integers.{between_wider}
use Rattle.lexical_write_float_spec.proofs.ValueLaws.{is_normal, odd_unique}
use Rattle.lexical_write_float_spec.proofs.RangeLaws.{in_range, limited_fits}

-- ---- 2 ^ e as a fraction of two powers of two
above : ℤ → ℕ
above (pos n) = n
above (negsuc n) = 0

below : ℤ → ℕ
below (pos n) = 0
below (negsuc n) = suc n

up_is : (e : ℤ) → up e ≡ 2 ^ above e
unfolding above
up_is (pos n) = refl
up_is (negsuc n) = refl

down_is : (e : ℤ) → down e ≡ 2 ^ below e
unfolding below
down_is (pos n) = refl
down_is (negsuc n) = refl

-- the same power, the one lifted by t
lifted : (d e : ℤ) (t : ℕ) → t + (above d + below e) ≡ above e + below d → d +ℤ pos t ≡ e
unfolding above below
lifted (pos a) (pos b) t h = ap pos (omega arith)
lifted (pos a) (negsuc b) t h = absurd (omega arith)
lifted (negsuc a) (pos b) t h = rw (le-ltb t (suc a) (omega arith)) (ap pos (omega arith))
lifted (negsuc a) (negsuc b) t h = rw (lt-ltb t (suc a) (omega arith)) (ap negsuc (omega arith))

-- ---- q * 2 ^ d is m * 2 ^ e, and m is odd or zero
spread : (k q t a b : ℕ) → k * 2 ^ t ≡ q → k * 2 ^ (t + (a + b)) ≡ q * 2 ^ a * 2 ^ b
spread k q t a b h =
    rw (pow-add 2 t (a + b), pow-add 2 a b, ← mul_assoc k (2 ^ t) (2 ^ a * 2 ^ b), h) (sym (mul_assoc q (2 ^ a) (2 ^ b)))

no_value : (q : ℕ) (d e : ℤ) → 0 * up e * down d ≡ suc q * up d * down e → ⊥
no_value q d e h =
    let z : 0 * up e * down d ≡ 0 = rw (zero-mul (up e), zero-mul (down d)) refl in
    omega (arith, z, h, mul-pos (mul-pos (zero-lt-suc q) (up_pos d)) (down_pos e))

odd_normal : (m q : ℕ) (e d : ℤ) → m % 2 ≡ 1 → m * up e * down d ≡ q * up d * down e → normal q d ≡ record { m = m; e = e }
odd_normal zero q e d o h = absurd (omega arith)
odd_normal (suc m) zero e d o h = absurd (no_value m e d (sym h))
odd_normal (suc m) (suc q) e d o h =
    let v = normal (suc q) d in
    let w = is_normal (suc q) d (zero-lt-suc q) in
    let t = w.shift in
    let l = spread v.m (suc q) t (above d) (below e) w.is in
    let r = spread (suc m) (suc m) 0 (above e) (below d) (mul-one (suc m)) in
    let x : suc m * 2 ^ above e * 2 ^ below d ≡ suc q * 2 ^ above d * 2 ^ below e = rw (← up_is e, ← down_is d, ← up_is d, ← down_is e) h in
    let u = odd_unique v.m (suc m) (t + (above d + below e)) (0 + (above e + below d)) w.odd o (l ∙ sym x ∙ sym r) in
    ap₂ {A = ℕ} {B = ℤ} {C = Value} (λ x y. record { m = x; e = y }) u.0 (w.exponent ∙ lifted d e t (u.1 ∙ zero-add (above e + below d)))

-- zero has the exponent 0
unit_power : (e : ℤ) → up e * down e ≡ 1 → e ≡ pos 0
unit_power (pos zero) h = refl
unit_power (pos (suc n)) h = absurd (omega (arith, pow-suc 2 n, pow_pos n, mul-one (2 ^ suc n)))
unit_power (negsuc n) h = absurd (omega (arith, pow-suc 2 n, pow_pos n, one-mul (2 ^ suc n)))

pub float_normal : (f : Format) (s : Bool) (m q : ℕ) (e d : ℤ) → T (fits f (fin s m e)) → HasValue (fin s m e) s (q * up d) (down d) → normal q d ≡ record { m = m; e = e }
unfolding fits
float_normal f s zero zero e d t h = unfold normal in ap (λ (z : ℤ). record { m = 0; e = z }) (sym (unit_power e (eqb→eq (up e * down e) 1 t)))
float_normal f s zero (suc q) e d t h = absurd (no_value q d e h.1)
float_normal f s (suc m) q e d t h = odd_normal (suc m) q e d (in_range f s (suc m) e (zero-lt-suc m) (unfold fits in t)).odd h.1

-- ---- how large a float's numbers are
pub float_near : (f : Format) (s : Bool) (m : ℕ) (e : ℤ) → T (fits f (fin s m e)) → (m < 2 ^ 60) × Between 4000 4000 e
unfolding fits
float_near f s zero e t = (pow_pos 60, rw (unit_power e (eqb→eq (up e * down e) 1 t)) (omega arith))
float_near f s (suc m) e t =
    let r = in_range f s (suc m) e (zero-lt-suc m) (unfold fits in t) in
    (lt_of_lt_of_le (size-lt (suc m)) (pow_mono {i = size (suc m)} {j = 60} (omega (arith, r.few))), between_wider 1074 1023 4000 4000 e (omega arith) (omega arith) r.low_end)

-- ---- a float's parts in the code: their normal form r, and t, which the digit limit made of it
module _ (v : Magnitude) (P : FloatParts v) (r : Magnitude) (q : of_magnitude r ≡ normal v.mantissa v.exponent.0) where
  mantissa_is : r.mantissa ≡ P.m
  mantissa_is = ap (λ (x : Value). x.m) (q ∙ P.is)

  exponent_is : r.exponent.0 ≡ P.e
  exponent_is = ap (λ (x : Value). x.e) (q ∙ P.is)

  pub normal_near : (r.mantissa < 2 ^ 60) × Between 4000 4000 r.exponent.0
  normal_near = rw (mantissa_is, exponent_is) (float_near P.width P.sign P.m P.e P.fits_width)

  pub limited_near : (mode : RoundMode) (b k : ℕ) (t : Magnitude) → 0 < b → of_magnitude t ≡ limited mode b k r.mantissa r.exponent.0 → Ranged t.mantissa t.exponent.0
  limited_near mode b k t B l =
      let w : of_magnitude t ≡ limited mode b k P.m P.e = l ∙ ap₂ (limited mode b k) mantissa_is exponent_is in
      subst (λ (x : Value). Ranged x.m x.e) (sym w) (limited_fits P.width P.sign mode b k P.m P.e B P.fits_width)

  pub limited_text_lem : (F : NumberFormat) (o : Options) (c : CheckedFormat) (t : Magnitude) → of_magnitude t ≡ limited o.round_mode c.b o.max_significant_digits r.mantissa r.exponent.0
      → text F o (checked_row c) t.mantissa t.exponent.0 ≡ magnitude_text F o c v
  unfolding limited_text
  limited_text_lem F o c t l =
      ap (λ (x : Value). text F o (checked_row c) x.m x.e) l
      ∙ ap (λ (x : Value). let w = limited o.round_mode c.b o.max_significant_digits x.m x.e in text F o (checked_row c) w.m w.e) q
