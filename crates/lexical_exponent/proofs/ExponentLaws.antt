-- The laws of the three exponents: s by significant bits, a signed number's magnitude, division rounded up, p as floor (s / b), p * b / c, and e mod b. Assumes nothing.
use Prim.Native.Nat.{ℕ, zero, suc, ◌+◌, ◌-◌, ◌*◌, ◌/◌, ◌%◌, ◌^◌, ◌≤◌, ◌<◌, min}
use mathlib.Core.Path.{◌≡◌, refl, sym, ap, ◌∙◌}
use mathlib.Core.Bool.{Bool, true, false}
use native.Mathlib.Nat.{zero-mul, mul-zero, one-mul, mul-one, mul_comm, mul-le-mul_right, mul-lt-mul_of_pos_right, suc-mul, mul-le-mul, mul-div-le, lt-mul-div-succ, div-zero, div-mul-le_self, lt-div-mul-add, div-eq_of_lt-le, div-lt_iff_lt-mul, div-mul_cancel, dvd-mul_left, dvd-mul_left_of_dvd, lt_of_le_of_lt, mod-lt, zero-lt-suc}
use native.Mathlib.Numerals.{add-one}
use native.Mathlib.Omega.{arith}
use borrow.Author.Tests.{ltb-true, ltb-false, lt-ltb, le-ltb}
use lib.Dec.{T, le→leb, lt→ltb}
use lib.IntN.{ℤ, pos, negsuc, neg_ℤ, nat_abs, ◌+ℤ◌, ◌-ℤ◌, ◌*ℤ◌, +ℤ_assoc, +ℤ_idl}
use lib.Signed.{mag, lt_z, non_neg, mag_shr, ◌≤ℤ◌, ◌<ℤ◌, le_z_yes, lt_z_yes}
use lib.Count.{count_leading_zeros}
use lib.Ieee.{size, up, down}
use lib.Ieee.Fits.{up_pos, down_pos}
use lib.Pow.{pow-add}
use lib.Ieee.Digits.{size-lt, size-le, size_reaches}
use mir.Syntax.{w32, w64}
use mir.Val.{Fits, SFits, to_z, of_z}
use mir.Facts.{to_z-of_z, to_z_pos}
use Rattle.lexical_exponent.specs.Exponent.{clamped, scale, LeadingBit, place, is_negative, power, modulo, height_above, signed}
use Rattle.lexical_exponent.proofs.DifferenceLaws.{by_larger, gap_of, widened}
use Rattle.lexical_exponent.proofs.PowerLaws.{size_pos, leading_size}

-- ---- significant bits by leading zeros, and s
pub bits_are : (x : ℕ) → x < 2 ^ 64
    → (64 - count_leading_zeros 64 x ≡ size x) × ((64 - count_leading_zeros 64 x ≤ 64) × (x < 2 ^ (64 - count_leading_zeros 64 x)) × (0 < x → 2 ^ (64 - count_leading_zeros 64 x - 1) ≤ x))
bits_are x h =
    let e : 64 - count_leading_zeros 64 x ≡ size x = omega (arith, leading_size 64 x h) in
    (e, rw e (size-le x 64 h, size-lt x, λ p. size_reaches x (size x - 1) (omega (arith, size_pos x p))))

pub scale_zero : (m : ℕ) (e : ℤ) → size m ≡ 0 → pos 0 ≡ scale m e
scale_zero zero e h = refl
scale_zero (suc m) e h = absurd (omega (arith, size_pos (suc m) (omega arith)))

pub scale_is : (m : ℕ) (e : ℤ) → 0 < m → scale m e ≡ e +ℤ pos (size m - 1)
scale_is zero e h = absurd (omega arith)
scale_is (suc m) e h = refl

-- 2 ^ (z + n) is 2 ^ n * 2 ^ z
raised : (z : ℤ) (n : ℕ) → up (z +ℤ pos n) * down z ≡ 2 ^ n * up z * down (z +ℤ pos n)
raised (pos k) n = ap (λ (x : ℕ). x * 1) (pow-add 2 k n ∙ mul_comm (2 ^ k) (2 ^ n))
raised (negsuc k) n =
    by_larger n (suc k) (up (negsuc k +ℤ pos n) * down (negsuc k) ≡ 2 ^ n * up (negsuc k) * down (negsuc k +ℤ pos n))
    (λ h.
    let e : n - suc k + suc k ≡ n = omega arith in
    rw (le-ltb n (suc k) h, mul-one (2 ^ n), mul-one (2 ^ n), ← pow-add 2 (n - suc k) (suc k), e))
    (λ h.
    let e : n + suc (suc k - suc n) ≡ suc k = omega arith in
    rw (lt-ltb n (suc k) h, mul-one (2 ^ n), ← pow-add 2 n (suc (suc k - suc n)), e, one-mul (2 ^ suc k)))

pub leading_bit : (m : ℕ) (e s : ℤ) → s ≡ scale m e → 0 < m → LeadingBit m e s
leading_bit zero e s is h = absurd (omega arith)
leading_bit (suc m) e s is h =
    let n : ℕ = size (suc m) - 1 in
    let p = size_pos (suc m) h in
    let more : suc n ≡ size (suc m) = omega arith in
    let next : s +ℤ pos 1 ≡ e +ℤ pos (suc n) = ap (λ (z : ℤ). z +ℤ pos 1) is ∙ +ℤ_assoc e (pos n) (pos 1) ∙ ap (λ (k : ℕ). e +ℤ pos k) (add-one n) in
    record {
      from = rw (is, raised e n) (mul-le-mul_right (down (e +ℤ pos n)) (mul-le-mul_right (up e) (size_reaches (suc m) n (omega arith))));
      below =
          rw (next, raised e (suc n))
          (mul-lt-mul_of_pos_right (mul-lt-mul_of_pos_right (rw more (size-lt (suc m))) (up_pos e)) (down_pos (e +ℤ pos (suc n))));
    }

-- ---- an exponent held in 32 bits
pub clamped_is : (z : ℤ) → mag z < 2147483648 → clamped z ≡ z
clamped_is (pos n) h = ap pos (omega arith)
clamped_is (negsuc n) h = ap negsuc (omega arith)

pub past_most : (z : ℤ) → lt_z (pos 2147483647) z ≡ true → pos 2147483647 ≡ clamped z
past_most (pos n) h = let l = ltb-true 2147483647 n h in ap pos (omega arith)
past_most (negsuc n) h = cc

pub past_least : (z : ℤ) → lt_z z (negsuc 2147483647) ≡ true → negsuc 2147483647 ≡ clamped z
past_least (pos n) h = cc
past_least (negsuc n) h = let l = ltb-true 2147483647 n h in ap negsuc (omega arith)

pub between_ends : (z : ℤ) → lt_z (pos 2147483647) z ≡ false → lt_z z (negsuc 2147483647) ≡ false → mag z < 2147483648
between_ends (pos n) h k = let l = ltb-false 2147483647 n h in omega arith
between_ends (negsuc n) h k = let l = ltb-false 2147483647 n k in omega arith

-- a sum and a difference at 64 bits
sum_fits : (e : ℤ) (n : ℕ) → mag e < 2147483648 → n < 4294967296 → SFits w64 (e +ℤ pos n)
sum_fits (pos k) n h l = record { sfits = omega arith }
sum_fits (negsuc k) n h l =
    by_larger n (suc k) (SFits w64 (negsuc k +ℤ pos n))
    (λ g. rw (le-ltb n (suc k) g) (record { sfits = omega arith }))
    (λ g. rw (lt-ltb n (suc k) g) (record { sfits = omega arith }))

-- as the code adds them
module _ (e : ℤ) (n : ℕ) (h : mag e < 2147483648) (l : n < 4294967296) where
  abbrev pub coded_sum : ℤ
  coded_sum = to_z w64 (of_z w64 (to_z w32 (of_z w32 e))) +ℤ to_z w64 n

  coded_is : coded_sum ≡ e +ℤ pos n
  coded_is = rw ((widened e h).1, to_z_pos w64 {n = n} (omega arith))

  pub coded_sum_fits : SFits w64 coded_sum
  coded_sum_fits = rw coded_is (sum_fits e n h l)

  pub coded_sum_is : to_z w64 (of_z w64 coded_sum) ≡ e +ℤ pos n
  coded_sum_is = rw coded_is (to_z-of_z (sum_fits e n h l))

-- as the code takes them apart, the larger one first
module _ (a b : ℤ) (h : mag a < 2147483648) (k : mag b < 2147483648) (le : lt_z a b ≡ false) where
  difference : SFits w64 (a -ℤ b)
  difference = let g = gap_of a b le in rw g.is (record { sfits = omega (arith, g.few) })

  abbrev pub coded_gap : ℤ
  coded_gap = to_z w64 (of_z w64 (to_z w32 (of_z w32 a))) -ℤ to_z w64 (of_z w64 (to_z w32 (of_z w32 b)))

  coded_gap_same : coded_gap ≡ a -ℤ b
  coded_gap_same = rw ((widened a h).1, (widened b k).1)

  pub coded_gap_fits : SFits w64 coded_gap
  coded_gap_fits = rw coded_gap_same difference

  pub coded_gap_casts : T (non_neg (to_z w64 (of_z w64 coded_gap))) × Fits w32 (nat_abs (to_z w64 (of_z w64 coded_gap)))
  coded_gap_casts = let g = gap_of a b le in rw (coded_gap_same, to_z-of_z difference, g.is) (tt, record { fits = omega (arith, g.few) })

  pub coded_gap_is : nat_abs (to_z w64 (of_z w64 coded_gap)) ≡ height_above a b
  coded_gap_is = rw (coded_gap_same, to_z-of_z difference, le)

-- of an exponent above 0 and of one below
pub height_up : (n : ℕ) → (height_above (pos n) (pos 0) ≡ n) × (height_above (pos 0) (pos n) ≡ 0)
height_up zero = (refl, refl)
height_up (suc n) = (rw (le-ltb (suc n) 0 (omega arith)) (omega arith), rw (lt-ltb 0 (suc n) (omega arith)))

pub height_down : (n : ℕ) → (height_above (neg_ℤ (pos n)) (pos 0) ≡ 0) × (height_above (pos 0) (neg_ℤ (pos n)) ≡ n)
height_down zero = (refl, refl)
height_down (suc n) = (refl, omega arith)

-- ---- in bits: a product at 64 bits
negative_fits : (k : ℕ) → k ≤ 9223372036854775808 → SFits w64 (neg_ℤ (pos k))
negative_fits zero h = record { sfits = omega arith }
negative_fits (suc k) h = record { sfits = omega arith }

few_bits : (b n : ℕ) → b < 4294967296 → n ≤ 2147483648 → b * n < 9223372036854775808
few_bits b n h l = omega (arith, mul-le-mul {n₁ = b} {m₁ = n} {n₂ = 4294967295} {m₂ = 2147483648} (omega arith) l)

-- as the code multiplies them
module _ (b : ℕ) (p : ℤ) (h : b < 4294967296) (k : mag p < 2147483648) where
  product : (p : ℤ) → mag p < 2147483648 → SFits w64 (pos b *ℤ p)
  product (pos n) l = record { sfits = few_bits b n h (omega arith) }
  product (negsuc n) l = negative_fits (b * suc n) (omega (arith, few_bits b (suc n) h l))

  abbrev pub coded_product : ℤ
  coded_product = to_z w64 b *ℤ to_z w64 (of_z w64 (to_z w32 (of_z w32 p)))

  coded_product_same : coded_product ≡ pos b *ℤ p
  coded_product_same = rw (to_z_pos w64 {n = b} (omega arith), (widened p k).1)

  pub coded_product_fits : SFits w64 coded_product
  coded_product_fits = rw coded_product_same (product p k)

  pub coded_product_is : to_z w64 (of_z w64 coded_product) ≡ pos b *ℤ p
  coded_product_is = rw coded_product_same (to_z-of_z (product p k))

-- the sign goes before the product
pub times_signed : (s : Bool) (c n : ℕ) → signed s (c * n) ≡ pos c *ℤ signed s n
times_signed true c zero = rw (mul-zero c)
times_signed true c (suc n) = refl
times_signed false c n = refl

-- past 2 ^ 31 all magnitudes are held as one, and so many powers of the base are past it, unless the base has no bits
far_same : (s : Bool) (k l : ℕ) → 2147483648 ≤ k → 2147483648 ≤ l → clamped (signed s k) ≡ clamped (signed s l)
far_same true zero l h g = absurd (omega arith)
far_same true (suc k) zero h g = absurd (omega arith)
far_same true (suc k) (suc l) h g = ap negsuc (omega arith)
far_same false k l h g = ap pos (omega arith)

many_same : (s : Bool) (c n : ℕ) → 2147483648 ≤ n → clamped (signed s (c * 2147483648)) ≡ clamped (signed s (c * n))
many_same s zero n h = rw (zero-mul n, zero-mul 2147483648)
many_same s (suc c) n h = far_same s (suc c * 2147483648) (suc c * n) (omega (arith, suc-mul c 2147483648)) (omega (arith, suc-mul c n))

pub few_same : (s : Bool) (c n : ℕ) → clamped (signed s (c * min n 2147483648)) ≡ clamped (pos c *ℤ signed s n)
few_same s c n =
    by_larger n 2147483648 (clamped (signed s (c * min n 2147483648)) ≡ clamped (signed s (c * n)))
    (λ h. let e : min n 2147483648 ≡ 2147483648 = omega arith in rw e (many_same s c n h))
    (λ h. let e : min n 2147483648 ≡ n = omega arith in rw e)
    ∙ ap clamped (times_signed s c n)

-- where nothing is past an end
pub signed_held : (s : Bool) (k : ℕ) → k < 2147483648 → clamped (signed s k) ≡ signed s k
signed_held true zero h = refl
signed_held true (suc k) h = clamped_is (negsuc k) (omega arith)
signed_held false k h = clamped_is (pos k) h

-- an end is no farther from 0 than what is past it
height_le : (z : ℤ) → (height_above (clamped z) (pos 0) ≤ nat_abs z) × (height_above (pos 0) (clamped z) ≤ nat_abs z)
height_le (pos n) = let w = height_up (min n 2147483647) in (omega (arith, w.0), omega (arith, w.1))
height_le (negsuc n) = let w = height_down (suc (min n 2147483647)) in (omega (arith, w.0), omega (arith, w.1))

abs_times : (b : ℕ) (z : ℤ) → nat_abs (pos b *ℤ z) ≡ b * nat_abs z
abs_times b (pos n) = refl
abs_times b (negsuc n) = abs_negative (b * suc n)
  where
    abs_negative : (k : ℕ) → nat_abs (neg_ℤ (pos k)) ≡ k
    abs_negative zero = refl
    abs_negative (suc k) = refl

-- so many digits have so many bits
pub digits_height : (b n : ℕ) → b * n < 2147483648 → height_above (clamped (pos b *ℤ pos n)) (pos 0) ≡ b * n
digits_height b n h = ap (λ (z : ℤ). height_above z (pos 0)) (clamped_is (pos (b * n)) h) ∙ (height_up (b * n)).0

pub height_few : (b : ℕ) (z : ℤ) → let w = clamped (pos b *ℤ z) in (height_above w (pos 0) ≤ b * nat_abs z) × (height_above (pos 0) w ≤ b * nat_abs z)
height_few b z = let w = height_le (pos b *ℤ z) in let e = abs_times b z in (omega (arith, w.0, e), omega (arith, w.1, e))

abs_signed : (s : Bool) (n : ℕ) → nat_abs (signed s n) ≡ n
abs_signed true zero = refl
abs_signed true (suc n) = refl
abs_signed false n = refl

pub signed_few : (s : Bool) (c n : ℕ) → let w = clamped (pos c *ℤ signed s n) in (height_above w (pos 0) ≤ c * n) × (height_above (pos 0) w ≤ c * n)
signed_few s c n =
    let e = ap (λ (k : ℕ). c * k) (abs_signed s n) in
    let w = height_few c (signed s n) in
    (omega (arith, w.0, e), omega (arith, w.1, e))

-- as the code takes the magnitude and the sign
module _ (c m : ℕ) (h : c < 4294967296) (l : m ≤ 2147483648) where
  pub power_fits : Fits w64 (c * m)
  power_fits = record { fits = omega (arith, few_bits c m h l) }

  pub power_casts : SFits w64 (pos (c * m))
  power_casts = record { sfits = few_bits c m h l }

  pub power_above : to_z w64 (c * m) ≡ signed false (c * m)
  power_above = to_z_pos w64 (few_bits c m h l)

  below_same : pos 0 -ℤ to_z w64 (c * m) ≡ signed true (c * m)
  below_same = rw (to_z_pos w64 {n = c * m} (few_bits c m h l)) (+ℤ_idl (neg_ℤ (pos (c * m))))

  negated : SFits w64 (signed true (c * m))
  negated = negative_fits (c * m) (omega (arith, few_bits c m h l))

  pub power_below_fits : SFits w64 (pos 0 -ℤ to_z w64 (c * m))
  power_below_fits = rw below_same negated

  pub power_below : to_z w64 (of_z w64 (pos 0 -ℤ to_z w64 (c * m))) ≡ signed true (c * m)
  power_below = rw below_same (to_z-of_z negated)

-- ---- a signed number below 0, and its magnitude
pub sign_is : (z : ℤ) → lt_z z (pos 0) ≡ is_negative z
sign_is (pos n) = le-ltb n 0 (omega arith)
sign_is (negsuc n) = refl

pub not_below : (z : ℤ) → lt_z z (pos 0) ≡ false → T (non_neg z)
not_below (pos n) h = tt
not_below (negsuc n) h = let k : ◌≡◌ {A = ℕ} 0 1 = cc in absurd (omega arith)

-- -1 - z, which has room where z has
pub below_is : (z : ℤ) → lt_z z (pos 0) ≡ true → negsuc 0 -ℤ z ≡ pos (mag z)
below_is (pos n) h = let k = ltb-true n 0 h in absurd (omega arith)
below_is (negsuc n) h = rw (le-ltb (suc n) 1 (omega arith)) (ap pos (omega arith))

pub below_fits : (z : ℤ) → lt_z z (pos 0) ≡ true → SFits w32 z → SFits w32 (negsuc 0 -ℤ z)
below_fits z h f = rw (below_is z h) (record { sfits = f.sfits })

pub below_abs : (z : ℤ) → lt_z z (pos 0) ≡ true → nat_abs z ≡ suc (mag z)
below_abs (pos n) h = let k = ltb-true n 0 h in absurd (omega arith)
below_abs (negsuc n) h = refl

-- ---- v / b rounded up
pub ceil_bounds : (v b n : ℕ) → 0 < b → n ≡ v + (b - 1) → (v ≤ n / b * b) × (n / b * b < v + b)
ceil_bounds v b n h e = (omega (arith, lt-div-mul-add {a = n} h), omega (arith, div-mul-le_self n b))

pub quotient_lt : (n b k : ℕ) → 0 < b → n < k * b → n / b < k
quotient_lt n b k h l = (div-lt_iff_lt-mul {x = n} {y = k} h).1 l

-- ---- p, by s's sign
pub place_fits : (b : ℕ) (s : ℤ) → SFits w32 s → SFits w32 (place b s)
place_fits b s h = record { sfits = lt_of_le_of_lt (mag_shr s b) h.sfits }

ceil_floor : (n b q : ℕ) → suc n ≤ suc q * b → suc q * b < suc n + b → n / b ≡ q
ceil_floor n b q h k = div-eq_of_lt-le b (omega (arith, suc-mul q b)) (omega (arith, add-one q))

pub place_below : (s : ℤ) (b r : ℕ) → lt_z s (pos 0) ≡ true → nat_abs s ≤ r * b → r * b < nat_abs s + b → pos 0 -ℤ pos r ≡ place b s
place_below (pos n) b r h u l = let k = ltb-true n 0 h in absurd (omega arith)
place_below (negsuc n) b zero h u l = absurd (omega (arith, zero-mul b))
place_below (negsuc n) b (suc q) h u l =
    rw (lt-ltb 0 (suc q) (omega arith)) (ap negsuc ((let z : suc q - 1 ≡ q = omega arith in z) ∙ sym (ceil_floor n b q u l)))

pub place_above : (s : ℤ) (b : ℕ) → lt_z s (pos 0) ≡ false → pos (nat_abs s / b) ≡ place b s
place_above (pos n) b h = refl
place_above (negsuc n) b h = cc

-- digits of no bits, which no radix has
pub place_none_below : (s : ℤ) (b : ℕ) → lt_z s (pos 0) ≡ true → b ≡ 0 → negsuc 0 ≡ place b s
place_none_below (pos n) b h e = let k = ltb-true n 0 h in absurd (omega arith)
place_none_below (negsuc n) b h e = rw e (ap negsuc (sym (div-zero n)))

pub place_none_above : (s : ℤ) (b : ℕ) → lt_z s (pos 0) ≡ false → b ≡ 0 → pos 0 ≡ place b s
place_none_above (pos n) b h e = rw e (ap pos (sym (div-zero n)))
place_none_above (negsuc n) b h e = cc

-- ---- what floor means: b * p ≤ s < b * (p + 1)
minus_le : (k n : ℕ) → n < k → neg_ℤ (pos k) ≤ℤ negsuc n
minus_le zero n h = absurd (omega arith)
minus_le (suc k) n h = le_z_yes (le→leb n k (omega arith))

lt_minus : (k n : ℕ) → k ≤ n → negsuc n <ℤ neg_ℤ (pos k)
lt_minus zero n h = lt_z_yes tt
lt_minus (suc k) n h = lt_z_yes (lt→ltb k n h)

floor_le : (b : ℕ) (s : ℤ) → 0 < b → (pos b *ℤ place b s) ≤ℤ s
floor_le b (pos n) h = le_z_yes (le→leb (b * (n / b)) n (mul-div-le n b))
floor_le b (negsuc n) h = minus_le (b * suc (n / b)) n (rw add-one at (lt-mul-div-succ n h))

lt_floor : (b : ℕ) (s : ℤ) → 0 < b → s <ℤ (pos b *ℤ (place b s +ℤ pos 1))
lt_floor b (pos n) h = lt_z_yes (lt→ltb n (b * (n / b + 1)) (lt-mul-div-succ n h))
lt_floor b (negsuc n) h = go (n / b) (mul-div-le n b)
  where
    go : (q : ℕ) → b * q ≤ n → negsuc n <ℤ (pos b *ℤ (negsuc q +ℤ pos 1))
    go zero k = lt_z_yes tt
    go (suc q) k =
        let less : suc (suc q) - 2 ≡ q = omega arith in
        rw (lt-ltb 1 (suc (suc q)) (omega arith), less) (lt_minus (b * suc q) n k)

pub floored : (b : ℕ) (s r : ℤ) → r ≡ place b s → (r ≡ place b s) × (0 < b → ((pos b *ℤ r) ≤ℤ s) × (s <ℤ (pos b *ℤ (r +ℤ pos 1))))
floored b s r e = (e, λ h. rw e (floor_le b s h, lt_floor b s h))

-- ---- p * b / c
-- the product of two numbers of 32 bits
pub product_fits : (a b : ℕ) → a < 4294967296 → b < 4294967296 → Fits w64 (a * b)
product_fits a b h k = record { fits = omega (arith, mul-le-mul {n₁ = a} {m₁ = b} {n₂ = 4294967295} {m₂ = 4294967295} (omega arith) (omega arith)) }

-- a base of no bits, which no pair has
pub power_none : (b c : ℕ) (p : ℤ) → c ≡ 0 → 0 ≡ power b c p
power_none b c p e = rw e (sym (div-zero (nat_abs p * b)))

-- whole where c divides b
pub power_exact : (b c : ℕ) (p : ℤ) → b / c * c ≡ b → power b c p * c ≡ nat_abs p * b
power_exact b c p h = div-mul_cancel c (dvd-mul_left_of_dvd c (rw h at (dvd-mul_left c (b / c))) (nat_abs p))

-- ---- e mod b
pub modulo_lt : (e : ℤ) (b : ℕ) → 0 < b → modulo e b < b
modulo_lt (pos k) b B = mod-lt k B
modulo_lt (negsuc k) b B = let h = mod-lt k B in omega arith

pub shifted : (e : ℤ) (b r : ℕ) → r ≡ modulo e b → (r ≡ modulo e b) × (0 < b → r < b)
shifted e b r h = (h, λ B. rw h (modulo_lt e b B))

-- by the sign, from the magnitude
pub modulo_above : (e : ℤ) (b : ℕ) → lt_z e (pos 0) ≡ false → nat_abs e % b ≡ modulo e b
modulo_above (pos k) b h = refl
modulo_above (negsuc k) b h = cc

pub modulo_below : (e : ℤ) (b : ℕ) → lt_z e (pos 0) ≡ true → (0 < nat_abs e) × (b - 1 - (nat_abs e - 1) % b ≡ modulo e b)
modulo_below (pos k) b h = let l = ltb-true k 0 h in absurd (omega arith)
modulo_below (negsuc k) b h = let z : suc k - 1 ≡ k = omega arith in (zero-lt-suc k, rw z (omega arith))

-- digits of no bits, which no radix has
pub modulo_none_below : (e : ℤ) (b : ℕ) → lt_z e (pos 0) ≡ true → b ≡ 0 → 0 ≡ modulo e b
modulo_none_below e b h n = omega (arith, (modulo_below e b h).1)
