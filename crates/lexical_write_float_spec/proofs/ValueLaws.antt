-- The normal form of a value, and what document 01 says of D: its first digit's place is p = floor (s / b), and its first and its last digit are not zero. Assumes nothing.
use Prim.Native.Nat.{ℕ, zero, suc, ◌+◌, ◌-◌, ◌*◌, ◌/◌, ◌%◌, ◌^◌, ◌≤◌, ◌<◌}
use mathlib.Core.Path.{◌≡◌, refl, sym, ap, ap₂, ◌∙◌}
use native.Mathlib.Nat.{le_antisymm, le_trans, le_of_eq, div-one, mul-one, mul_assoc, mul-pos, mul-le-mul_right, div-div-eq-div-mul, div-add-mod', add_comm, add-zero, pow-suc, pow-succ', eq_of_mul-eq-mul_right, zero-lt-suc, zero-mul, div-le_self}
use native.Mathlib.Omega.{arith}
use lib.Count.{count_trailing_zeros, under}
use lib.IntN.{ℤ, pos, ◌+ℤ◌, ◌*ℤ◌, +ℤ_assoc, +ℤ_idr}
use lib.Signed.{shr_z}
use lib.ListN.{length, get_or}
use lib.Pow.{pow-add, pow_pos, shl_lt}
use lib.Ieee.{size}
use lib.Ieee.Digits.{size-lt, size-le, size_reaches}
use Rattle.lexical_exponent.specs.Exponent.{scale, place, modulo}
use Rattle.lexical_exponent.proofs.ExponentLaws.{scale_is, modulo_lt}
use Rattle.lexical_exponent.proofs.PowerLaws.{size_more, size_pos}
use Rattle.lexical_write_integer_spec.specs.Digits.{digits, numeral}
use Rattle.lexical_write_integer_spec.proofs.DigitsLaws.{radix_above, count_bits, count_lt, first_pos}
use Rattle.lexical_write_integer_spec.proofs.NumeralLaws.{length_one}
use Rattle.lexical_write_float_spec.specs.Value.{Value, normal, exact_digits}
use Rattle.lexical_write_float_spec.proofs.Integers.{floor_modulo, floor_add}

-- ---- significant bits
pub size_shift : (m t : ℕ) → 0 < m → size (m * 2 ^ t) ≡ size m + t
size_shift m t h =
    let p = size_pos m h in
    let lo : 2 ^ (size m - 1 + t) ≤ m * 2 ^ t = le_trans (le_of_eq (pow-add 2 (size m - 1) t)) (mul-le-mul_right (2 ^ t) (size_reaches m (size m - 1) (omega arith))) in
    let l = size_more (m * 2 ^ t) (size m - 1 + t) lo in
    le_antisymm (size-le (m * 2 ^ t) (size m + t) (shl_lt (size m) t (size-lt m))) (omega arith)

pub size_under : (m k t : ℕ) → 0 < m → m * 2 ^ k < 2 ^ t → size m + k ≤ t
size_under m k t M h = le_trans (le_of_eq (sym (size_shift m k M))) (size-le (m * 2 ^ k) t h)

-- ---- the normal form: n is an odd number times 2 ^ shift
pub record IsNormal (n : ℕ) (e : ℤ) (v : Value) : Type 0 where
  pub shift : ℕ
  pub is : v.m * 2 ^ shift ≡ n
  pub exponent : v.e ≡ e +ℤ pos shift
  pub odd : v.m % 2 ≡ 1

odd_part : (k n : ℕ) → 0 < n → n < 2 ^ k → (n / 2 ^ count_trailing_zeros k n * 2 ^ count_trailing_zeros k n ≡ n) × (n / 2 ^ count_trailing_zeros k n % 2 ≡ 1)
unfolding count_trailing_zeros
odd_part zero n p h = absurd (omega arith)
odd_part (suc k) n p h = go (n % 2) refl (λ z. odd_part k (n / 2) (omega arith) (let w = pow-suc 2 k in omega arith))
  where
    go : (r : ℕ) → n % 2 ≡ r → (n % 2 ≡ 0 → (n / 2 / 2 ^ count_trailing_zeros k (n / 2) * 2 ^ count_trailing_zeros k (n / 2) ≡ n / 2) × (n / 2 / 2 ^ count_trailing_zeros k (n / 2) % 2 ≡ 1))
        → (n / 2 ^ under r (count_trailing_zeros k (n / 2)) * 2 ^ under r (count_trailing_zeros k (n / 2)) ≡ n) × (n / 2 ^ under r (count_trailing_zeros k (n / 2)) % 2 ≡ 1)
    go zero e ih =
        let t = count_trailing_zeros k (n / 2) in
        let q : n / 2 ^ suc t ≡ n / 2 / 2 ^ t = ap (λ (x : ℕ). n / x) (pow-succ' 2 t) ∙ sym (div-div-eq-div-mul n 2 (2 ^ t)) in
        let x = ih e in
        let w : n / 2 / 2 ^ t * 2 ^ t * 2 ≡ n = rw x.0 (omega arith) in
        (rw (q, pow-suc 2 t, ← mul_assoc (n / 2 / 2 ^ t) (2 ^ t) 2) w, rw q x.1)
    go (suc r) e ih = (rw (div-one, mul-one), rw div-one (omega arith))

pub is_normal : (n : ℕ) (e : ℤ) → 0 < n → IsNormal n e (normal n e)
unfolding normal
is_normal zero e h = absurd (omega arith)
is_normal (suc n) e h =
    let t = count_trailing_zeros (size (suc n)) (suc n) in
    let o = odd_part (size (suc n)) (suc n) h (size-lt (suc n)) in
    record { shift = t; is = o.0; exponent = refl; odd = o.1 }

pub odd_pos : (m : ℕ) → m % 2 ≡ 1 → 0 < m
odd_pos zero e = absurd (omega arith)
odd_pos (suc m) e = zero-lt-suc m

-- an odd number times a power of two is so in one way
pub odd_unique : (a b s t : ℕ) → a % 2 ≡ 1 → b % 2 ≡ 1 → a * 2 ^ s ≡ b * 2 ^ t → (a ≡ b) × (s ≡ t)
odd_unique a b zero zero p q e = (sym (mul-one a) ∙ e ∙ mul-one b, refl)
odd_unique a b zero (suc t) p q e = absurd (omega (arith, e, ap (λ (x : ℕ). b * x) (pow-suc 2 t), mul_assoc b (2 ^ t) 2))
odd_unique a b (suc s) zero p q e = absurd (omega (arith, e, ap (λ (x : ℕ). a * x) (pow-suc 2 s), mul_assoc a (2 ^ s) 2))
odd_unique a b (suc s) (suc t) p q e =
    let k = odd_unique a b s t p q (eq_of_mul-eq-mul_right 2 (zero-lt-suc 1) (a * 2 ^ s) (b * 2 ^ t) (rw (mul_assoc a (2 ^ s) 2, mul_assoc b (2 ^ t) 2, ← pow-suc 2 s, ← pow-suc 2 t) e)) in
    (k.0, ap suc k.1)

-- a power of two moves from the number to the exponent
pub normal_shift : (m d : ℕ) (e : ℤ) → m % 2 ≡ 1 → normal (m * 2 ^ d) e ≡ record { m = m; e = e +ℤ pos d }
normal_shift m d e o =
    let v = normal (m * 2 ^ d) e in
    let w = is_normal (m * 2 ^ d) e (mul-pos (odd_pos m o) (pow_pos d)) in
    let u = odd_unique v.m m w.shift d w.odd o w.is in
    ap₂ {A = ℕ} {B = ℤ} {C = Value} (λ x y. record { m = x; e = y }) u.0 (w.exponent ∙ ap (λ (k : ℕ). e +ℤ pos k) u.1)

pub normal_odd : (m : ℕ) (e : ℤ) → m % 2 ≡ 1 → normal m e ≡ record { m = m; e = e }
normal_odd m e o = ap (λ (n : ℕ). normal n e) (sym (mul-one m)) ∙ normal_shift m 0 e o ∙ ap (λ (z : ℤ). record { m = m; e = z }) (+ℤ_idr e)

-- of any number, odd or not
pub normal_more : (n d : ℕ) (e : ℤ) → 0 < n → normal (n * 2 ^ d) e ≡ normal n (e +ℤ pos d)
normal_more n d e h =
    let v = normal n (e +ℤ pos d) in
    let w = is_normal n (e +ℤ pos d) h in
    let s = w.shift in
    let whole : n * 2 ^ d ≡ v.m * 2 ^ (s + d) = ap (λ (x : ℕ). x * 2 ^ d) (sym w.is) ∙ mul_assoc v.m (2 ^ s) (2 ^ d) ∙ ap (λ (x : ℕ). v.m * x) (sym (pow-add 2 s d)) in
    let sum : e +ℤ pos (s + d) ≡ v.e = ap (λ (k : ℕ). e +ℤ pos k) (add_comm s d) ∙ sym (+ℤ_assoc e (pos d) (pos s)) ∙ sym w.exponent in
    ap (λ (x : ℕ). normal x e) whole ∙ normal_shift v.m (s + d) e w.odd ∙ ap (λ (z : ℤ). record { m = v.m; e = z }) sum

-- by the zeros below a number's last bit, counted in k bits that hold it
module _ (k n : ℕ) (p : 0 < n) (h : n < 2 ^ k) where
  pub trailing_lt : count_trailing_zeros k n < k
  trailing_lt =
      let t = count_trailing_zeros k n in
      let o = odd_part k n p h in
      let q = odd_pos (n / 2 ^ t) o.1 in
      omega (arith, size_pos (n / 2 ^ t) q, size_under (n / 2 ^ t) t k q (rw o.0 h))

  pub normal_trailing : (e : ℤ) → record { m = n / 2 ^ count_trailing_zeros k n; e = e +ℤ pos (count_trailing_zeros k n) } ≡ normal n e
  normal_trailing e = let o = odd_part k n p h in sym (normal_shift (n / 2 ^ count_trailing_zeros k n) (count_trailing_zeros k n) e o.1) ∙ ap (λ (x : ℕ). normal x e) o.0

pub normal_zero : (n : ℕ) (e : ℤ) → n ≡ 0 → record { m = 0; e = pos 0 } ≡ normal n e
unfolding normal
normal_zero zero e h = refl
normal_zero (suc n) e h = absurd (omega arith)

-- s is the same
pub scale_normal : (n : ℕ) (e : ℤ) → 0 < n → scale (normal n e).m (normal n e).e ≡ scale n e
scale_normal n e h =
    let v = normal n e in
    let w = is_normal n e h in
    let p = odd_pos v.m w.odd in
    let q = size_pos v.m p in
    let z : size n ≡ size v.m + w.shift = ap size (sym w.is) ∙ size_shift v.m w.shift p in
    scale_is v.m v.e p ∙ ap (λ (x : ℤ). x +ℤ pos (size v.m - 1)) w.exponent ∙ +ℤ_assoc e (pos w.shift) (pos (size v.m - 1))
    ∙ ap (λ (k : ℕ). e +ℤ pos k) (let g : w.shift + (size v.m - 1) ≡ size n - 1 = omega arith in g) ∙ sym (scale_is n e h)

-- ---- D
pub length_exact : (b m : ℕ) (e : ℤ) → 0 < b → 0 < m → length (exact_digits b m e) ≡ suc ((size m - 1 + modulo e b) / b)
unfolding exact_digits
length_exact b m e B M =
    let r = modulo e b in
    let p = size_pos m M in
    length_one (2 ^ b) (m * 2 ^ r) ∙ count_bits b (m * 2 ^ r) B (mul-pos M (pow_pos r))
    ∙ ap (λ (k : ℕ). suc (k / b)) (ap (λ (k : ℕ). k - 1) (size_shift m r M) ∙ (let z : size m + r - 1 ≡ size m - 1 + r = omega arith in z))

-- of a mantissa below 2 ^ 54 at most 64
pub exact_few : (b m : ℕ) (e : ℤ) → 0 < b → b ≤ 5 → m < 2 ^ 54 → length (exact_digits b m e) ≤ 64
exact_few b zero e B K h = unfold exact_digits in go (zero * 2 ^ modulo e b) (zero-mul (2 ^ modulo e b))
  where
    go : (n : ℕ) → n ≡ 0 → length (numeral (2 ^ b) 1 n) ≤ 64
    go n z = omega (arith, length_one (2 ^ b) n, count_lt (2 ^ b) n (rw z (pow_pos b)))
exact_few b (suc m) e B K h =
    let s = size-le (suc m) 54 h in
    let r = modulo_lt e b B in
    omega (arith, length_exact b (suc m) e B (zero-lt-suc m), div-le_self (size (suc m) - 1 + modulo e b) b)

-- D's last place is floor (e / b), so that its first is p
pub first_place : (b m : ℕ) (e : ℤ) → 0 < b → 0 < m → place b (scale m e) ≡ shr_z e b +ℤ pos (length (exact_digits b m e) - 1)
first_place b m e B M =
    let t : ℕ = size m - 1 in
    let r = modulo e b in
    let n : (r + t) / b ≡ length (exact_digits b m e) - 1 = ap (λ (k : ℕ). k / b) (add_comm r t) ∙ omega (arith, length_exact b m e B M) in
    ap (λ (s : ℤ). shr_z s b) (scale_is m e M ∙ ap (λ (z : ℤ). z +ℤ pos t) (sym (floor_modulo b e B)) ∙ +ℤ_assoc (pos b *ℤ shr_z e b) (pos r) (pos t))
    ∙ floor_add b (r + t) (shr_z e b) B ∙ ap (λ (k : ℕ). shr_z e b +ℤ pos k) n

-- the first digit is not zero
pub first_digit : (b m : ℕ) (e : ℤ) → 0 < b → 0 < m → 0 < get_or (digits (2 ^ b) (m * 2 ^ modulo e b)) 0 0
first_digit b m e B M = first_pos (2 ^ b) (radix_above b B) (m * 2 ^ modulo e b) (mul-pos M (pow_pos (modulo e b)))

-- the last digit is not zero, since m is odd
pub last_digit : (b m : ℕ) (e : ℤ) → 0 < b → m % 2 ≡ 1 → m * 2 ^ modulo e b % 2 ^ b ≡ 0 → ⊥
last_digit b m e B o h =
    let r = modulo e b in
    let l = modulo_lt e b B in
    let d : ℕ = b - r - 1 in
    let q = m * 2 ^ r / 2 ^ b in
    let eb : b ≡ suc d + r = omega arith in
    let w : m * 2 ^ r ≡ q * 2 ^ suc d * 2 ^ r = sym (div-add-mod' (m * 2 ^ r) (2 ^ b)) ∙ ap (λ (k : ℕ). q * 2 ^ b + k) h ∙ add-zero (q * 2 ^ b) ∙ ap (λ (k : ℕ). q * 2 ^ k) eb ∙ ap (λ (k : ℕ). q * k) (pow-add 2 (suc d) r) ∙ sym (mul_assoc q (2 ^ suc d) (2 ^ r)) in
    let v : m ≡ q * 2 ^ suc d = eq_of_mul-eq-mul_right (2 ^ r) (pow_pos r) m (q * 2 ^ suc d) w in
    omega (arith, ap (λ (k : ℕ). q * k) (pow-suc 2 d), mul_assoc q (2 ^ d) 2)
