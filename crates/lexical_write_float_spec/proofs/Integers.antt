-- Integers: floor and remainder by b, differences, and integers that lie between two ends. Assumes nothing.
use Prim.Native.Nat.{ℕ, zero, suc, ◌+◌, ◌-◌, ◌*◌, ◌/◌, ◌%◌, ◌≤◌, ◌<◌}
use mathlib.Core.Path.{◌≡◌, refl, sym, ap, ap₂, ◌∙◌}
use native.Mathlib.Nat.{div-add-mod, mod-lt, mul_comm, mul-add, mul-suc, mul-zero, mul-pos, mul-add-div, add_comm, le_trans, le_of_eq, lt_of_lt_of_le, lt_of_not-le, div-lt_iff_lt-mul, le-div_iff_mul-le, div-eq_of_lt, zero-lt-suc}
use native.Mathlib.Decide.{dec_le}
use native.Mathlib.Omega.{arith}
use borrow.Author.Tests.{lt-ltb, le-ltb}
use lib.IntN.{ℤ, pos, negsuc, neg_ℤ, pred_ℤ, ◌+ℤ◌, ◌-ℤ◌, ◌*ℤ◌, +ℤ_assoc, +ℤ_comm, +ℤ_idr, +ℤ-neg_ℤ_cancel, -ℤ-+ℤ_cancel, *ℤ_comm, pred_ℤ-*ℤ, -ℤ_one}
use lib.Signed.{shr_z}
use Rattle.lexical_exponent.specs.Exponent.{modulo}
use Rattle.lexical_write_float_spec.specs.Range.{Between}

-- b times the floor, and the remainder
pub floor_modulo : (b : ℕ) (s : ℤ) → 0 < b → pos b *ℤ shr_z s b +ℤ pos (modulo s b) ≡ s
floor_modulo b (pos n) B = ap pos (div-add-mod n b)
floor_modulo b (negsuc n) B = go (b * suc (n / b)) (sum (n / b) (n % b) (mod-lt n B) (div-add-mod n b))
  where
    sum : (q r : ℕ) → r < b → b * q + r ≡ n → b * suc q ≡ suc n + (b - suc r)
    sum q r h e = omega (arith, mul-suc b q)

    go : (X : ℕ) → X ≡ suc n + (b - suc (n % b)) → neg_ℤ (pos X) +ℤ pos (b - suc (n % b)) ≡ negsuc n
    go zero e = absurd (omega arith)
    go (suc Y) e = rw (lt-ltb (b - suc (n % b)) (suc Y) (omega arith)) (ap negsuc (omega arith))

-- ---- floor ((b * z + n) / b) = z + floor (n / b)
div_less : (b n q : ℕ) → 0 < b → b * q ≤ n → (n - b * q) / b ≡ n / b - q
div_less b n q B l =
    let y : ℕ = n - b * q in
    let e : b * q + y ≡ n = omega arith in
    let d : n / b ≡ q + y / b = ap (λ (k : ℕ). k / b) (sym e) ∙ mul-add-div B q y in
    omega arith

div_short : (b n q : ℕ) → 0 < b → n / b ≤ q → (b * suc q - suc n) / b ≡ suc q - suc (n / b)
div_short b n q B h =
    let i : ℕ = q - n / b in
    let w : ℕ = b - 1 - n % b in
    let r = mod-lt n B in
    let k : b * q ≡ b * i + b * (n / b) = ap (λ (x : ℕ). b * x) (let z : q ≡ i + n / b = omega arith in z) ∙ mul-add b i (n / b) in
    let e : b * suc q - suc n ≡ b * i + w = omega (arith, div-add-mod n b, mul-suc b q) in
    ap (λ (x : ℕ). x / b) e ∙ mul-add-div B i w ∙ omega (arith, div-eq_of_lt {n = w} {m = b} (omega arith))

pub floor_add : (b n : ℕ) (z : ℤ) → 0 < b → shr_z (pos b *ℤ z +ℤ pos n) b ≡ z +ℤ pos (n / b)
floor_add b n (pos q) B = ap pos (mul-add-div B q n)
floor_add b n (negsuc q) B = go (b * suc q) refl (dec_le (suc q) (n / b))
  where
    go : (X : ℕ) → X ≡ b * suc q → Dec (suc q ≤ n / b) → shr_z (neg_ℤ (pos X) +ℤ pos n) b ≡ negsuc q +ℤ pos (n / b)
    go zero e h = absurd (omega (arith, mul-pos B (zero-lt-suc q)))
    go (suc Y) e (yes h) =
        let l : b * suc q ≤ n = le_trans (le_of_eq (mul_comm b (suc q))) ((le-div_iff_mul-le B).0 h) in
        rw (le-ltb n (suc Y) (omega arith), le-ltb (n / b) (suc q) h) (ap pos (ap (λ (k : ℕ). (n - k) / b) e ∙ div_less b n (suc q) B l))
    go (suc Y) e (no g) =
        let h : n / b < suc q = lt_of_not-le g in
        let l : n < b * suc q = lt_of_lt_of_le ((div-lt_iff_lt-mul B).0 h) (le_of_eq (mul_comm (suc q) b)) in
        rw (lt-ltb n (suc Y) (omega arith), lt-ltb (n / b) (suc q) h) (ap negsuc (ap (λ (k : ℕ). (k - suc n) / b) e ∙ div_short b n q B (omega arith)))

-- ---- b * (p - (k + 1) + 1) lies b * k below b * p
less_one : (k : ℕ) (p : ℤ) → p -ℤ pos (suc k) +ℤ pos 1 ≡ p -ℤ pos k
less_one k p = +ℤ_assoc p (neg_ℤ (pos (suc k))) (pos 1) ∙ ap (λ (z : ℤ). p +ℤ z) (one k)
  where
    one : (k : ℕ) → negsuc k +ℤ pos 1 ≡ neg_ℤ (pos k)
    one zero = refl
    one (suc k) = rw (lt-ltb 1 (suc (suc k)) (omega arith)) (ap negsuc (omega arith))

pred_is : (k : ℕ) (p : ℤ) → p -ℤ pos (suc k) ≡ pred_ℤ (p -ℤ pos k)
pred_is k p = sym (+ℤ-neg_ℤ_cancel (p -ℤ pos (suc k)) (pos 1)) ∙ ap (λ (z : ℤ). z -ℤ pos 1) (less_one k p) ∙ -ℤ_one (p -ℤ pos k)

times_pred : (b : ℕ) (x : ℤ) → pos b *ℤ pred_ℤ x +ℤ pos b ≡ pos b *ℤ x
times_pred b x = ap (λ (z : ℤ). z +ℤ pos b) (*ℤ_comm (pos b) (pred_ℤ x) ∙ pred_ℤ-*ℤ x (pos b)) ∙ -ℤ-+ℤ_cancel (x *ℤ pos b) (pos b) ∙ *ℤ_comm x (pos b)

pub times_less : (b k : ℕ) (p : ℤ) → pos b *ℤ (p -ℤ pos k) +ℤ pos (b * k) ≡ pos b *ℤ p
times_less b zero p = ap₂ (λ (x y : ℤ). x +ℤ y) (ap (λ (z : ℤ). pos b *ℤ z) (+ℤ_idr p)) (ap pos (mul-zero b)) ∙ +ℤ_idr (pos b *ℤ p)
times_less b (suc k) p =
    ap₂ (λ (x : ℤ) (y : ℕ). pos b *ℤ x +ℤ pos y) (pred_is k p) (mul-suc b k ∙ add_comm (b * k) b)
    ∙ sym (+ℤ_assoc (pos b *ℤ pred_ℤ (p -ℤ pos k)) (pos b) (pos (b * k)))
    ∙ ap (λ (z : ℤ). z +ℤ pos (b * k)) (times_pred b (p -ℤ pos k))
    ∙ times_less b k p

pub times_below : (b k : ℕ) (p : ℤ) → pos b *ℤ (p -ℤ pos (suc k) +ℤ pos 1) +ℤ pos (b * k) ≡ pos b *ℤ p
times_below b k p = ap (λ (z : ℤ). pos b *ℤ z +ℤ pos (b * k)) (less_one k p) ∙ times_less b k p

-- ---- differences
pub move : (x w e t : ℤ) → x +ℤ w ≡ e +ℤ t → e -ℤ x ≡ w -ℤ t
move x w e t h =
    ap (λ (z : ℤ). z -ℤ x) (sym (+ℤ-neg_ℤ_cancel e t) ∙ ap (λ (z : ℤ). z -ℤ t) (sym h) ∙ +ℤ_assoc x w (neg_ℤ t) ∙ +ℤ_comm x (w -ℤ t))
    ∙ +ℤ-neg_ℤ_cancel (w -ℤ t) x

-- ---- a natural number more
pub between_add : (least most t : ℕ) (e : ℤ) → Between least most e → (t ≤ most) → ((n : ℕ) → e ≡ pos n → n + t ≤ most) → Between least most (e +ℤ pos t)
between_add least most t (pos n) h k l = l n refl
between_add least most t (negsuc n) h k l = go (dec_le (suc n) t)
  where
    go : Dec (suc n ≤ t) → Between least most (negsuc n +ℤ pos t)
    go (yes g) = rw (le-ltb t (suc n) g) (omega arith)
    go (no g) = rw (lt-ltb t (suc n) (lt_of_not-le g)) (omega arith)

pub between_more : (least most t : ℕ) (e : ℤ) → Between least most e → Between least (most + t) (e +ℤ pos t)
between_more least most t (pos n) h = omega arith
between_more least most t (negsuc n) h = between_add least (most + t) t (negsuc n) h (omega arith) (λ k p. absurd (let z : ◌≡◌ {A = ℕ} 0 1 = cc in omega arith))

pub between_wider : (least most least' most' : ℕ) (e : ℤ) → least ≤ least' → most ≤ most' → Between least most e → Between least' most' e
between_wider least most least' most' (pos n) p q h = omega arith
between_wider least most least' most' (negsuc n) p q h = omega arith
