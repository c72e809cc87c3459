-- Exponents of two in balance: a text's value is N * 2 ^ x / 2 ^ y, a float's m * 2 ^ e, and they are equal once x - y is b times the last place of D. Assumes nothing.
use Prim.Native.Nat.{ℕ, zero, suc, ◌+◌, ◌-◌, ◌*◌, ◌^◌, ◌≤◌, ◌<◌}
use mathlib.Core.Path.{◌≡◌, sym, ap, ◌∙◌}
use native.Mathlib.Nat.{mul_assoc, mul-one, lt_of_not-le}
use native.Mathlib.Decide.{dec_le}
use native.Mathlib.Omega.{arith}
use borrow.Author.Tests.{lt-ltb, le-ltb}
use lib.IntN.{ℤ, pos, negsuc, neg_ℤ, ◌+ℤ◌, ◌-ℤ◌, ◌*ℤ◌, +ℤ_assoc, +ℤ_comm, +ℤ-neg_ℤ_cancel}
use lib.Signed.{shr_z}
use lib.Pow.{pow-add}
use lib.Ieee.{up, down}
use Rattle.lexical_exponent.specs.Exponent.{modulo}
use Rattle.lexical_write_float_spec.proofs.Integers.{floor_modulo, times_less}

-- ---- sums of a negative number and a natural one
sum_pos : (k y n : ℕ) → negsuc k +ℤ pos y ≡ pos n → y ≡ suc k + n
sum_pos k y n = go (dec_le (suc k) y)
  where
    go : Dec (suc k ≤ y) → negsuc k +ℤ pos y ≡ pos n → y ≡ suc k + n
    go (yes h) e = let same : pos (y - suc k) ≡ pos n = rw (le-ltb y (suc k) h) at e in let z : y - suc k ≡ n = cc in omega arith
    go (no h) e = let clash : negsuc (suc k - suc y) ≡ pos n = rw (lt-ltb y (suc k) (lt_of_not-le h)) at e in absurd (let z : ◌≡◌ {A = ℕ} 0 1 = cc in omega arith)

powers : (m i j k l : ℕ) → i + j ≡ k + l → m * 2 ^ i * 2 ^ j ≡ m * 2 ^ k * 2 ^ l
powers m i j k l e = rw (mul_assoc m (2 ^ i) (2 ^ j), mul_assoc m (2 ^ k) (2 ^ l), ← pow-add 2 i j, ← pow-add 2 k l, e)

-- e + y = r + x, so m * 2 ^ e = m * 2 ^ r * 2 ^ x / 2 ^ y
equal_values : (m x y r : ℕ) (e : ℤ) → e +ℤ pos y ≡ pos (r + x) → m * up e * 2 ^ y ≡ m * 2 ^ r * 2 ^ x * down e
equal_values m x y r (pos k) h = let z : k + y ≡ r + x = cc in powers m k y r x z ∙ sym (mul-one (m * 2 ^ r * 2 ^ x))
equal_values m x y r (negsuc k) h =
    let z : y ≡ suc k + (r + x) = sum_pos k y (r + x) h in
    rw (mul-one m, mul_assoc m (2 ^ r) (2 ^ x), ← pow-add 2 r x) (ap (λ (w : ℕ). w * 2 ^ y) (sym (mul-one m)) ∙ powers m 0 y (r + x) (suc k) (omega arith))

-- ---- in terms of the place p of the first of L digits
-- p at least 0, and below
abbrev pub Balanced : ℕ → ℕ → ℕ → ℕ → ℤ → Type 0
Balanced b n x y (pos P) = x + b * n ≡ b * P + y
Balanced b n x y (negsuc Q) = x + b * n + b * suc Q ≡ y

-- x + b * n = b * p + y
balanced_is : (b n x y : ℕ) (p : ℤ) → Balanced b n x y p → pos (x + b * n) ≡ pos b *ℤ p +ℤ pos y
balanced_is b n x y (pos P) h = ap pos h
balanced_is b n x y (negsuc Q) h = go (b * suc Q) h
  where
    go : (X : ℕ) → x + b * n + X ≡ y → pos (x + b * n) ≡ neg_ℤ (pos X) +ℤ pos y
    go zero e = ap pos (omega arith)
    go (suc X) e = rw (le-ltb y (suc X) (omega arith)) (ap pos (omega arith))

-- D has n + 1 digits, the first at the place p
pub balance : (b n m x y : ℕ) (e p : ℤ) → 0 < b → p ≡ shr_z e b +ℤ pos n → Balanced b n x y p → m * up e * 2 ^ y ≡ m * 2 ^ modulo e b * 2 ^ x * down e
balance b n m x y e p B h w =
    let q = shr_z e b in
    let r = modulo e b in
    let last : p -ℤ pos n ≡ q = ap (λ (z : ℤ). z -ℤ pos n) h ∙ +ℤ-neg_ℤ_cancel q (pos n) in
    let d : pos b *ℤ q +ℤ pos (b * n) ≡ pos b *ℤ p = ap (λ (z : ℤ). pos b *ℤ z +ℤ pos (b * n)) (sym last) ∙ times_less b n p in
    let swap : pos b *ℤ q +ℤ pos y +ℤ pos (b * n) ≡ pos x +ℤ pos (b * n) =
    +ℤ_assoc (pos b *ℤ q) (pos y) (pos (b * n)) ∙ ap (λ (z : ℤ). pos b *ℤ q +ℤ z) (+ℤ_comm (pos y) (pos (b * n))) ∙ sym (+ℤ_assoc (pos b *ℤ q) (pos (b * n)) (pos y)) ∙ ap (λ (z : ℤ). z +ℤ pos y) d ∙ sym (balanced_is b n x y p w) in
    let least : pos b *ℤ q +ℤ pos y ≡ pos x = sym (+ℤ-neg_ℤ_cancel (pos b *ℤ q +ℤ pos y) (pos (b * n))) ∙ ap (λ (z : ℤ). z -ℤ pos (b * n)) swap ∙ +ℤ-neg_ℤ_cancel (pos x) (pos (b * n)) in
    equal_values m x y r e
    (ap (λ (z : ℤ). z +ℤ pos y) (sym (floor_modulo b e B)) ∙ +ℤ_assoc (pos b *ℤ q) (pos r) (pos y) ∙ ap (λ (z : ℤ). pos b *ℤ q +ℤ z) (+ℤ_comm (pos r) (pos y)) ∙ sym (+ℤ_assoc (pos b *ℤ q) (pos y) (pos r))
    ∙ ap (λ (z : ℤ). z +ℤ pos r) least ∙ +ℤ_comm (pos x) (pos r))
