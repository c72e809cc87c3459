-- The laws of a number's digits, over the radix. Assumes nothing.
use Prim.Native.Nat.{ℕ, zero, suc, ◌+◌, ◌-◌, ◌*◌, ◌/◌, ◌%◌, ◌^◌, ◌≤◌, ◌<◌}
use mathlib.Core.Path.{◌≡◌, refl}
use mathlib.Core.Bool.{Bool, true, false}
use mathlib.Core.List.{List, [], ◌∷◌, ◌++◌}
use native.Mathlib.Nat.{div-lt_self, div-add-mod', mod-lt, zero-mul, zero-add, one-mul, mul-zero, mul-suc, mul_comm, pow-suc, pow-zero, div-lt_iff_lt-mul, le-div_iff_mul-le, pow-le-pow_right, lt_of_lt_of_le, le_trans, le_antisymm, div-mul-le_self, lt-div-mul-add}
use native.Mathlib.Omega.{arith}
use borrow.Author.Tests.{lt-ltb, le-ltb, ltb-true, ltb-false, leb-true, leb-false}
use lib.Dec.{ltb, leb}
use lib.ListN.{length, get_or, length-append, get_or-append}
use lib.Pow.{pow-add, pow_mono}
use lib.Ieee.{size}
use lib.Ieee.Digits.{size-lt, size_reaches}
use Rattle.lexical_util.specs.Digit.{AreDigits, read_on, digits_value}
use Rattle.lexical_exponent.proofs.PowerLaws.{size_pos}
use Rattle.lexical_write_integer_spec.specs.Digits.{digits_up_to, digits}

-- ---- the two cases, and induction by them
same : (r : ℕ) → 1 < r → (f g x : ℕ) → x ≤ f → x ≤ g → digits_up_to r f x ≡ digits_up_to r g x
unfolding digits_up_to
same r hr zero zero x hf hg = refl
same r hr zero (suc g) x hf hg = rw (lt-ltb x r (omega arith))
same r hr (suc f) zero x hf hg = rw (lt-ltb x r (omega arith))
same r hr (suc f) (suc g) x hf hg = go (ltb x r) refl (λ h. let d = div-lt_self {n = x} {k = r} (omega arith) hr in same r hr f g (x / r) (omega arith) (omega arith))
  where
    go : (b : Bool) → ltb x r ≡ b → (r ≤ x → digits_up_to r f (x / r) ≡ digits_up_to r g (x / r)) → digits_up_to r (suc f) x ≡ digits_up_to r (suc g) x
    go true e ih = rw e
    go false e ih = rw (e, ih (ltb-false x r e))

-- there is always one
up_to_pos : (r n x : ℕ) → 0 < length (digits_up_to r n x)
unfolding digits_up_to
up_to_pos r zero x = omega arith
up_to_pos r (suc n) x = go (ltb x r) refl
  where
    go : (b : Bool) → ltb x r ≡ b → 0 < length (digits_up_to r (suc n) x)
    go true e = rw e (omega arith)
    go false e = rw (e, length-append) (omega arith)

pub count_pos : (r x : ℕ) → 0 < length (digits r x)
unfolding digits
count_pos r x = up_to_pos r x x

-- a number below the radix is its one digit
pub digits_lt : (r x : ℕ) → x < r → digits r x ≡ x ∷ []
unfolding digits digits_up_to
digits_lt r zero h = refl
digits_lt r (suc x) h = rw (lt-ltb (suc x) r h)

-- any other is the digits of its quotient, then its remainder
pub digits_ge : (r x : ℕ) → 1 < r → r ≤ x → digits r x ≡ digits r (x / r) ++ (x % r ∷ [])
unfolding digits digits_up_to
digits_ge r zero hr h = absurd (omega arith)
digits_ge r (suc x) hr h =
    let d = div-lt_self {n = suc x} {k = r} (omega arith) hr in
    rw (le-ltb (suc x) r h, same r hr x (suc x / r) (suc x / r) (omega arith) (omega arith))

-- what holds below the radix, and of a number once of its quotient, holds of every number
abbrev by_fuel : (r : ℕ) → 1 < r → (P : ℕ → Type 0) → ((x : ℕ) → x < r → P x) → ((x : ℕ) → r ≤ x → P (x / r) → P x) → (f x : ℕ) → x ≤ f → P x
by_fuel r hr P small step zero x h = small x (omega arith)
by_fuel r hr P small step (suc f) x h = go (ltb x r) refl (λ k. by_fuel r hr P small step f (x / r) (omega (arith, div-lt_self {n = x} {k = r} (omega arith) hr)))
  where
    go : (b : Bool) → ltb x r ≡ b → (r ≤ x → P (x / r)) → P x
    go true e ih = small x (ltb-true x r e)
    go false e ih = step x (ltb-false x r e) (ih (ltb-false x r e))

pub by_quotient : (r : ℕ) → 1 < r → (P : ℕ → Type 0) → ((x : ℕ) → x < r → P x) → ((x : ℕ) → r ≤ x → P (x / r) → P x) → (x : ℕ) → P x
by_quotient r hr P small step x = by_fuel r hr P small step x x (omega arith)

quotient_pos : (r x : ℕ) → 1 < r → r ≤ x → 0 < x / r
quotient_pos r x hr h = (le-div_iff_mul-le {k = r} {x = 1} {y = x} (omega arith)).1 (rw one-mul h)

-- ---- read back, they are the number
read_snoc : (r n : ℕ) (xs : List ℕ) (d : ℕ) → read_on r n (xs ++ (d ∷ [])) ≡ read_on r n xs * r + d
unfolding read_on
read_snoc r n [] d = refl
read_snoc r n (x ∷ xs) d = read_snoc r (n * r + x) xs d

read_one : (r x : ℕ) → read_on r 0 (x ∷ []) ≡ x
unfolding read_on
read_one r x = simp (zero-mul, zero-add)

pub digits_value_lem : (r : ℕ) → 1 < r → (x : ℕ) → digits_value r (digits r x) ≡ x
digits_value_lem r hr = by_quotient r hr (λ x. digits_value r (digits r x) ≡ x) small step
  where
    small : (x : ℕ) → x < r → digits_value r (digits r x) ≡ x
    small x h = rw (digits_lt r x h) (read_one r x)

    step : (x : ℕ) → r ≤ x → digits_value r (digits r (x / r)) ≡ x / r → digits_value r (digits r x) ≡ x
    step x h ih = rw (digits_ge r x hr h, read_snoc, ih) (div-add-mod' x r)

-- ---- each is below the radix
below_snoc : (r : ℕ) (xs : List ℕ) (d : ℕ) → AreDigits r xs → d < r → AreDigits r (xs ++ (d ∷ []))
below_snoc r [] d h k = (k, tt)
below_snoc r (x ∷ xs) d h k = (h.0, below_snoc r xs d h.1 k)

pub digits_below : (r : ℕ) → 1 < r → (x : ℕ) → AreDigits r (digits r x)
digits_below r hr =
    by_quotient r hr (λ x. AreDigits r (digits r x)) (λ x h. rw (digits_lt r x h) (h, tt))
    (λ x h ih. rw (digits_ge r x hr h) (below_snoc r (digits r (x / r)) (x % r) ih (mod-lt x {m = r} (omega arith))))

-- ---- how many there are
pub count_lt : (r x : ℕ) → x < r → length (digits r x) ≡ 1
count_lt r x h = rw (digits_lt r x h)

pub count_ge : (r x : ℕ) → 1 < r → r ≤ x → length (digits r x) ≡ length (digits r (x / r)) + 1
count_ge r x hr h = rw (digits_ge r x hr h) (length-append (digits r (x / r)) (x % r ∷ []))

-- a number is below the power of as many as its digits, and below no smaller one but the first
pub lt_pow : (r : ℕ) → 1 < r → (x : ℕ) → x < r ^ length (digits r x)
lt_pow r hr = by_quotient r hr (λ x. x < r ^ length (digits r x)) small step
  where
    small : (x : ℕ) → x < r → x < r ^ length (digits r x)
    small x h = rw (count_lt r x h, pow-suc, pow-zero, one-mul) h

    step : (x : ℕ) → r ≤ x → x / r < r ^ length (digits r (x / r)) → x < r ^ length (digits r x)
    step x h ih =
        rw (count_ge r x hr h, pow-add, pow-suc r 0, pow-zero, one-mul)
        ((div-lt_iff_lt-mul {k = r} {x = x} {y = r ^ length (digits r (x / r))} (omega arith)).0 ih)

pub count_le : (r : ℕ) → 1 < r → (k x : ℕ) → x < r ^ suc k → length (digits r x) ≤ suc k
count_le r hr zero x h = omega (arith, count_lt r x (rw (pow-suc, pow-zero, one-mul) at h))
count_le r hr (suc k) x h = go (ltb x r) refl (λ l. count_le r hr k (x / r) ((div-lt_iff_lt-mul {k = r} {x = x} {y = r ^ suc k} (omega arith)).1 (rw pow-suc at h)))
  where
    go : (b : Bool) → ltb x r ≡ b → (r ≤ x → length (digits r (x / r)) ≤ suc k) → length (digits r x) ≤ suc (suc k)
    go true e ih = omega (arith, count_lt r x (ltb-true x r e))
    go false e ih = omega (arith, count_ge r x hr (ltb-false x r e), ih (ltb-false x r e))

pub count_is : (r : ℕ) → 1 < r → (k x : ℕ) → r ^ k ≤ x → x < r ^ suc k → length (digits r x) ≡ suc k
count_is r hr k x l h = le_antisymm (count_le r hr k x h) (go (leb (length (digits r x)) k) refl)
  where
    go : (b : Bool) → leb (length (digits r x)) k ≡ b → suc k ≤ length (digits r x)
    go false e = leb-false (length (digits r x)) k e
    go true e = absurd (omega (arith, lt_of_lt_of_le (lt_pow r hr x) (le_trans (pow-le-pow_right {n = r} (omega arith) (leb-true (length (digits r x)) k e)) l)))

-- ---- radix 2 ^ b: the count is the significant bits over b, rounded up
pub pow_mul : (n a k : ℕ) → (n ^ a) ^ k ≡ n ^ (a * k)
pow_mul n a zero = simp (pow-zero, mul-zero)
pow_mul n a (suc k) = rw (pow-suc (n ^ a) k, pow_mul n a k, mul-suc, pow-add)

pub radix_above : (b : ℕ) → 0 < b → 1 < 2 ^ b
radix_above b h = pow_mono {i = 1} {j = b} h

pub count_by_bits : (b j x : ℕ) → 0 < b → 2 ^ j ≤ x → x < 2 ^ suc j → length (digits (2 ^ b) x) ≡ suc (j / b)
count_by_bits b j x hb l h =
    count_is (2 ^ b) (radix_above b hb) (j / b) x
    (rw (pow_mul 2 b (j / b)) (le_trans (pow_mono {i = b * (j / b)} {j = j} (rw mul_comm (div-mul-le_self j b))) l))
    (rw (pow_mul 2 b (suc (j / b))) (lt_of_lt_of_le h (pow_mono {i = suc j} {j = b * suc (j / b)} above)))
  where
    above : suc j ≤ b * suc (j / b)
    above = rw (mul-suc, mul_comm b (j / b)) (lt-div-mul-add {a = j} {b = b} hb)

pub count_bits : (b x : ℕ) → 0 < b → 0 < x → length (digits (2 ^ b) x) ≡ suc ((size x - 1) / b)
count_bits b x hb hx =
    let s = size_pos x hx in
    let e : suc (size x - 1) ≡ size x = omega arith in
    count_by_bits b (size x - 1) x hb (size_reaches x (size x - 1) (omega arith)) (rw e (size-lt x))

-- ---- no leading zero: the first digit of a number that is not 0 is not 0
pub first_pos : (r : ℕ) → 1 < r → (x : ℕ) → 0 < x → 0 < get_or (digits r x) 0 0
first_pos r hr = by_quotient r hr (λ x. 0 < x → 0 < get_or (digits r x) 0 0) (λ x h p. rw (digits_lt r x h) p) step
  where
    step : (x : ℕ) → r ≤ x → (0 < x / r → 0 < get_or (digits r (x / r)) 0 0) → 0 < x → 0 < get_or (digits r x) 0 0
    step x h ih p = rw (digits_ge r x hr h, get_or-append (digits r (x / r)) (x % r ∷ []) 0 0 (count_pos r (x / r))) (ih (quotient_pos r x hr h))
