-- The count of digits in radix 2 ^ b, by the significant bits. Assumes nothing.
use Prim.Native.Nat.{ℕ, zero, suc, ◌+◌, ◌-◌, ◌*◌, ◌/◌, ◌^◌, ◌≤◌, ◌<◌, max}
use mathlib.Core.Path.{◌≡◌, refl, ap, ◌∙◌}
use mathlib.Core.Bool.{Bool, true, false}
use native.Mathlib.Nat.{zero-div, zero-mul, zero-lt-suc, div-eq_of_lt, add-div_right, mul-div-le, mul-le-mul_left, lt_of_le_of_lt}
use native.Mathlib.Omega.{arith}
use borrow.Author.Tests.{leb-true, leb-false, eqb-true, eqb-false}
use lib.Dec.{leb, eqb, lit≤}
use lib.Ieee.{size}
use lib.Ieee.Digits.{size-le}
use lib.ListN.{length}
use lib.Pow.{pow_pos}
use Rattle.lexical_util.specs.Digit.{greatest_width, is_radix, is_width, digit_bits}
use Rattle.lexical_util.proofs.BitsLaws.{power_of}
use Rattle.lexical_util.proofs.WidthLaws.{width_bounds}
use Rattle.lexical_exponent.proofs.PowerLaws.{size_zero, size_pos}
use Rattle.lexical_write_integer_spec.specs.Digits.{digits}
use Rattle.lexical_write_integer_spec.specs.Write.{digit_count}
use Rattle.lexical_write_integer_spec.proofs.DigitsLaws.{count_lt, count_bits}
use Rattle.lexical_write_integer_spec.proofs.NumeralLaws.{length_numeral}
use Rattle.lexical_write_integer_spec.proofs.DigitsAnswer.{count_known}

decimal_bits : digit_bits 10 ≡ 0
unfolding digit_bits
decimal_bits = refl

-- the significant bits over b, rounded up, and at least 1
pub count_ceil : (b x : ℕ) → 0 < b → length (digits (2 ^ b) x) ≡ max 1 ((size x + b - 1) / b)
count_ceil b zero B =
    let q : (size 0 + b - 1) / b ≡ 0 = div-eq_of_lt (let z : size 0 + b - 1 < b = omega (arith, size_zero) in z) in
    omega (arith, count_lt (2 ^ b) 0 (pow_pos b))
count_ceil b (suc x) B =
    let s = size_pos (suc x) (zero-lt-suc x) in
    let e : size (suc x) + b - 1 ≡ size (suc x) - 1 + b = omega arith in
    let q : (size (suc x) + b - 1) / b ≡ (size (suc x) - 1) / b + 1 = ap (λ (k : ℕ). k / b) e ∙ add-div_right (size (suc x) - 1) {k = b} B in
    omega (arith, count_bits b (suc x) B (zero-lt-suc x))

pub count_log : (b x : ℕ) → 0 < b → (size x - 1) / b + 1 ≡ length (digits (2 ^ b) x)
count_log b zero hb = rw (size_zero, zero-div, count_lt (2 ^ b) 0 (pow_pos b))
count_log b (suc x) hb = omega (arith, count_bits b (suc x) hb (omega arith))

-- the first digit's shift is one of a u64
digits_room : (b x n w : ℕ) → 0 < b → b ≤ 5 → w ≤ greatest_width → x < 2 ^ 64 → n ≡ max w (length (digits (2 ^ b) x)) → b * (n - 1) < 64
digits_room b x n w some few wide h e = go (leb n w) refl
  where
    go : (t : Bool) → leb n w ≡ t → b * (n - 1) < 64
    go true l = let k : n - 1 ≤ greatest_width - 1 = omega (arith, leb-true n w l) in omega (arith, mul-le-mul_left b k)
    go false l =
        let k : n - 1 ≤ (size x - 1) / b = omega (arith, leb-false n w l, count_log b x some) in
        lt_of_le_of_lt (mul-le-mul_left b k) (omega (arith, mul-div-le (size x - 1) b, size-le x 64 h))

pub count_room : (x r w n : ℕ) → is_radix r ≡ true → is_width w ≡ true → x < 2 ^ 64 → n ≡ digit_count x r w → digit_bits r * (n - 1) < 64
count_room x r w n known wide h e = go (eqb r 10) refl
  where
    bits : (r ≡ 10 → ⊥) → digit_bits r * (n - 1) < 64
    bits other =
        let P = power_of r known other in
        digits_room (digit_bits r) x n w P.some_bits P.few_bits (width_bounds w wide).1 h (rw P.is (e ∙ count_known x r w known ∙ length_numeral r w x))

    go : (t : Bool) → eqb r 10 ≡ t → digit_bits r * (n - 1) < 64
    go true t = rw (eqb-true r 10 t, decimal_bits, zero-mul) (lit≤ tt)
    go false t = bits (eqb-false r 10 t)
