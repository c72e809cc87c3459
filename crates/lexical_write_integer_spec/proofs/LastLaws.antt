-- The last digits of a number, as bytes: a number's own digits are its last ones, and its last ones are the last of its quotient and then more. Assumes nothing.
use Prim.Native.Nat.{ℕ, zero, suc, ◌+◌, ◌-◌, ◌/◌, ◌^◌, ◌≤◌, ◌<◌}
use mathlib.Core.Path.{◌≡◌, refl, sym, ap, ◌∙◌}
use mathlib.Core.List.{[], ◌∷◌, ◌++◌, map, map-append, append_assoc, append-nil}
use native.Mathlib.Nat.{zero-div, div-eq_of_lt, add-zero, add-suc, div-one, div-div-eq-div-mul, pow-zero, pow-suc, mul_comm, mod-eq_of_lt}
use native.Mathlib.Numerals.{add-one}
use native.Mathlib.Omega.{arith}
use lib.ListN.{length, replicate, length-append, replicate-append-replicate}
use Rattle.lexical_util.specs.Digit.{digit_byte}
use Rattle.lexical_write_integer_spec.specs.Digits.{digits, widened, numeral}
use Rattle.lexical_write_integer_spec.specs.Write.{last_numeral}
use Rattle.lexical_write_integer_spec.proofs.DigitsLaws.{by_quotient, count_ge, lt_pow, digits_lt, digits_ge}
use Rattle.lexical_write_integer_spec.proofs.NumeralLaws.{length_numeral}

pub length_last : (r k x : ℕ) → length (last_numeral r k x) ≡ k
unfolding last_numeral
length_last r zero x = refl
length_last r (suc k) x = rw (length-append, length_last r k (x / r), add-one)

-- a number's own digits
digits_last : (r : ℕ) → 1 < r → (x : ℕ) → map digit_byte (digits r x) ≡ last_numeral r (length (digits r x)) x
unfolding last_numeral
digits_last r hr = by_quotient r hr (λ x. map digit_byte (digits r x) ≡ last_numeral r (length (digits r x)) x) small step
  where
    small : (x : ℕ) → x < r → map digit_byte (digits r x) ≡ last_numeral r (length (digits r x)) x
    small x h = rw (digits_lt r x h, mod-eq_of_lt {n = x} {m = r} h)

    step : (x : ℕ) → r ≤ x → map digit_byte (digits r (x / r)) ≡ last_numeral r (length (digits r (x / r))) (x / r) → map digit_byte (digits r x) ≡ last_numeral r (length (digits r x)) x
    step x h ih = rw (count_ge r x hr h, digits_ge r x hr h, map-append, add-one, ih)

pub last_add : (r j k x : ℕ) → last_numeral r (j + k) x ≡ last_numeral r j (x / r ^ k) ++ last_numeral r k x
unfolding last_numeral
last_add r j zero x = rw (add-zero, pow-zero, div-one, append-nil)
last_add r j (suc k) x = rw (add-suc, last_add r j k (x / r), append_assoc, div-div-eq-div-mul, pow-suc, mul_comm)

-- of zero they are zeros
zeros_last : (r n : ℕ) → 1 < r → map digit_byte (replicate {A = ℕ} n 0) ≡ last_numeral r n 0
unfolding last_numeral
zeros_last r zero hr = refl
zeros_last r (suc n) hr =
    let e : replicate {A = ℕ} (suc n) 0 ≡ replicate {A = ℕ} n 0 ++ (0 ∷ []) = rw (replicate-append-replicate {A = ℕ} n 1 0, add-one) in
    let more : map digit_byte (replicate {A = ℕ} n 0) ++ (digit_byte 0 ∷ []) ≡ last_numeral r (suc n) 0 = rw (zero-div r, mod-eq_of_lt {n = 0} {m = r} (omega arith), zeros_last r n hr) in
    ap (map digit_byte) e ∙ map-append digit_byte (replicate {A = ℕ} n 0) (0 ∷ []) ∙ more

-- in any width the digits are the last ones, since before its own a number has zeros
pub numeral_last : (r : ℕ) → 1 < r → (w x : ℕ) → numeral r w x ≡ last_numeral r (length (numeral r w x)) x
unfolding numeral widened
numeral_last r hr w x =
    let n = length (digits r x) in
    let q : x / r ^ n ≡ 0 = div-eq_of_lt (lt_pow r hr x) in
    let e : length (numeral r w x) ≡ w - n + n = omega (arith, length_numeral r w x) in
    let before : last_numeral r (w - n) 0 ≡ last_numeral r (w - n) (x / r ^ n) = rw q in
    map-append digit_byte (replicate {A = ℕ} (w - n) 0) (digits r x)
    ∙ rw (zeros_last r (w - n) hr, digits_last r hr x, before) (sym (last_add r (w - n) n x))
    ∙ ap (λ (k : ℕ). last_numeral r k x) (sym e)
