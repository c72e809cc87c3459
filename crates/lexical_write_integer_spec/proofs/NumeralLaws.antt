-- The laws of a number's digits in a least width, and of their bytes. In width 1 there are no zeros in front. Assumes nothing.
use Prim.Native.Nat.{ℕ, zero, suc, ◌+◌, ◌-◌, ◌*◌, ◌/◌, ◌%◌, ◌≤◌, ◌<◌, max}
use mathlib.Core.Path.{◌≡◌, refl, ap, ◌∙◌}
use mathlib.Core.Bool.{Bool, true, false}
use mathlib.Core.List.{List, [], ◌∷◌, ◌++◌, map, map-append}
use native.Mathlib.Nat.{zero-mul, zero-add, mod-eq_of_lt}
use native.Mathlib.Omega.{arith}
use borrow.Author.Tests.{ltb-true, ltb-false}
use lib.Dec.{ltb}
use lib.ListN.{length, get_or, replicate, length-append, length-map, length-replicate}
use lib.Seq.{get_or_at}
use Rattle.lexical_util.specs.Digit.{digit_byte, AreDigits, read_on, digits_value}
use Rattle.lexical_write_integer_spec.specs.Digits.{digits, widened, numeral}
use Rattle.lexical_write_integer_spec.proofs.DigitsLaws.{count_pos, count_ge, digits_lt, digits_ge, digits_value_lem, digits_below}

-- ---- how many
pub length_widened : (w : ℕ) (ds : List ℕ) → length (widened w ds) ≡ max w (length ds)
unfolding widened
length_widened w ds = simp (length-append, length-replicate) (omega arith)

pub length_numeral : (r w x : ℕ) → length (numeral r w x) ≡ max w (length (digits r x))
unfolding numeral
length_numeral r w x = length-map (widened w (digits r x)) digit_byte ∙ length_widened w (digits r x)

-- ---- zeros in front change no value, and are digits
zeros_read : (r n : ℕ) (ds : List ℕ) → read_on r 0 (replicate {A = ℕ} n 0 ++ ds) ≡ read_on r 0 ds
unfolding read_on
zeros_read r zero ds = refl
zeros_read r (suc n) ds =
    let e : 0 * r + 0 ≡ 0 = simp (zero-mul, zero-add) in
    ap (λ (k : ℕ). read_on r k (replicate {A = ℕ} n 0 ++ ds)) e ∙ zeros_read r n ds

pub widened_value : (r w x : ℕ) → 1 < r → digits_value r (widened w (digits r x)) ≡ x
unfolding widened
widened_value r w x hr = zeros_read r (w - length (digits r x)) (digits r x) ∙ digits_value_lem r hr x

zeros_below : (r n : ℕ) (ds : List ℕ) → 0 < r → AreDigits r ds → AreDigits r (replicate {A = ℕ} n 0 ++ ds)
zeros_below r zero ds h k = k
zeros_below r (suc n) ds h k = (h, zeros_below r n ds h k)

pub widened_below : (r w x : ℕ) → 1 < r → AreDigits r (widened w (digits r x))
unfolding widened
widened_below r w x hr = zeros_below r (w - length (digits r x)) (digits r x) (omega arith) (digits_below r hr x)

-- ---- width 1
pub widened_one : (r x : ℕ) → widened 1 (digits r x) ≡ digits r x
unfolding widened
widened_one r x = let e : 1 - length (digits r x) ≡ 0 = omega (arith, count_pos r x) in rw e

pub numeral_one : (r x : ℕ) → numeral r 1 x ≡ map digit_byte (digits r x)
unfolding numeral
numeral_one r x = ap (map digit_byte) (widened_one r x)

pub length_one : (r x : ℕ) → length (numeral r 1 x) ≡ length (digits r x)
length_one r x = omega (arith, length_numeral r 1 x, count_pos r x)

pub numeral_lt : (r x : ℕ) → x < r → numeral r 1 x ≡ digit_byte x ∷ []
numeral_lt r x h = rw (numeral_one r x, digits_lt r x h)

pub numeral_ge : (r x : ℕ) → 1 < r → r ≤ x → numeral r 1 x ≡ numeral r 1 (x / r) ++ (digit_byte (x % r) ∷ [])
numeral_ge r x hr h =
    rw (numeral_one r x, numeral_one r (x / r)) (ap (map digit_byte) (digits_ge r x hr h) ∙ map-append digit_byte (digits r (x / r)) (x % r ∷ []))

-- the last byte is the remainder's
pub last_byte : (r x d : ℕ) → 1 < r → get_or (numeral r 1 x) (length (numeral r 1 x) - 1) d ≡ digit_byte (x % r)
last_byte r x d hr = go (ltb x r) refl
  where
    go : (b : Bool) → ltb x r ≡ b → get_or (numeral r 1 x) (length (numeral r 1 x) - 1) d ≡ digit_byte (x % r)
    go true e = let h = ltb-true x r e in rw (numeral_lt r x h, mod-eq_of_lt {n = x} {m = r} h)
    go false e =
        let h = ltb-false x r e in
        let n : length (numeral r 1 (x / r)) ≡ length (numeral r 1 x) - 1 = omega (arith, length_one r x, length_one r (x / r), count_ge r x hr h) in
        rw (← n, numeral_ge r x hr h) (get_or_at (numeral r 1 (x / r)) (digit_byte (x % r)) [] d (length (numeral r 1 (x / r))) refl)
