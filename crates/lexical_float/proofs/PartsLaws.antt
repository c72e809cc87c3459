-- What the bits of a float say of it: its sign, whether it is finite, and its value by mantissa and exponent. One proof for both widths. Assumes nothing.
use Prim.Native.Nat.{ℕ, zero, suc, ◌+◌, ◌-◌, ◌*◌, ◌/◌, ◌%◌, ◌^◌, ◌≤◌, ◌<◌}
use mathlib.Core.Path.{◌≡◌, refl, sym, ap, ◌∙◌, subst}
use mathlib.Core.Bool.{Bool, true, false, not, cond}
use native.Mathlib.Nat.{suc-mul, mul_comm, mul-pos, add-mod_left, mod-lt, mod-eq_of_lt, mod-mod_of_dvd, dvd-mul_right, zero-lt-suc, div-eq_of_lt-le, mul-add-div, mul-add-mod_self_left, div-lt_iff_lt-mul}
use native.Mathlib.Numerals.{add-one}
use native.Mathlib.Omega.{arith}
use borrow.Author.Tests.{le-leb, lt-leb, eq-eqb, ne_eqb, le-ltb}
use lib.Dec.{T, leb, eqb}
use lib.IntN.{ℤ, pos, negsuc}
use lib.Pow.{pow_pos}
use lib.Ieee.{Float, nan, inf, fin, Format, prec, low, hid, ones, top, up, down, minus, odd, of_fields, of_bits, to_bits, fits, is_nan, ne, nan_bits}
use lib.Ieee.Bits.{is_true, cond_no, of_bits-to_bits, to_bits-of_bits, to_bits-lt, nan_bits_above}
use lib.Ieee.Compare.{nan_differs}
use lib.Ieee.Digits.{minus_val}
use lib.Ieee.Exact.{HasValue, odd_sign}
use lib.Ieee.Scale.{finite}
use Rattle.lexical_float.specs.declared.num.Parts.{Parts}
use Rattle.lexical_float.specs.declared.num.Parts.TheVariants.{Finite, Special}
use Rattle.lexical_float.specs.Encoding.{bits_of}
use Rattle.lexical_float.specs.Parts.{magnitude_of, parts_of, IsValue}
use Rattle.lexical_float.specs.Claims.{PartsAreTheValue}
use Rattle.lexical_exponent.proofs.DifferenceLaws.{by_larger, minus_ge, minus_lt}
use Rattle.lexical_float.proofs.FloatLaws.{same_fraction, own_fraction}

-- ---- a bit pattern: the sign, and the bits n below it
pub record Below (f : Format) (s : Bool) (n : ℕ) : Type 0 where
  pub few : bits_of f s n < 2 * top f
  pub sign : leb (top f) (bits_of f s n) ≡ s
  pub rest : bits_of f s n % top f ≡ n
  pub stored : bits_of f s n % hid f ≡ n % hid f
  pub biased : bits_of f s n / hid f % suc (ones f) ≡ n / hid f

pub below : (f : Format) (s : Bool) (n : ℕ) → n < top f → Below f s n
below f s n h = go s
  where
    field : n / hid f % suc (ones f) ≡ n / hid f
    field = mod-eq_of_lt ((div-lt_iff_lt-mul (pow_pos (prec f - 1))).1 (rw (mul_comm (hid f) (suc (ones f))) at h))

    go : (s : Bool) → Below f s n
    go true =
        record {
          few = omega arith;
          sign = le-leb (top f) (top f + n) (omega arith);
          rest = add-mod_left (top f) n ∙ mod-eq_of_lt h;
          stored = mul-add-mod_self_left (hid f) (suc (ones f)) n;
          biased = ap (λ (x : ℕ). x % suc (ones f)) (mul-add-div (pow_pos (prec f - 1)) (suc (ones f)) n) ∙ add-mod_left (suc (ones f)) (n / hid f) ∙ field;
        }
    go false = record { few = omega arith; sign = lt-leb (top f) n h; rest = mod-eq_of_lt h; stored = refl; biased = field }

-- ---- mantissa and exponent by the two fields of n
abbrev pub mantissa_bits : Format → ℕ → ℕ
mantissa_bits f n = cond (eqb (n / hid f) 0) (n % hid f) (hid f + n % hid f)

abbrev pub exponent_bits : Format → ℕ → ℤ
exponent_bits f n = cond (eqb (n / hid f) 0) (minus 0 (low f)) (minus (n / hid f) (suc (low f)))

-- below the infinity
pub finite_below : (f : Format) (n : ℕ) → n < ones f * hid f → (n < top f) × (n / hid f < ones f)
finite_below f n h = (omega (arith, h, mul_comm (hid f) (suc (ones f)), suc-mul (ones f) (hid f)), (div-lt_iff_lt-mul (pow_pos (prec f - 1))).1 h)

fields_value : (f : Format) (s : Bool) (x t : ℕ) → x < ones f → HasValue (of_fields f s x t) s (cond (eqb x 0) t (hid f + t) * 2 ^ (x - 1)) (2 ^ low f)
unfolding of_fields
fields_value f s zero t h = odd_sign (prec f) s t 0 (low f)
fields_value f s (suc x) t h =
    let small = cond_no (eqb (suc x) (ones f)) (cond (eqb t 0) (inf s) nan) (odd (prec f) s (hid f + t) x (low f)) (rw (ne_eqb (suc x) (ones f) (λ (e : suc x ≡ ones f). omega arith)) tt) in
    let less : suc x - 1 ≡ x = omega arith in
    rw (ne_eqb (suc x) 0 (λ (e : suc x ≡ 0). omega arith), less, small) (odd_sign (prec f) s (hid f + t) x (low f))

pub units_value : (f : Format) (s : Bool) (n : ℕ) → n < ones f * hid f → HasValue (of_bits f (bits_of f s n)) s (mantissa_bits f n * 2 ^ (n / hid f - 1)) (2 ^ low f)
unfolding of_bits
units_value f s n h =
    let b = finite_below f n h in
    let w = below f s n b.0 in
    rw (w.sign, w.rest, w.stored) (fields_value f s (n / hid f) (n % hid f) b.1)

-- ---- from one denominator to another: q * 2 ^ a / 2 ^ l is q * 2 ^ (a - l)
pub value_shift : (x : Float) (s : Bool) (q a l : ℕ) → HasValue x s (q * 2 ^ a) (2 ^ l) → HasValue x s (q * up (minus a l)) (down (minus a l))
value_shift nan s q a l h = h
value_shift (inf t) s q a l h = h
value_shift (fin t m e) s q a l h =
    let w = minus a l in
    (h.0, same_fraction (q * 2 ^ a) (2 ^ l) (m * up e) (down e) (q * up w) (down w) (pow_pos l) (sym h.1) (sym (minus_val q a l)))

minus_suc : (a b : ℕ) → minus (suc a) (suc b) ≡ minus a b
minus_suc a b =
    by_larger a b (minus (suc a) (suc b) ≡ minus a b)
    (λ h. minus_ge (suc a) (suc b) (omega arith) ∙ ap pos (omega arith) ∙ sym (minus_ge a b h))
    (λ h. minus_lt (suc a) (suc b) (omega arith) ∙ ap negsuc (omega arith) ∙ sym (minus_lt a b h))

-- the exponent's field counts up from the denormals' exponent, and has a 1 too many where there is a leading bit
pub lifted : (f : Format) (x : ℕ) → cond (eqb x 0) (minus 0 (low f)) (minus x (suc (low f))) ≡ minus (x - 1) (low f)
lifted f zero = refl
lifted f (suc x) =
    let less : suc x - 1 ≡ x = omega arith in
    rw (ne_eqb (suc x) 0 (λ (e : suc x ≡ 0). omega arith), less) (minus_suc x (low f))

pub bits_value : (f : Format) (s : Bool) (n : ℕ) → n < ones f * hid f → HasValue (of_bits f (bits_of f s n)) s (mantissa_bits f n * up (exponent_bits f n)) (down (exponent_bits f n))
bits_value f s n h = rw (lifted f (n / hid f)) (value_shift (of_bits f (bits_of f s n)) s (mantissa_bits f n) (n / hid f - 1) (low f) (units_value f s n h))

-- ---- the parts of a finite float
pub value_no_nan : (x : Float) (s : Bool) (a c : ℕ) → HasValue x s a c → T (not (is_nan x))
unfolding is_nan
value_no_nan nan s a c h = absurd h
value_no_nan (inf t) s a c h = tt
value_no_nan (fin t m e) s a c h = tt

pub magnitude_bits : (f : Format) (s : Bool) (n : ℕ) → n < ones f * hid f
    → magnitude_of f (of_bits f (bits_of f s n)) ≡ record { mantissa = mantissa_bits f n; exponent = record { 0 = exponent_bits f n } }
magnitude_bits f s n h =
    let w = below f s n (finite_below f n h).0 in
    rw (to_bits-of_bits f (bits_of f s n) w.few (value_no_nan (of_bits f (bits_of f s n)) s _ _ (bits_value f s n h)), w.stored, w.biased)

value_parts : (f : Format) (x : Float) (s : Bool) (a c : ℕ) → HasValue x s a c → parts_of f x ≡ Finite s (magnitude_of f x)
unfolding parts_of
value_parts f nan s a c h = absurd h
value_parts f (inf t) s a c h = absurd h
value_parts f (fin t m e) s a c h = ap (λ (z : Bool). Finite z (magnitude_of f (fin t m e))) h.0

pub parts_bits : (f : Format) (s : Bool) (n : ℕ) → n < ones f * hid f → parts_of f (of_bits f (bits_of f s n)) ≡ Finite s (magnitude_of f (of_bits f n))
parts_bits f s n h =
    value_parts f (of_bits f (bits_of f s n)) s _ _ (bits_value f s n h)
    ∙ ap (Finite s) (magnitude_bits f s n h ∙ sym (magnitude_bits f false n h))

-- ---- from the infinity's bits on there is no value
fields_special : (f : Format) (s : Bool) (x t : ℕ) → x ≡ ones f → parts_of f (of_fields f s x t) ≡ Special
unfolding of_fields parts_of
fields_special f s zero t e = absurd (omega arith)
fields_special f s (suc x) t e = rw (eq-eqb (suc x) (ones f) e) (go (eqb t 0))
  where
    go : (b : Bool) → parts_of f (cond b (inf s) nan) ≡ Special
    go true = refl
    go false = refl

special_bits : (f : Format) (s : Bool) (n : ℕ) → ones f * hid f ≤ n → n < top f → parts_of f (of_bits f (bits_of f s n)) ≡ Special
unfolding of_bits
special_bits f s n l h =
    let w = below f s n h in
    let field : n / hid f ≡ ones f = div-eq_of_lt-le (hid f) l (rw (add-one (ones f), mul_comm (suc (ones f)) (hid f)) h) in
    rw (w.sign, w.rest, w.stored) (fields_special f s (n / hid f) (n % hid f) field)

-- ---- the parts of a float are its value
pub special_parts : (f : Format) (x : Float) → not (finite x) ≡ true → Special ≡ parts_of f x
unfolding parts_of
special_parts f nan e = refl
special_parts f (inf s) e = refl
special_parts f (fin s m d) e = absurd (let z : ◌≡◌ {A = ℕ} 0 1 = cc in omega arith)

special_value : (f : Format) (x : Float) → parts_of f x ≡ Special → T (not (finite x))
unfolding parts_of
special_value f nan e = tt
special_value f (inf s) e = tt
special_value f (fin s m d) e = absurd (let z : ◌≡◌ {A = ℕ} 0 1 = cc in omega arith)

parts_value_bits : (f : Format) (s : Bool) (n : ℕ) → n < top f → IsValue (of_bits f (bits_of f s n)) (parts_of f (of_bits f (bits_of f s n)))
parts_value_bits f s n h =
    let x = of_bits f (bits_of f s n) in
    by_larger n (ones f * hid f) (IsValue x (parts_of f x))
    (λ l. let e = special_bits f s n l h in rw e (special_value f x e))
    (λ l. subst (IsValue x) (sym (parts_bits f s n l ∙ ap (Finite s) (magnitude_bits f false n l))) (bits_value f s n l))

-- a pattern of the width is a sign and the bits below it
pub split_bits : (f : Format) (b : ℕ) → b < 2 * top f → (P : ℕ → Type 0) → ((s : Bool) (n : ℕ) → n < top f → P (bits_of f s n)) → P b
split_bits f b h P each =
    by_larger b (top f) (P b) (λ l. subst P (let z : top f + (b - top f) ≡ b = omega arith in z) (each true (b - top f) (omega arith))) (λ l. each false b l)

-- the sign and the bits below it, by comparison and remainder
pub sign_and_rest : (f : Format) (b : ℕ) → b < 2 * top f → b ≡ bits_of f (leb (top f) b) (b % top f)
sign_and_rest f b h = split_bits f b h (λ b. b ≡ bits_of f (leb (top f) b) (b % top f)) (λ s n l. let w = below f s n l in rw (w.sign, w.rest))

pub parts_value : PartsAreTheValue
parts_value f x h =
    subst (λ (y : Float). IsValue y (parts_of f y)) (of_bits-to_bits f x h)
    (split_bits f (to_bits f x) (to_bits-lt f x h) (λ b. IsValue (of_bits f b) (parts_of f (of_bits f b))) (parts_value_bits f))

-- ---- a float by way of its bits, where it has some
pub no_nan : (x : Float) → ne x x ≡ false → T (not (is_nan x))
unfolding is_nan
no_nan nan e = subst T (sym nan_differs ∙ e) tt
no_nan (inf s) e = tt
no_nan (fin s m d) e = tt

pub float_parts : (f : Format) (x : Float) (r : Parts) → T (fits f x) → r ≡ parts_of f (of_bits f (to_bits f x)) → (r ≡ parts_of f x) × IsValue x r
float_parts f x r h e =
    let p : r ≡ parts_of f x = e ∙ ap (parts_of f) (of_bits-to_bits f x h) in
    (p, rw p (parts_value f x h))

-- ---- a float is not finite exactly where its bits below the sign reach the infinity's
by_sign : (f : Format) (b : ℕ) → of_bits f b ≡ of_bits f (bits_of f (leb (top f) b) (b % top f))
unfolding of_bits
by_sign f b =
    let w = below f (leb (top f) b) (b % top f) (mod-lt b (mul-pos (pow_pos (prec f - 1)) (zero-lt-suc (ones f)))) in
    rw (w.sign, w.rest, w.stored, mod-mod_of_dvd (hid f) b (dvd-mul_right (hid f) (suc (ones f))))

pub special_test : (f : Format) (b : ℕ) → leb (ones f * hid f) (b % top f) ≡ not (finite (of_bits f b))
special_test f b =
    let s = leb (top f) b in
    let n = b % top f in
    let x = of_bits f (bits_of f s n) in
    by_larger n (ones f * hid f) (leb (ones f * hid f) n ≡ not (finite x))
    (λ l. le-leb (ones f * hid f) n l ∙ sym (is_true (not (finite x)) (special_value f x (special_bits f s n l (mod-lt b (mul-pos (pow_pos (prec f - 1)) (zero-lt-suc (ones f))))))))
    (λ l. lt-leb (ones f * hid f) n l ∙ sym (ap not (is_true (finite x) (own_fraction x s _ _ (bits_value f s n l)).is_finite)))
    ∙ ap (λ (y : Float). not (finite y)) (sym (by_sign f b))

-- bits that a test against the infinity's leaves are no NaN's
pub tested_bits : (f : Format) (b : ℕ) → b % top f ≤ ones f * hid f → T (not (nan_bits f b))
tested_bits f b h = rw (nan_bits_above f b, le-ltb (ones f * hid f) (b % top f) h) tt
