-- The number in radix 10 that a text is: that of a numeral, one at most its limit, and digit by digit. Assumes nothing.
use Prim.Native.Nat.{ℕ, zero, suc, ◌+◌, ◌*◌, ◌/◌, ◌≤◌, ◌<◌}
use mathlib.Core.Path.{◌≡◌, refl, sym, ap, ◌∙◌}
use mathlib.Core.Bool.{Bool, true, false, cond, ◌&&◌, and-false}
use mathlib.Core.List.{List, [], ◌∷◌}
use Rattle.std.specs.Prelude.{Option, None, Some}
use native.Mathlib.Omega.{arith}
use borrow.Author.Tests.{le-leb, lt-leb, leb-true, eq-eqb, ne_eqb, eqb-true}
use lib.Dec.{leb, eqb, eqb-zero-suc, eqb-suc-suc}
use lib.ListN.{length, get_or, length-map}
use Rattle.lexical_util.specs.Digit.{digit_byte, digit_in, AreDigits, read_on, digits_value}
use Rattle.lexical_util.proofs.DigitLaws.{in_digit, byte_figure}
use Rattle.lexical_write_integer_spec.specs.Digits.{digits, numeral}
use Rattle.lexical_write_integer_spec.proofs.DigitsLaws.{digits_value_lem, digits_below, count_lt, count_ge, count_pos}
use Rattle.lexical_write_integer_spec.proofs.NumeralLaws.{numeral_one}
use Rattle.lexical_read_float_spec.specs.Parse.{run, more}
use Rattle.lexical_read_float_spec.proofs.RunLaws.{run_stops, run_all, is_run}
use Rattle.outage_spec.specs.Sheet.{number_in}

-- the digits in front of a text, and how many digits the number has that digits spell
abbrev front : List ℕ → List ℕ
front l = (run 10 l).got

abbrev count : List ℕ → ℕ
count ds = length (digits 10 (digits_value 10 ds))

-- ---- the number of a numeral
pub number_numeral : (limit x : ℕ) → x ≤ limit → number_in limit (numeral 10 1 x) ≡ Some x
unfolding number_in
number_numeral limit x h =
    rw (
      numeral_one 10 x,
      run_all 10 (digits 10 x) (omega arith) (digits_below 10 (omega arith) x),
      digits_value_lem 10 (omega arith) x,
      length-map (digits 10 x) digit_byte,
      eq-eqb (length (digits 10 x)) (length (digits 10 x)) refl,
      le-leb x limit h,
    )

-- ---- a number is at most its limit
pub number_le : (limit : ℕ) (l : List ℕ) (n : ℕ) → number_in limit l ≡ Some n → n ≤ limit
unfolding number_in
number_le limit l n e = go (eqb (length (front l)) (length l)) (eqb (count (front l)) (length l)) (leb m limit) refl e
  where
    m : ℕ
    m = digits_value 10 (front l)

    none_some : None ≡ Some n → ⊥
    none_some e = let z : ◌≡◌ {A = ℕ} 0 1 = cc in omega arith

    go : (a b c : Bool) → leb m limit ≡ c → cond (a && (b && c)) (Some m) None ≡ Some n → n ≤ limit
    go true true true q e = let z : m ≡ n = cc in omega (arith, leb-true m limit q)
    go true true false q e = absurd (none_some e)
    go true false c q e = absurd (none_some e)
    go false b c q e = absurd (none_some e)

-- ---- digits only, behind those that spell a, and at most a limit; leading zeros pass
abbrev pub spelled : ℕ → ℕ → List ℕ → Option ℕ
spelled limit a l =
    let ds = (run 10 l).got in
    let n = read_on 10 a ds in
    cond (eqb (length ds) (length l) && leb n limit) (Some n) None

read_ge : (a : ℕ) (ds : List ℕ) → a ≤ read_on 10 a ds
unfolding read_on
read_ge a [] = omega arith
read_ge a (d ∷ ds) = omega (arith, read_ge (a * 10 + d) ds)

module _ (limit a : ℕ) where
  pub spelled_end : a ≤ limit → spelled limit a [] ≡ Some a
  unfolding run read_on
  spelled_end h = rw (le-leb a limit h)

  pub spelled_above : (l : List ℕ) → limit < a → spelled limit a l ≡ None
  spelled_above l h = rw (lt-leb (read_on 10 a (front l)) limit (omega (arith, read_ge a (front l))), and-false)

  module _ (x : ℕ) (xs : List ℕ) where
    pub spelled_other : digit_in 10 x ≡ None → spelled limit a (x ∷ xs) ≡ None
    spelled_other e = rw (run_stops 10 x xs e, eqb-zero-suc (length xs))

    pub spelled_digit : (d : ℕ) → digit_in 10 x ≡ Some d → spelled limit a (x ∷ xs) ≡ spelled limit (a * 10 + d) xs
    unfolding run read_on
    spelled_digit d e = rw (e, eqb-suc-suc (length (front xs)) (length xs))

-- ---- how many digits a number has, behind whose digits others were read
next_count : (a d : ℕ) → d < 10 → 0 < a → length (digits 10 (a * 10 + d)) ≡ length (digits 10 a) + 1
next_count a d h k =
    let q : (a * 10 + d) / 10 ≡ a = omega arith in
    count_ge 10 (a * 10 + d) (omega arith) (omega arith) ∙ ap (λ (z : ℕ). length (digits 10 z) + 1) q

on_count : (a : ℕ) (ds : List ℕ) → AreDigits 10 ds → 0 < a → length (digits 10 (read_on 10 a ds)) ≡ length (digits 10 a) + length ds
unfolding read_on
on_count a [] k h = omega arith
on_count a (d ∷ ds) k h = omega (arith, on_count (a * 10 + d) ds k.1 (omega arith), next_count a d k.0 h)

on_most : (a : ℕ) (ds : List ℕ) → AreDigits 10 ds → length (digits 10 (read_on 10 a ds)) ≤ length (digits 10 a) + length ds
unfolding read_on
on_most a [] k = omega arith
on_most zero (d ∷ ds) k = omega (arith, on_most (0 * 10 + d) ds k.1, count_lt 10 (0 * 10 + d) (omega (arith, k.0)))
on_most (suc a) (d ∷ ds) k = omega (arith, on_count (suc a) (d ∷ ds) k (omega arith))

-- ---- as many as were read, but fewer where a 0 stands in front of others
first_count : (ds : List ℕ) → AreDigits 10 ds → 0 < get_or ds 0 0 → count ds ≡ length ds
unfolding read_on
first_count [] k h = absurd (omega arith)
first_count (d ∷ ds) k h = omega (arith, on_count (0 * 10 + d) ds k.1 (omega arith), count_lt 10 (0 * 10 + d) (omega (arith, k.0)))

one_count : (ds : List ℕ) → AreDigits 10 ds → length ds ≡ 1 → count ds ≡ length ds
unfolding read_on
one_count [] k h = absurd (omega arith)
one_count (d ∷ []) k h = count_lt 10 (0 * 10 + d) (omega (arith, k.0))
one_count (d ∷ e ∷ ds) k h = absurd (omega arith)

zero_count : (ds : List ℕ) → AreDigits 10 ds → 1 < length ds → get_or ds 0 0 ≡ 0 → count ds < length ds
unfolding read_on
zero_count [] k h z = absurd (omega arith)
zero_count (d ∷ []) k h z = absurd (omega arith)
zero_count (d ∷ e ∷ ds) k h z =
    let a = (0 * 10 + d) * 10 + e in
    omega (arith, on_most a ds k.1.1, count_lt 10 a (omega (arith, k.1.0)))

-- ---- a text by its first byte
first_byte : (l : List ℕ) → length (front l) ≡ length l → 0 < length l → get_or l 0 0 ≡ 48 + get_or (front l) 0 0
unfolding run
first_byte [] h k = absurd (omega arith)
first_byte (x ∷ xs) h k = go (digit_in 10 x) refl h
  where
    go : (v : Option ℕ) → digit_in 10 x ≡ v → length (more x xs v (run 10 xs)).got ≡ suc (length xs) → x ≡ 48 + get_or (more x xs v (run 10 xs)).got 0 0
    go None e h = absurd (omega arith)
    go (Some d) e h = let k = in_digit 10 x d e in sym k.0 ∙ byte_figure d k.1

module _ (limit : ℕ) (l : List ℕ) where
  by_count : (length (front l) ≡ length l → count (front l) ≡ length l) → number_in limit l ≡ spelled limit 0 l
  unfolding number_in
  by_count h = go (eqb (length (front l)) (length l)) refl
    where
      go : (b : Bool) → eqb (length (front l)) (length l) ≡ b → number_in limit l ≡ spelled limit 0 l
      go true q = rw (eq-eqb (count (front l)) (length l) (h (eqb-true (length (front l)) (length l) q)))
      go false q = rw q

  no_count : (length (front l) ≡ length l → count (front l) ≡ length l → ⊥) → number_in limit l ≡ None
  unfolding number_in
  no_count h = go (eqb (length (front l)) (length l)) refl
    where
      go : (b : Bool) → eqb (length (front l)) (length l) ≡ b → number_in limit l ≡ None
      go true q = rw (ne_eqb (count (front l)) (length l) (h (eqb-true (length (front l)) (length l) q)), and-false)
      go false q = rw q

  pub in_none : length l ≡ 0 → number_in limit l ≡ None
  in_none h = no_count (λ e c. omega (arith, c, count_pos 10 (digits_value 10 (front l))))

  pub in_one : length l ≡ 1 → number_in limit l ≡ spelled limit 0 l
  in_one h = by_count (λ e. one_count (front l) (is_run 10 l).digits (e ∙ h) ∙ e)

  pub in_first : 0 < length l → (get_or l 0 0 ≡ 48 → ⊥) → number_in limit l ≡ spelled limit 0 l
  in_first h k = by_count (λ e. first_count (front l) (is_run 10 l).digits (omega (arith, first_byte l e h)) ∙ e)

  pub in_zero : 1 < length l → get_or l 0 0 ≡ 48 → number_in limit l ≡ None
  in_zero h k = no_count (λ e c. omega (arith, e, c, zero_count (front l) (is_run 10 l).digits (omega (arith, e)) (omega (arith, first_byte l e (omega arith)))))
