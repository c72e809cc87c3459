-- The digits in a text from a place on, one byte at a time, and a sum of digits that saturates. Assumes nothing.
use Prim.Native.Nat.{ℕ, zero, suc, ◌+◌, ◌-◌, ◌*◌, ◌≤◌, ◌<◌, min}
use mathlib.Core.Path.{◌≡◌, refl, sym, ap, ◌∙◌, subst}
use mathlib.Core.Bool.{Bool, true, false, ◌&&◌, and-true, and_assoc}
use mathlib.Core.List.{List, [], ◌∷◌}
use Rattle.std.specs.Prelude.{Option, None, Some}
use mathlib.Core.Logic.{◌⊎◌, inl, inr}
use native.Mathlib.Nat.{lt_of_not-le, mul-one, mul-le-mul_left}
use native.Mathlib.Numerals.{add-one}
use native.Mathlib.Decide.{dec_le}
use native.Mathlib.Omega.{arith}
use borrow.Author.Tests.{lt-ltb, le-ltb, ltb-true, ltb-false, ne_eqb}
use lib.Bits.{bit_or, or_add_and, and_le_r}
use lib.Dec.{ltb, eqb}
use lib.ListN.{length, drop, get_or, drop_of_length-le}
use lib.Seq.{drop-cons}
use Rattle.std.proofs.lemmas.Bool.{cases_lt}
use Rattle.lexical_util.specs.Digit.{digit_value, digit_in, read_on}
use Rattle.lexical_util.proofs.DigitLaws.{value_figure, value_low}
use Rattle.lexical_read_float_spec.specs.Parse.{more, run}
use Rattle.lexical_read_float.specs.Digits.{IsDigitOrNone, digits_from, end_from, all_zero}
use Rattle.lexical_read_float.specs.Scan.{too_great}

-- ---- the digit of a radix that a byte is, by a number that tells its digit value
module _ (radix x d : ℕ) (small : radix ≤ 32) (is : IsDigitOrNone (digit_value x) d) where
  pub digit_below : d < radix → digit_in radix x ≡ Some d
  unfolding digit_in
  digit_below h = rw (is.digit (omega arith), lt-ltb d radix h)

  pub digit_above : radix ≤ d → digit_in radix x ≡ None
  unfolding digit_in
  digit_above h = elim (dec_le 32 d) [
    | yes g ↦ rw (is.no_digit g)
    | no g ↦ rw (is.digit (lt_of_not-le g), le-ltb d radix h)
  ]

-- ---- a number that tells a digit value, or that there is none
pub tells_digit : (x d : ℕ) → digit_value x ≡ Some d → d < 32 → IsDigitOrNone (digit_value x) d
tells_digit x d e h = record { digit = λ l. e; no_digit = λ l. absurd (omega arith) }

pub tells_none : (x d : ℕ) → digit_value x ≡ None → 32 ≤ d → IsDigitOrNone (digit_value x) d
tells_none x d e h = record { digit = λ l. absurd (omega arith); no_digit = λ l. e }

-- figures, and none for any other byte
pub tells_figure : (x f : ℕ) → (57 < x → digit_value x ≡ None) → (48 ≤ x → x ≤ 57 → f ≡ x - 48) → (x < 48 → f ≡ 255) → (57 < x → f ≡ 255) → IsDigitOrNone (digit_value x) f
tells_figure x f above is low high = go (cases_lt x 48) (cases_lt 57 x)
  where
    go : (x < 48) ⊎ (48 ≤ x) → (57 < x) ⊎ (x ≤ 57) → IsDigitOrNone (digit_value x) f
    go (inl a) s = tells_none x f (value_low x a) (omega (arith, low a))
    go (inr a) (inl b) = tells_none x f (above b) (omega (arith, high b))
    go (inr a) (inr b) = tells_digit x f (value_figure x a b ∙ ap Some (sym (is a b))) (omega (arith, is a b))

pub cons_nil : (d : ℕ) (ds : List ℕ) → d ∷ ds ≡ [] → ⊥
cons_nil d ds e = let z : ◌≡◌ {A = ℕ} 0 1 = cc in omega arith

-- ---- the digits from place i on
got_more : (radix x d : ℕ) (xs : List ℕ) → digit_in radix x ≡ Some d → (run radix (x ∷ xs)).got ≡ d ∷ (run radix xs).got
unfolding run
got_more radix x d xs e = ap (λ (o : Option ℕ). (more x xs o (run radix xs)).got) e

got_stop : (radix x : ℕ) (xs : List ℕ) → digit_in radix x ≡ None → (run radix (x ∷ xs)).got ≡ []
unfolding run
got_stop radix x xs e = ap (λ (o : Option ℕ). (more x xs o (run radix xs)).got) e

module _ (radix : ℕ) (t : List ℕ) (i : ℕ) where
  at : (u : List ℕ) → drop i t ≡ u → digits_from radix t i ≡ (run radix u).got
  at u e = ap (λ (l : List ℕ). (run radix l).got) e

  pub from_more : (d : ℕ) → i < length t → digit_in radix (get_or t i 0) ≡ Some d → digits_from radix t i ≡ d ∷ digits_from radix t (i + 1)
  from_more d h e =
      at _ (drop-cons t i 0 h) ∙ got_more radix (get_or t i 0) d (drop (suc i) t) e ∙ ap (λ (j : ℕ). d ∷ digits_from radix t j) (sym (add-one i))

  pub from_stop : i < length t → digit_in radix (get_or t i 0) ≡ None → digits_from radix t i ≡ []
  from_stop h e = at _ (drop-cons t i 0 h) ∙ got_stop radix (get_or t i 0) (drop (suc i) t) e

  pub from_end : length t ≤ i → digits_from radix t i ≡ []
  unfolding run
  from_end h = at _ (drop_of_length-le t h)

-- a loop has come from place `from` to i, and the digits from either end at the same place
module _ (radix : ℕ) (t : List ℕ) (from i : ℕ) (ends : end_from radix t i ≡ end_from radix t from) where
  pub end_here : digits_from radix t i ≡ [] → i ≡ end_from radix t from
  end_here e = let n : length (digits_from radix t i) ≡ 0 = ap (λ (l : List ℕ). length l) e in omega arith

  pub end_on : (d : ℕ) → digits_from radix t i ≡ d ∷ digits_from radix t (i + 1) → end_from radix t (i + 1) ≡ end_from radix t from
  end_on d e = let n : length (digits_from radix t i) ≡ suc (length (digits_from radix t (i + 1))) = ap (λ (l : List ℕ). length l) e in omega arith

-- ---- a sum that saturates
grows : (a radix : ℕ) → 1 ≤ radix → a ≤ a * radix
grows a radix h = subst (λ (x : ℕ). x ≤ a * radix) (mul-one a) (mul-le-mul_left a h)

saturates_step : (radix a b d : ℕ) → 1 ≤ radix → min a too_great ≡ min b too_great → min (a * radix + d) too_great ≡ min (b * radix + d) too_great
saturates_step radix a b d h e = go (ltb a too_great) refl
  where
    go : (t : Bool) → ltb a too_great ≡ t → min (a * radix + d) too_great ≡ min (b * radix + d) too_great
    go true q = let l = ltb-true a too_great q in ap (λ (x : ℕ). min (x * radix + d) too_great) (let z : a ≡ b = omega arith in z)
    go false q = let l = ltb-false a too_great q in let u = grows a radix h in let v = grows b radix h in omega arith

saturates : (radix : ℕ) (ds : List ℕ) (a b : ℕ) → 1 ≤ radix → min a too_great ≡ min b too_great → min (read_on radix a ds) too_great ≡ min (read_on radix b ds) too_great
unfolding read_on
saturates radix [] a b h e = e
saturates radix (d ∷ ds) a b h e = saturates radix ds (a * radix + d) (b * radix + d) h (saturates_step radix a b d h e)

-- the sum x so far, cut off, and the digits ds still to come make w
module _ (radix x : ℕ) (ds : List ℕ) (w : ℕ) (makes : min (read_on radix x ds) too_great ≡ w) where
  pub sum_done : ds ≡ [] → x ≤ too_great → x ≡ w
  unfolding read_on
  sum_done e h = (let z : x ≡ min x too_great = omega arith in z) ∙ ap (λ (l : List ℕ). min (read_on radix x l) too_great) (sym e) ∙ makes

  pub sum_on : (d y : ℕ) (rest : List ℕ) → 1 ≤ radix → ds ≡ d ∷ rest → y ≡ min (x * radix + d) too_great → min (read_on radix y rest) too_great ≡ w
  unfolding read_on
  sum_on d y rest h e f =
      saturates radix rest y (x * radix + d) h (let z : min y too_great ≡ min (x * radix + d) too_great = omega arith in z)
      ∙ ap (λ (l : List ℕ). min (read_on radix x l) too_great) (sym e)
      ∙ makes

-- ---- whether all digits are 0: those so far, by the bits that any of them has, and those still to come
or_zero : (a d : ℕ) → eqb (bit_or a d) 0 ≡ (eqb a 0 && eqb d 0)
or_zero zero d = refl
or_zero (suc n) d =
    let more_set : bit_or (suc n) d ≡ 0 → ⊥ = λ e. let s = or_add_and (suc n) d in let l = and_le_r (suc n) d in omega arith in
    let more : suc n ≡ 0 → ⊥ = λ e. omega arith in
    rw (ne_eqb (bit_or (suc n) d) 0 more_set, ne_eqb (suc n) 0 more)

pub zeros_done : (seen : ℕ) (ds : List ℕ) (w : Bool) → (eqb seen 0 && all_zero ds) ≡ w → ds ≡ [] → eqb seen 0 ≡ w
unfolding all_zero
zeros_done seen ds w makes e = sym (and-true (eqb seen 0)) ∙ ap (λ (l : List ℕ). eqb seen 0 && all_zero l) (sym e) ∙ makes

pub zeros_on : (seen : ℕ) (ds : List ℕ) (w : Bool) (d : ℕ) (rest : List ℕ) → (eqb seen 0 && all_zero ds) ≡ w → ds ≡ d ∷ rest → (eqb (bit_or seen d) 0 && all_zero rest) ≡ w
unfolding all_zero
zeros_on seen ds w d rest makes e =
    ap (λ (z : Bool). z && all_zero rest) (or_zero seen d) ∙ and_assoc (eqb seen 0) (eqb d 0) (all_zero rest) ∙ ap (λ (l : List ℕ). eqb seen 0 && all_zero l) (sym e) ∙ makes
