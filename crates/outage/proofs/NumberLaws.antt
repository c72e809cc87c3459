-- A number in radix 10, digit by digit: one digit more, by its cases, and that it is what the digits spell. Assumes nothing.
use Prim.Native.Nat.{ℕ, ◌+◌, ◌*◌, ◌≤◌, ◌<◌}
use mathlib.Core.Path.{◌≡◌, refl, sym, ◌∙◌}
use mathlib.Core.Bool.{Bool, true, false, cond}
use mathlib.Core.List.{List, [], ◌∷◌}
use Rattle.std.specs.Prelude.{Option, None, Some}
use native.Mathlib.Numerals.{add-one}
use borrow.Author.Tests.{le-leb, lt-leb, leb-true, leb-false, lt-ltb, le-ltb}
use lib.Dec.{leb}
use lib.ListN.{length, drop, drop_of_length-le}
use lib.Seq.{drop-cons}
use Rattle.lexical_util.specs.Digit.{digit_in}
use Rattle.lexical_digit_reader.specs.Place.{digit_at}
use Rattle.lexical_digit_reader.proofs.PlaceLaws.{digit_here}
use Rattle.outage_spec.proofs.NumberLaws.{spelled, spelled_end, spelled_above, spelled_other, spelled_digit}
use Rattle.outage.specs.Code.{on_digit, number_on}

-- ---- the digits of l from the place i on, behind those that spell a
module _ (limit a : ℕ) (l : List ℕ) (i : ℕ) where
  pub at_end : length l ≤ i → number_on limit a (drop i l) ≡ Some a
  unfolding number_on
  at_end h = rw (drop_of_length-le l {i = i} h)

  pub at_other : i < length l → digit_at l i ≡ None → number_on limit a (drop i l) ≡ None
  unfolding number_on digit_in
  at_other h e = rw (drop-cons l i 0 h, sym (digit_here l i h) ∙ e)

  module _ (d : ℕ) (h : i < length l) (e : digit_at l i ≡ Some d) where
    pub at_letter : 10 ≤ d → number_on limit a (drop i l) ≡ None
    unfolding number_on digit_in
    at_letter k = rw (drop-cons l i 0 h, sym (digit_here l i h) ∙ e, le-ltb d 10 k)

    pub at_above : d < 10 → limit < a * 10 + d → number_on limit a (drop i l) ≡ None
    unfolding number_on digit_in
    at_above k m = rw (drop-cons l i 0 h, sym (digit_here l i h) ∙ e, lt-ltb d 10 k, lt-leb (a * 10 + d) limit m)

    pub at_next : d < 10 → a * 10 + d ≤ limit → number_on limit a (drop i l) ≡ number_on limit (a * 10 + d) (drop (i + 1) l)
    unfolding number_on digit_in
    at_next k m = rw (drop-cons l i 0 h, sym (digit_here l i h) ∙ e, lt-ltb d 10 k, le-leb (a * 10 + d) limit m, add-one)

-- ---- no number on the way is above the limit just where the last one is not
pub on_is : (limit : ℕ) (l : List ℕ) (a : ℕ) → a ≤ limit → number_on limit a l ≡ spelled limit a l
unfolding number_on
on_is limit [] a h = sym (spelled_end limit a h)
on_is limit (x ∷ xs) a h = go (digit_in 10 x) refl (on_is limit xs)
  where
    next : (b : ℕ) (t : Bool) → leb b limit ≡ t → (b ≤ limit → number_on limit b xs ≡ spelled limit b xs) → cond t (number_on limit b xs) None ≡ spelled limit b xs
    next b true q more = more (leb-true b limit q)
    next b false q more = sym (spelled_above limit b xs (leb-false b limit q))

    go : (v : Option ℕ) → digit_in 10 x ≡ v → ((b : ℕ) → b ≤ limit → number_on limit b xs ≡ spelled limit b xs) → on_digit limit a v (λ b. number_on limit b xs) ≡ spelled limit a (x ∷ xs)
    go None e more = sym (spelled_other limit a x xs e)
    go (Some d) e more = next (a * 10 + d) (leb (a * 10 + d) limit) refl (more (a * 10 + d)) ∙ sym (spelled_digit limit a x xs d e)
