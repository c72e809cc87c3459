-- Refusal 11 begins exactly where `round` gives an infinity, and from the largest float up to there `round` gives that float. One proof for both widths. Assumes nothing.
use mathlib.Core.Path.{◌≡◌, refl, sym, ◌∙◌}
use mathlib.Core.Logic.{inl, inr}
use mathlib.Core.Bool.{Bool, true, false, not}
use Prim.Native.Nat.{ℕ, suc, ◌+◌, ◌-◌, ◌*◌, ◌^◌, ◌≤◌, ◌<◌}
use native.Mathlib.Nat.{le_of_lt, lt_of_not-le, mul-one, mul_assoc, mul_left_comm, mul_right_comm, mul-le-mul, mul-le-mul_right, le_of_mul-le-mul_right, lt_of_mul-lt-mul_right, eq_of_mul-eq-mul_right, add-mul, pow-succ', sub-le}
use native.Mathlib.Decide.{dec_le}
use native.Mathlib.Omega.{arith}
use borrow.Author.Tests.{le-leb, lt-leb, leb-true, leb-false}
use lib.Arith.{le→nltb}
use lib.Dec.{T, leb, ltb, lit≤}
use lib.Pow.{pow-add, pow_pos, pow_mono, high_ones, le_ones, ones_lt}
use lib.Ieee.{Float, inf, Format, binary32, binary64, prec, emax, low, odd, units, round, fits}
use lib.Ieee.Bits.{is_true, cond_no}
use lib.Ieee.Exact.{HasValue, units_val}
use lib.Ieee.Fits.{two, two-le_pos, reach, round_is, round-fits}
use lib.Ieee.Order.{drop, kept}
use lib.Ieee.Positive.{num, den, den_pos}
use lib.Ieee.Scale.{grid, overflow, finite}
use Rattle.lexical_float.proofs.FloatLaws as F
use Rattle.lexical_read_float_spec.specs.Round.{top_step, largest, edge, too_large, apart}
use Rattle.lexical_read_float_spec.specs.Claims.{TooLargeIsInfinite, RoundIsLargest}
use Rattle.lexical_read_float_spec.proofs.Rounded.{Rounded, rounded, lower, rounded_least}
use Rattle.lexical_read_float_spec.proofs.Sides.{sides}

-- ---- of a width: the place of the last bit at the top of the range, in units of the smallest float
abbrev pub top_place : Format → ℕ
top_place f = suc (emax f) - prec f + low f

range_ends_lem : (f : Format) → 2 ^ suc (emax f) ≡ 2 ^ prec f * top_step f
range_ends_lem f =
    let s : prec f + (suc (emax f) - prec f) ≡ suc (emax f) = omega (arith, reach f) in
    rw s at (pow-add 2 (prec f) (suc (emax f) - prec f))

overflow_units : (f : Format) → overflow f ≡ 2 ^ prec f * 2 ^ top_place f
overflow_units f =
    let s : low f + suc (emax f) ≡ prec f + top_place f = omega (arith, reach f) in
    rw (s, pow-add 2 (prec f) (top_place f))

-- a step is even, so that half of it is whole
even_step : (f : Format) → top_step f ≡ 2 * 2 ^ (emax f - prec f)
even_step f =
    let s : suc (emax f) - prec f ≡ suc (emax f - prec f) = omega (arith, narrower f) in
    rw s (pow-succ' 2 (emax f - prec f))
  where
    narrower : (f : Format) → prec f ≤ emax f
    narrower binary32 = lit≤ tt
    narrower binary64 = lit≤ tt

-- the edge lies half a step below the end of the range
halfway : (f : Format) → 2 * edge f + top_step f ≡ 2 * (2 ^ prec f * top_step f)
halfway f = let m : top_step f ≤ 2 ^ suc (emax f) = pow_mono (sub-le (suc (emax f)) (prec f)) in omega (arith, range_ends_lem f, even_step f)

scaled : (e s q c l : ℕ) → 2 * e + s ≡ 2 * (q * s) → 2 * (e * c * l) + c * (s * l) ≡ 2 * (q * (c * (s * l)))
scaled e s q c l h = rw (mul_left_comm c s l, mul_assoc e c l, ← mul_assoc 2 e (c * l), ← add-mul (2 * e) s (c * l), h, mul_assoc 2 (q * s) (c * l), mul_assoc q s (c * l))

edge_units : (f : Format) (c : ℕ) → 2 * (edge f * c * 2 ^ low f) + c * 2 ^ top_place f ≡ 2 * (2 ^ prec f * (c * 2 ^ top_place f))
edge_units f c = rw (pow-add 2 (suc (emax f) - prec f) (low f)) (scaled (edge f) (top_step f) (2 ^ prec f) c (2 ^ low f) (halfway f))

-- ---- the test of 11, on what a / c rounds to and on its bit pattern
pub positive : (f : Format) → 0 < prec f
positive f = two-le_pos (prec f) (two f)

-- what rounding does with a / c, in units of the smallest float: how many digits it drops, and the number that it keeps
abbrev pub dropped : Format → ℕ → ℕ → ℕ
dropped f a c = drop (prec f) (a * 2 ^ low f) c

abbrev pub keeps : Format → ℕ → ℕ → ℕ
keeps f a c = kept (prec f) (a * 2 ^ low f) c

module _ (f : Format) (a c : ℕ) (C : 0 < c) where
  pub rounding : Rounded (prec f) (a * 2 ^ low f) c (dropped f a c) (keeps f a c)
  rounding = rounded (prec f) (a * 2 ^ low f) c (positive f) C

  pub too_large_is : (too_large f a c ≡ leb (overflow f) (grid f a c)) × (too_large f a c ≡ leb (top_place f * 2 ^ (prec f - 1) + 2 * 2 ^ (prec f - 1)) (dropped f a c * 2 ^ (prec f - 1) + keeps f a c))
  unfolding too_large
  too_large_is =
      let e = edge_units f c in
      rw (overflow_units f)
      (elim (sides (prec f) (a * 2 ^ low f) c (dropped f a c) (keeps f a c) (positive f) C rounding (top_place f)) [
        | inl i ↦
            let h : a * 2 ^ low f < edge f * c * 2 ^ low f = let x = i.0 in omega arith in
            rw (lt-leb (edge f * c) a (lt_of_mul-lt-mul_right (2 ^ low f) h)) (sym (lt-leb _ _ i.1), sym (lt-leb _ _ i.2))
        | inr o ↦
            let h : edge f * c * 2 ^ low f ≤ a * 2 ^ low f = let x = o.0 in omega arith in
            rw (le-leb (edge f * c) a (le_of_mul-le-mul_right h (pow_pos (low f)))) (sym (le-leb _ _ o.1), sym (le-leb _ _ o.2))
      ])

  -- ---- what is not too large has a value
  pub round_value : (s : Bool) → too_large f a c ≡ false → HasValue (round f s a c) s (grid f a c) (2 ^ low f)
  round_value s h =
      rw (round_is f s a c)
      (units_val f s (keeps f a c) (dropped f a c) (leb-false (overflow f) (grid f a c) (sym too_large_is.0 ∙ h)))

-- ---- exactly what is too large rounds to an infinity
round_infinite : (f : Format) (s : Bool) (a c : ℕ) → overflow f ≤ grid f a c → round f s a c ≡ inf s
unfolding units
round_infinite f s a c h = round_is f s a c ∙ cond_no (ltb (grid f a c) (overflow f)) (odd (suc (prec f)) s (keeps f a c) (dropped f a c) (low f)) (inf s) (le→nltb (grid f a c) (overflow f) h)

pub too_large_is_infinite : TooLargeIsInfinite
too_large_is_infinite f s a c C = go (too_large f a c) refl
  where
    go : (b : Bool) → too_large f a c ≡ b → b ≡ not (finite (round f s a c))
    go true e = rw (round_infinite f s a c (leb-true (overflow f) (grid f a c) (sym (too_large_is f a c C).0 ∙ e)))
    go false e = rw (is_true (finite (round f s a c)) (F.own_fraction (round f s a c) s (grid f a c) (2 ^ low f) (round_value f a c C s e)).is_finite)

-- so no float of the width is too large
pub not_too_large : (f : Format) (x : Float) (s : Bool) (a c : ℕ) → 0 < c → T (fits f x) → HasValue x s a c → too_large f a c ≡ false
not_too_large f x s a c C p h = rw (too_large_is_infinite f s a c C, F.round_of_value f s x a c C p h, is_true (finite x) (F.own_fraction x s a c h).is_finite)

-- ---- a value that is not too large and not below the largest float rounds to that float
largest_units : (f : Format) → largest f * 2 ^ low f ≡ (2 ^ prec f - 1) * 2 ^ top_place f
largest_units f =
    let e : largest f ≡ (2 ^ prec f - 1) * top_step f = rw (range_ends_lem f, ← pow-add 2 (prec f) (suc (emax f) - prec f)) (high_ones (prec f) (suc (emax f) - prec f)) in
    rw (e, pow-add 2 (suc (emax f) - prec f) (low f), mul_assoc (2 ^ prec f - 1) (top_step f) (2 ^ low f))

at_most : (p t j k : ℕ) → t < 2 ^ p → t * 2 ^ j < 2 ^ p * 2 ^ k → t * 2 ^ j ≤ (2 ^ p - 1) * 2 ^ k
at_most p t j k h l = elim (dec_le k j) [
  | yes g ↦
      let e : t * 2 ^ j ≡ t * 2 ^ (j - k) * 2 ^ k = lower t j k g in
      rw e (mul-le-mul_right (2 ^ k) (le_ones p (lt_of_mul-lt-mul_right (2 ^ k) (rw e at l))))
  | no g ↦ mul-le-mul (le_ones p h) (pow_mono (le_of_lt (lt_of_not-le g)))
]

at_most_largest : (f : Format) (x : Float) (s : Bool) (a c : ℕ) → T (fits f x) → HasValue x s a c → a ≤ largest f * c
at_most_largest f x s a c p h =
    let v = F.own_fraction x s a c h in
    let u = F.units f x p v.is_finite in
    let m : u.digits * 2 ^ u.place ≤ largest f * 2 ^ low f = rw (largest_units f) (at_most (prec f) u.digits u.place (top_place f) u.few (rw (overflow_units f) at u.inside)) in
    let e : a * 2 ^ low f ≡ u.digits * 2 ^ u.place * c = F.same_fraction (num x) (den x) a c (u.digits * 2 ^ u.place) (2 ^ low f) (den_pos x) v.cross u.is in
    le_of_mul-le-mul_right (rw (e, mul_right_comm (largest f) c (2 ^ low f)) (mul-le-mul_right c m)) (pow_pos (low f))

-- the nearer of two numbers below n is the greater
nearer_below : (n l g : ℕ) → l ≤ n → g ≤ l → apart n g ≤ apart n l → g ≡ l
nearer_below n l g a b h = omega arith

pub round_is_largest : RoundIsLargest
round_is_largest f s a c C l h =
    let x = round f s a c in
    let L = 2 ^ low f in
    let r = round_value f a c C s h in
    let v = F.own_fraction x s (grid f a c) L r in
    let above : largest f * L * c ≤ a * L = rw (mul_right_comm (largest f) L c) (mul-le-mul_right L l) in
    let below : grid f a c * c ≤ largest f * L * c = mul-le-mul_right c (at_most_largest f x s (grid f a c) L (round-fits f s a c) r) in
    let near : apart (a * L) (grid f a c * c) ≤ apart (a * L) (largest f * L * c) = rw (largest_units f) (rounded_least (positive f) C (rounding f a c C) (2 ^ prec f - 1) (top_place f) (ones_lt (prec f))) in
    let e : grid f a c ≡ largest f * L = eq_of_mul-eq-mul_right c C (grid f a c) (largest f * L) (nearer_below (a * L) (largest f * L * c) (grid f a c * c) above below near) in
    F.has_value x s (largest f) 1 v.own (eq_of_mul-eq-mul_right L (pow_pos (low f)) (num x * 1) (largest f * den x) (rw (mul-one, v.cross, e, mul_right_comm (largest f) L (den x))))
