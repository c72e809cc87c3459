-- `round` gives the nearest float of a width, the even one of two equally near, and nothing else is nearest: for every value that is not too large.
-- One proof for both widths, subnormal floats included. Assumes nothing.
use mathlib.Core.Path.{◌≡◌, sym, ◌∙◌}
use mathlib.Core.Logic.{◌≢◌}
use mathlib.Core.Bool.{Bool, false}
use Prim.Native.Nat.{ℕ, ◌-◌, ◌*◌, ◌%◌, ◌^◌, ◌≤◌, ◌<◌}
use native.Mathlib.Nat.{le_antisymm, mul_assoc, mul_comm, mul_right_comm, mul-le-mul_right, mul-pos, mul-sub, add-mul, eq_of_mul-eq-mul_right}
use native.Mathlib.Decide.{ℕ_discrete}
use native.Mathlib.Omega.{arith}
use lib.Dec.{T}
use lib.Pow.{pow_pos}
use lib.Ieee.{Float, Format, prec, low, round, fits, to_bits}
use lib.Ieee.Exact.{HasValue}
use lib.Ieee.Fits.{round-fits}
use lib.Ieee.Order.{transfer}
use lib.Ieee.Positive.{num, den, den_pos}
use lib.Ieee.Scale.{grid, finite}
use Rattle.lexical_read_float_spec.specs.Round.{too_large, apart, distance, Nearest}
use Rattle.lexical_read_float_spec.proofs.Rounded.{Rounded, kept_range, rounded_least, Tie, rounded_tie}
use Rattle.lexical_float.proofs.FloatLaws.{same_fraction, OwnFraction, own_fraction, has_value, units, value_unique}
use Rattle.lexical_read_float_spec.proofs.LastBit.{last_bit}
use Rattle.lexical_read_float_spec.proofs.Edge.{positive, dropped, keeps, rounding, round_value}

-- ---- distances from two floats, x and y, that are u and v in units of the smallest float: in units they compare as whole numbers
sub_mul : (m n k : ℕ) → m * k - n * k ≡ (m - n) * k
sub_mul m n k = rw (mul_comm m k, mul_comm n k, ← mul-sub k m n, mul_comm k (m - n))

apart_mul : (m n k : ℕ) → apart (m * k) (n * k) ≡ apart m n * k
apart_mul m n k = rw (sub_mul m n k, sub_mul n m k, ← add-mul (m - n) (n - m) k)

distance_units : (a c x d u l : ℕ) → x * l ≡ u * d → apart (a * d) (x * c) * l ≡ apart (a * l) (u * c) * d
distance_units a c x d u l h = rw (← apart_mul (a * d) (x * c) l, mul_right_comm a d l, mul_right_comm x c l, h, mul_right_comm u d c, apart_mul (a * l) (u * c) d)

equal : (x d u y e v l : ℕ) → 0 < d → 0 < e → x * l ≡ u * d → y * l ≡ v * e → x * e ≡ y * d → u ≡ v
equal x d u y e v l D E p q h =
    eq_of_mul-eq-mul_right (d * e) (mul-pos D E) u v
    (rw (← mul_assoc u d e, ← p, mul_right_comm x l e, h, mul_right_comm y d l, q, mul_assoc v e d, mul_comm e d))

module _ (f : Format) (a c : ℕ) (x y : Float) (u v : ℕ) (hx : num x * 2 ^ low f ≡ u * den x) (hy : num y * 2 ^ low f ≡ v * den y) where
  same_size : u ≡ v → num x * den y ≡ num y * den x
  same_size e = same_fraction u (2 ^ low f) (num x) (den x) (num y) (den y) (pow_pos (low f)) (sym hx) (rw e (sym hy))

  no_farther : apart (a * 2 ^ low f) (u * c) ≤ apart (a * 2 ^ low f) (v * c) → distance a c x * den y ≤ distance a c y * den x
  no_farther h =
      let l = 2 ^ low f in
      transfer (distance a c x) (distance a c y) (den x) (den y) (apart (a * l) (u * c)) (apart (a * l) (v * c)) l l (pow_pos (low f)) (pow_pos (low f))
      (distance_units a c (num x) (den x) u l hx) (distance_units a c (num y) (den y) v l hy) (mul-le-mul_right l h)

  as_far : distance a c x * den y ≡ distance a c y * den x → apart (a * 2 ^ low f) (u * c) ≡ apart (a * 2 ^ low f) (v * c)
  as_far h =
      let l = 2 ^ low f in
      equal (distance a c x) (den x) (apart (a * l) (u * c)) (distance a c y) (den y) (apart (a * l) (v * c)) l (den_pos x) (den_pos y)
      (distance_units a c (num x) (den x) u l hx) (distance_units a c (num y) (den y) v l hy) h

-- ---- the float that `round` gives
module _ (f : Format) (s : Bool) (a c : ℕ) (C : 0 < c) (h : too_large f a c ≡ false) where
  abbrev near : Rounded (prec f) (a * 2 ^ low f) c (dropped f a c) (keeps f a c)
  near = rounding f a c C

  result : OwnFraction (round f s a c) s (grid f a c) (2 ^ low f)
  result = own_fraction (round f s a c) s (grid f a c) (2 ^ low f) (round_value f a c C s h)

  -- the last bit of a float that is a multiple of 2 ^ dropped within half of that from a / c
  last_bit_near : (x : Float) (z : ℕ) → 2 * apart (a * 2 ^ low f) (z * (c * 2 ^ dropped f a c)) ≤ c * 2 ^ dropped f a c → HasValue x s (num x) (den x)
      → num x * 2 ^ low f ≡ z * 2 ^ dropped f a c * den x → to_bits f x % 2 ≡ z % 2
  last_bit_near x z w v e = let d = kept_range (positive f) C near z w in last_bit f s x z (dropped f a c) d.0 d.1 (has_value x s (z * 2 ^ dropped f a c) (2 ^ low f) v e)

  -- another float as near
  tie_with : (y : Float) → T (fits f y) → T (finite y) → num y * den (round f s a c) ≢ num (round f s a c) * den y
      → distance a c (round f s a c) * den y ≡ distance a c y * den (round f s a c)
      → (m : ℕ) × (num y * 2 ^ low f ≡ m * den y) × Tie (a * 2 ^ low f) c (dropped f a c) (keeps f a c) m
  tie_with y p q d e =
      let r = round f s a c in
      let u = units f y p q in
      let m = u.digits * 2 ^ u.place in
      let ne : m ≢ grid f a c = λ g. d (same_size f a c y r m (grid f a c) u.is result.cross g) in
      (m, u.is, rounded_tie (positive f) C near u.digits u.place u.few ne (as_far f a c r y (grid f a c) m result.cross u.is e))

  pub round_nearest : Nearest f s a c (round f s a c)
  round_nearest = record {
    held = round-fits f s a c;
    signed = result.own;
    least = λ y p q.
        let u = units f y p q in
        no_farther f a c (round f s a c) y (grid f a c) (u.digits * 2 ^ u.place) result.cross u.is (rounded_least (positive f) C near u.digits u.place u.few);
    even = λ y p q d e. last_bit_near (round f s a c) (keeps f a c) near.closest.within result.own result.cross ∙ (tie_with y p q d e).2.even;
  }

  pub only_nearest : (x : Float) → Nearest f s a c x → x ≡ round f s a c
  only_nearest x n =
      let r = round f s a c in
      let v = own_fraction x s (num x) (den x) n.signed in
      elim (ℕ_discrete (num x * den r) (num r * den x)) [
        | yes e ↦ value_unique f s x r (num r) (den r) (den_pos r) n.held (round-fits f s a c) (has_value x s (num r) (den r) n.signed e) result.own
        | no d ↦
            let e : distance a c x * den r ≡ distance a c r * den x = le_antisymm (n.least r (round-fits f s a c) result.is_finite) (round_nearest.least x n.held v.is_finite) in
            let o = tie_with x n.held v.is_finite d (sym e) in
            let t = o.2 in
            let odd : to_bits f x % 2 ≡ 1 = last_bit_near x t.z t.within n.signed (rw t.is at o.1) ∙ t.odd in
            let even : to_bits f x % 2 ≡ 0 = n.even r (round-fits f s a c) result.is_finite (λ g. d (sym g)) e in
            absurd (omega arith)
      ]
