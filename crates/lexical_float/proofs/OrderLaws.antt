-- Floats are ordered by value as their bits are, the sign apart: of two patterns that are no NaN's, `below` of the bits below the sign is `lt` of the floats. One proof for both widths. Assumes nothing.
use Prim.Native.Nat.{ℕ, zero, suc, ◌+◌, ◌-◌, ◌*◌, ◌/◌, ◌%◌, ◌^◌, ◌≤◌, ◌<◌}
use mathlib.Core.Path.{◌≡◌, refl, sym, ap, ap₂, ◌∙◌, subst}
use mathlib.Core.Bool.{Bool, true, false, not, cond, ◌&&◌, ◌||◌, and-true, and-false}
use mathlib.Core.Logic.{inl, inr}
use native.Mathlib.Nat.{le_trans, lt_of_lt_of_le, zero-add, zero-mul, mul-one, mul_assoc, mul_right_comm, add-mul, mod-lt, div-add-mod', eq-or-lt_of_le, mul-le-mul_left, mul-le-mul_right, mul-lt-mul_of_pos_right, lt_of_mul-lt-mul_right, le_of_mul-le-mul_right, mul-pos, pow-succ'}
use native.Mathlib.Omega.{arith}
use borrow.Author.Tests.{lt-ltb, le-ltb, ltb-true, ltb-false, ne_eqb}
use lib.Dec.{T, ltb, eqb}
use lib.Pow.{pow_pos, pow_mono, shr_mono}
use lib.Ieee.{Float, nan, inf, fin, Format, binary32, binary64, prec, low, hid, ones, top, up, down, below, lt, ne, of_bits, to_bits, nan_bits, is_nan, fits}
use lib.Ieee.Bits.{is_false, of_bits-to_bits, nan_bits_is, nan_bits_above}
use lib.Ieee.Compare.{differs_from_itself}
use lib.Ieee.Exact.{HasValue}
use lib.Ieee.Fits.{down_pos, inf-fits}
use Rattle.lexical_float.specs.Encoding.{bits_of}
use Rattle.lexical_exponent.proofs.DifferenceLaws.{by_larger}
use Rattle.lexical_float.proofs.PartsLaws as parts
use Rattle.lexical_float.proofs.PartsLaws.{mantissa_bits, units_value}

-- ---- two pairs of numbers that `below` does not tell apart, whatever the signs
record Alike (A B a b : ℕ) : Type 0 where
  less : ltb A B ≡ ltb a b
  more : ltb B A ≡ ltb b a
  some : ltb 0 (A + B) ≡ ltb 0 (a + b)

below_alike : (A B a b : ℕ) → Alike A B a b → (s t : Bool) → below s A t B ≡ below s a t b
below_alike A B a b k false false = k.less
below_alike A B a b k false true = refl
below_alike A B a b k true false = k.some
below_alike A B a b k true true = k.more

-- A and B are to each other as a and b
ltb_scaled : (A B a b C D : ℕ) → 0 < C → 0 < D → A * C ≡ a * D → B * C ≡ b * D → ltb A B ≡ ltb a b
ltb_scaled A B a b C D c d p q =
    by_larger a b (ltb A B ≡ ltb a b)
    (λ h. le-ltb A B (le_of_mul-le-mul_right (rw (p, q) (mul-le-mul_right D h)) c) ∙ sym (le-ltb a b h))
    (λ h. lt-ltb A B (lt_of_mul-lt-mul_right C (rw (p, q) (mul-lt-mul_of_pos_right h d))) ∙ sym (lt-ltb a b h))

scaled : (A B a b C D : ℕ) → 0 < C → 0 < D → A * C ≡ a * D → B * C ≡ b * D → Alike A B a b
scaled A B a b C D c d p q = record {
  less = ltb_scaled A B a b C D c d p q;
  more = ltb_scaled B A b a C D c d q p;
  some = ltb_scaled 0 (A + B) 0 (a + b) C D c d (zero-mul C ∙ sym (zero-mul D)) (rw (add-mul A B C, add-mul a b D, p, q));
}

-- g grows from 0 on
grown : (g : ℕ → ℕ) → g 0 ≡ 0 → ((n m : ℕ) → n < m → g n < g m) → (n m : ℕ) → Alike (g n) (g m) n m
grown g none grows n m = record { less = order n m; more = order m n; some = any n m }
  where
    order : (n m : ℕ) → ltb (g n) (g m) ≡ ltb n m
    order n m =
        by_larger n m (ltb (g n) (g m) ≡ ltb n m)
        (λ h. le-ltb (g n) (g m) (elim (eq-or-lt_of_le h) [ inl e ↦ rw e (omega arith) | inr l ↦ (let k = grows m n l in omega arith) ]) ∙ sym (le-ltb n m h))
        (λ h. lt-ltb (g n) (g m) (grows n m h) ∙ sym (lt-ltb n m h))

    above : (n : ℕ) → 0 < g (suc n)
    above n = let k = grows 0 (suc n) (omega arith) in omega arith

    any : (n m : ℕ) → ltb 0 (g n + g m) ≡ ltb 0 (n + m)
    any zero zero = rw none
    any zero (suc m) = lt-ltb 0 (g 0 + g (suc m)) (omega (arith, above m)) ∙ sym (lt-ltb 0 (0 + suc m) (omega arith))
    any (suc n) m = lt-ltb 0 (g (suc n) + g m) (omega (arith, above n)) ∙ sym (lt-ltb 0 (suc n + m) (omega arith))

-- ---- two finite floats, each so many units of 1 / c
finite_order : (x y : Float) (s t : Bool) (a b c : ℕ) → 0 < c → HasValue x s a c → HasValue y t b c → lt x y ≡ below s a t b
unfolding lt
finite_order nan y s t a b c C h k = absurd h
finite_order (inf u) y s t a b c C h k = absurd h
finite_order (fin u m e) nan s t a b c C h k = absurd k
finite_order (fin u m e) (inf v) s t a b c C h k = absurd k
finite_order (fin u m e) (fin v n d) s t a b c C h k =
    rw (h.0, k.0)
    (below_alike (m * up e * down d) (n * up d * down e) a b
    (scaled (m * up e * down d) (n * up d * down e) a b c (down e * down d) C (mul-pos (down_pos e) (down_pos d))
    (mul_right_comm (m * up e) (down d) c ∙ ap (λ (z : ℕ). z * down d) h.1 ∙ mul_assoc a (down e) (down d))
    (mul_right_comm (n * up d) (down e) c ∙ ap (λ (z : ℕ). z * down e) k.1 ∙ mul_right_comm b (down d) (down e) ∙ mul_assoc b (down e) (down d)))
    s t)

infinite_left : (s t : Bool) (y : Float) (b c : ℕ) → HasValue y t b c → lt (inf s) y ≡ s
unfolding lt
infinite_left s t nan b c k = absurd k
infinite_left s t (inf v) b c k = absurd k
infinite_left s t (fin v n d) b c k = refl

infinite_right : (x : Float) (s t : Bool) (a c : ℕ) → HasValue x s a c → lt x (inf t) ≡ not t
unfolding lt
infinite_right nan s t a c h = absurd h
infinite_right (inf u) s t a c h = absurd h
infinite_right (fin u m e) s t a c h = refl

-- ---- the units of a finite float grow with its bits
module _ (h : ℕ) where
  abbrev units_in : ℕ → ℕ → ℕ
  units_in x t = cond (eqb x 0) t (h + t) * 2 ^ (x - 1)

  units_below : (x t : ℕ) → t < h → units_in x t < h * 2 ^ x
  units_below zero t l = rw (mul-one t, mul-one h) l
  units_below (suc x) t l =
      let less : suc x - 1 ≡ x = omega arith in
      let twice : h + t < h * 2 = omega arith in
      rw (ne_eqb (suc x) 0 (λ (e : suc x ≡ 0). omega arith), less, pow-succ' 2 x, ← mul_assoc h 2 (2 ^ x)) (mul-lt-mul_of_pos_right twice (pow_pos x))

  units_above : (x y t : ℕ) → x < y → h * 2 ^ x ≤ units_in y t
  units_above x zero t l = absurd (omega arith)
  units_above x (suc y) t l =
      let less : suc y - 1 ≡ y = omega arith in
      let some : h ≤ h + t = omega arith in
      rw (ne_eqb (suc y) 0 (λ (e : suc y ≡ 0). omega arith), less)
      (le_trans (mul-le-mul_left h (pow_mono (let z : x ≤ y = omega arith in z))) (mul-le-mul_right (2 ^ y) some))

  units_same : (x t u : ℕ) → t < u → units_in x t < units_in x u
  units_same zero t u l = rw (mul-one t, mul-one u) l
  units_same (suc x) t u l =
      let more : h + t < h + u = omega arith in
      rw (ne_eqb (suc x) 0 (λ (e : suc x ≡ 0). omega arith)) (mul-lt-mul_of_pos_right more (pow_pos (suc x - 1)))

abbrev units_of : Format → ℕ → ℕ
units_of f n = mantissa_bits f n * 2 ^ (n / hid f - 1)

units_none : (f : Format) → units_of f 0 ≡ 0
units_none binary32 = refl
units_none binary64 = refl

units_grow : (f : Format) (n m : ℕ) → n < m → units_of f n < units_of f m
units_grow f n m l =
    let h = hid f in
    let low = mod-lt n (pow_pos (prec f - 1)) in
    elim (eq-or-lt_of_le (shr_mono (prec f - 1) (let z : n ≤ m = omega arith in z))) [
      | inl e ↦
          let p = div-add-mod' n h in
          let q = div-add-mod' m h in
          let r = ap (λ (x : ℕ). x * h) e in
          subst (λ (x : ℕ). units_of f n < units_in h x (m % h)) e (units_same h (n / h) (n % h) (m % h) (omega arith))
      | inr k ↦ lt_of_lt_of_le (units_below h (n / h) (n % h) low) (units_above h (n / h) (m / h) (m % h) k)
    ]

-- ---- an infinity's bits stand above those of every finite float
finite_infinite : (s t : Bool) (n N : ℕ) → n < N → below s n t N ≡ not t
finite_infinite false false n N h = lt-ltb n N h
finite_infinite false true n N h = refl
finite_infinite true false n N h = lt-ltb 0 (n + N) (omega arith)
finite_infinite true true n N h = le-ltb N n (omega arith)

infinite_finite : (s t : Bool) (N m : ℕ) → m < N → below s N t m ≡ s
infinite_finite false false N m h = le-ltb N m (omega arith)
infinite_finite false true N m h = refl
infinite_finite true false N m h = lt-ltb 0 (N + m) (omega arith)
infinite_finite true true N m h = lt-ltb m N h

infinite_both : (s t : Bool) (N : ℕ) → 0 < N → below s N t N ≡ (s && not t)
infinite_both false false N h = le-ltb N N (omega arith)
infinite_both false true N h = refl
infinite_both true false N h = lt-ltb 0 (N + N) (omega arith)
infinite_both true true N h = le-ltb N N (omega arith)

infinity_is : (f : Format) (s : Bool) → of_bits f (bits_of f s (ones f * hid f)) ≡ inf s
unfolding to_bits
infinity_is f true = of_bits-to_bits f (inf true) (inf-fits f true)
infinity_is f false = ap (of_bits f) (sym (zero-add (ones f * hid f))) ∙ of_bits-to_bits f (inf false) (inf-fits f false)

-- ---- two bit patterns that are no NaN's, by their signs and the bits below these
module _ (f : Format) (s : Bool) (n : ℕ) (t : Bool) (m : ℕ) where
  abbrev x : Float
  x = of_bits f (bits_of f s n)

  abbrev y : Float
  y = of_bits f (bits_of f t m)

  abbrev N : ℕ
  N = ones f * hid f

  some_ones : 0 < ones f
  some_ones = omega arith

  both_finite : n < N → m < N → lt x y ≡ below s n t m
  both_finite h k =
      finite_order x y s t (units_of f n) (units_of f m) (2 ^ low f) (pow_pos (low f)) (units_value f s n h) (units_value f t m k)
      ∙ below_alike (units_of f n) (units_of f m) n m (grown (units_of f) (units_none f) (units_grow f) n m) s t

  in_order : n ≤ N → m ≤ N → lt x y ≡ below s n t m
  in_order h k =
      elim (eq-or-lt_of_le h) [
        | inl i ↦ elim (eq-or-lt_of_le k) [
          | inl j ↦ rw (i, j, infinity_is f s, infinity_is f t) (unfold lt in sym (infinite_both s t N (mul-pos some_ones (pow_pos (prec f - 1)))))
          | inr l ↦ rw (i, infinity_is f s) (infinite_left s t y _ _ (units_value f t m l) ∙ sym (infinite_finite s t N m l))
        ]
        | inr l ↦ elim (eq-or-lt_of_le k) [
          | inl j ↦ rw (j, infinity_is f t) (infinite_right x s t _ _ (units_value f s n l) ∙ sym (finite_infinite s t n N l))
          | inr r ↦ both_finite l r
        ]
      ]

-- bits that are no NaN's reach at most to the infinity's
not_above : (f : Format) (s : Bool) (n : ℕ) → n < top f → nan_bits f (bits_of f s n) ≡ false → n ≤ ones f * hid f
not_above f s n h e =
    ltb-false (ones f * hid f) n (subst (λ (x : ℕ). ltb (ones f * hid f) x ≡ false) (parts.below f s n h).rest (sym (nan_bits_above f (bits_of f s n)) ∙ e))

-- ---- two bit patterns as the code compares them
module _ (f : Format) (a b : ℕ) (few-a : a < 2 * top f) (few-b : b < 2 * top f) (number-a : nan_bits f a ≡ false) (number-b : nan_bits f b ≡ false) where
  abbrev less : Bool
  less = lt (of_bits f a) (of_bits f b)

  by_signs : (s : Bool) (n : ℕ) (t : Bool) (m : ℕ) → a ≡ bits_of f s n → b ≡ bits_of f t m → n < top f → m < top f → less ≡ below s n t m
  by_signs s n t m p q h k = rw (p, q) (in_order f s n t m (not_above f s n h (sym (ap (nan_bits f) p) ∙ number-a)) (not_above f t m k (sym (ap (nan_bits f) q) ∙ number-b)))

  rest : (c : ℕ) → top f ≤ c → c ≡ top f + (c - top f)
  rest c h = omega arith

  pub less_plain : a < top f → (ltb a b && ltb b (top f)) ≡ less
  less_plain h =
      by_larger b (top f) ((ltb a b && ltb b (top f)) ≡ less)
      (λ k. rw (le-ltb b (top f) k) (and-false (ltb a b) ∙ sym (by_signs false a true (b - top f) refl (rest b k) h (omega arith))))
      (λ k. rw (lt-ltb b (top f) k) (and-true (ltb a b) ∙ sym (by_signs false a false b refl refl h k)))

  pub less_mixed : top f ≤ a → b < top f → (ltb (top f) a || ltb 0 b) ≡ less
  less_mixed h k = some (ltb (top f) a) refl (ltb 0 b) refl ∙ sym (by_signs true (a - top f) false b (rest a h) refl (omega arith) k)
    where
      some : (p : Bool) → ltb (top f) a ≡ p → (q : Bool) → ltb 0 b ≡ q → (p || q) ≡ ltb 0 (a - top f + b)
      some true e q d = let l = ltb-true (top f) a e in sym (lt-ltb 0 (a - top f + b) (omega arith))
      some false e true d = let l = ltb-true 0 b d in sym (lt-ltb 0 (a - top f + b) (omega arith))
      some false e false d = let l = ltb-false (top f) a e in let r = ltb-false 0 b d in sym (le-ltb 0 (a - top f + b) (omega arith))

  pub less_negative : top f ≤ a → top f ≤ b → ltb b a ≡ less
  less_negative h k =
      by_larger b a (ltb b a ≡ ltb (b - top f) (a - top f))
      (λ l. le-ltb b a l ∙ sym (le-ltb (b - top f) (a - top f) (omega arith)))
      (λ l. lt-ltb b a l ∙ sym (lt-ltb (b - top f) (a - top f) (omega arith)))
      ∙ sym (by_signs true (a - top f) true (b - top f) (rest a h) (rest b k) (omega arith) (omega arith))

-- ---- a float by way of its bits, and a NaN, which has none
pub number_bits : (f : Format) (x : Float) → T (fits f x) → ne x x ≡ false → nan_bits f (to_bits f x) ≡ false
number_bits f x h e = nan_bits_is f (to_bits f x) ∙ ap is_nan (of_bits-to_bits f x h) ∙ is_false (is_nan x) (parts.no_nan x e)

pub less_floats : (f : Format) (x y : Float) (r : Bool) → T (fits f x) → T (fits f y) → r ≡ lt (of_bits f (to_bits f x)) (of_bits f (to_bits f y)) → r ≡ lt x y
less_floats f x y r h k e = e ∙ ap₂ lt (of_bits-to_bits f x h) (of_bits-to_bits f y k)

pub nan_left : (x y : Float) → ne x x ≡ true → false ≡ lt x y
unfolding lt
nan_left x y e = rw (differs_from_itself x (rw e tt))

pub nan_right : (x y : Float) → ne y y ≡ true → false ≡ lt x y
nan_right x y e = rw (differs_from_itself y (rw e tt)) (go x)
  where
    go : (x : Float) → false ≡ lt x nan
    go nan = unfold lt in refl
    go (inf s) = unfold lt in refl
    go (fin s m d) = unfold lt in refl
