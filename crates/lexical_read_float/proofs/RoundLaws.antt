-- The code's shifts, tests and sums on kept bits are the definitions of their rounding, which give what reading gives. One proof for both widths. Assumes nothing.
use Rattle.std.specs.Prelude.{Option, Some, None}
use Prim.Native.Nat.{ℕ, ◌+◌, ◌-◌, ◌*◌, ◌/◌, ◌%◌, ◌^◌, ◌≤◌, ◌<◌}
use mathlib.Core.Path.{◌≡◌, refl, sym, ap}
use mathlib.Core.Bool.{Bool, true, false, cond, and-false}
use mathlib.Core.Logic.{inl, inr}
use native.Mathlib.Nat.{le_trans, le-add_right, lt_of_lt_of_le, lt_of_le_of_lt, add-zero, zero-mul, zero-add, mul-le-mul, mul-le-mul_right, eq-zero-or-pos, div-eq_of_lt, mod-eq_of_lt, div-mul-le_self}
use native.Mathlib.Omega.{arith}
use borrow.Author.Tests.{le-leb, lt-leb, eq-eqb, ne_eqb, eqb-true, eqb-false, leb-false}
use lib.Dec.{leb, eqb, lit≤}
use lib.Pow.{pow-add, pow_pos, pow_mono, shl_lt, split}
use lib.Ieee.{Format, binary32, binary64, prec, low, size, hid, ones}
use lib.Ieee.Fits.{two}
use Rattle.lexical_exponent.proofs.PowerLaws.{size_more}
use Rattle.lexical_float.specs.declared.encoding.Encoding.{Encoding}
use Rattle.lexical_float.specs.Encoding.{encoding_of}
use Rattle.lexical_float.proofs.EncodingLaws.{hidden_few}
use Rattle.lexical_read_float_spec.specs.Read.{float_of}
use Rattle.lexical_read_float.specs.Guard.{Leading, is_clear, guarded}
use Rattle.lexical_read_float.specs.Pattern.{lift, below_guard, pattern, infinity}
use Rattle.lexical_read_float.proofs.LeadingLaws.{leading_float, shifted_float, zero_float_lem}
use Rattle.lexical_read_float.specs.declared.kept.Kept.{Kept}
use Rattle.lexical_read_float.specs.Kept.{full, IsFull, Holds}
use Rattle.lexical_read_float.specs.Rounding.{of_rounded, IsFinite, rounded_bits}
use Rattle.lexical_read_float.proofs.KeptLaws.{whole_is}

-- ---- shifts of a word
module _ (bits count : ℕ) (word : bits < 18446744073709551616) where
  pub above_none : 63 < count → 0 ≡ bits / 2 ^ count
  above_none h = sym (div-eq_of_lt (lt_of_lt_of_le word (pow_mono h)))

  pub clear_none : (clear : Bool) → 0 < bits → 63 < count → false ≡ is_clear clear bits count
  unfolding is_clear
  clear_none clear B h = rw (mod-eq_of_lt (lt_of_lt_of_le word (pow_mono h)), ne_eqb bits 0 (λ e. omega arith)) (sym (and-false clear))

  -- there and back, all bits are as they were exactly where the lowest are clear
  pub clear_some : (clear : Bool) → clear ≡ true → eqb (bits / 2 ^ count * 2 ^ count % 18446744073709551616) bits ≡ is_clear clear bits count
  unfolding is_clear
  clear_some clear e = rw (e, mod-eq_of_lt (lt_of_le_of_lt (div-mul-le_self bits (2 ^ count)) word)) (go (eqb (bits % 2 ^ count) 0) refl)
    where
      go : (b : Bool) → eqb (bits % 2 ^ count) 0 ≡ b → eqb (bits / 2 ^ count * 2 ^ count) bits ≡ b
      go true h = let r = eqb-true (bits % 2 ^ count) 0 h in eq-eqb (bits / 2 ^ count * 2 ^ count) bits (omega (arith, split bits count))
      go false h = ne_eqb (bits / 2 ^ count * 2 ^ count) bits (λ s. eqb-false (bits % 2 ^ count) 0 h (omega (arith, split bits count)))

pub clear_no : (bits count : ℕ) (clear : Bool) → clear ≡ false → clear ≡ is_clear clear bits count
unfolding is_clear
clear_no bits count clear e = rw e

-- ---- the guard bit
module _ (bits : ℕ) (clear : Bool) where
  odd : (bits % 2 ≡ 0 → ⊥) → bits % 2 ≡ 1
  odd h = omega arith

  pub nearest_down : bits % 2 ≡ 0 → bits / 2 ≡ guarded bits clear
  unfolding guarded
  nearest_down e = rw e (sym (add-zero (bits / 2)))

  pub nearest_even : (bits % 2 ≡ 0 → ⊥) → clear ≡ true → bits / 2 + bits / 2 % 2 ≡ guarded bits clear
  unfolding guarded
  nearest_even h e = rw (odd h, e)

  pub nearest_up : (bits % 2 ≡ 0 → ⊥) → clear ≡ false → bits / 2 + 1 ≡ guarded bits clear
  unfolding guarded
  nearest_up h e = rw (odd h, e)

-- ---- the lift
module _ (f : Format) (E : Encoding) (is : E ≡ encoding_of f) where
  precision : E.mantissa_size + 1 ≡ prec f
  precision = rw is (omega (arith, two f))

  module _ (bits up down s w : ℕ) (s-is : s ≡ size bits) (w-is : w ≡ low f) where
    pub lift_some : down + (E.mantissa_size + 1) < s + (up + w) → s + (up + w) - (down + (E.mantissa_size + 1)) ≡ lift f bits up down
    unfolding lift
    lift_some h = let p = precision in omega arith

    pub lift_none : s + (up + w) ≤ down + (E.mantissa_size + 1) → 0 ≡ lift f bits up down
    unfolding lift
    lift_none h = let p = precision in omega arith

  pub size_small : E.mantissa_size ≤ 52
  size_small = rw is (go f)
    where
      go : (f : Format) → prec f - 1 ≤ 52
      go binary32 = omega arith
      go binary64 = omega arith

pub low_small : (f : Format) → low f ≤ 1074
low_small binary32 = omega arith
low_small binary64 = omega arith

ones_small : (f : Format) → ones f ≤ 2047
ones_small binary32 = omega arith
ones_small binary64 = omega arith

prec_small : (f : Format) → prec f ≤ 53
prec_small binary32 = omega arith
prec_small binary64 = omega arith

pub field_small : (f : Format) (E : Encoding) → E ≡ encoding_of f → (L : ℕ) → L ≤ 2046 → L * E.hidden_bit_mask ≤ 9214364837600034816
field_small f E is L h = mul-le-mul h (hidden_few f E is)

-- ---- the sums
module _ (f : Format) (bits up down L : ℕ) (L-is : L ≡ lift f bits up down) where
  pub count_room : (w : ℕ) → full ≤ bits → w ≡ low f → up + w + 1 ≤ down + L
  unfolding lift
  count_room w h e = let s = size_more bits 58 h in let p = prec_small f in omega arith

  pub far_too_large : (clear : Bool) → 2046 < L → None ≡ rounded_bits f bits clear up down
  unfolding rounded_bits pattern
  far_too_large clear h = rw (le-leb (infinity f) (pattern f bits clear up down) (le_trans (mul-le-mul_right (hid f) (rw (← L-is) (le_trans (ones_small f) h))) (le-add_right (lift f bits up down * hid f) _)))

  module _ (E : Encoding) (is : E ≡ encoding_of f) (clear : Bool) (w above : ℕ) (rest : Bool) (w-is : w ≡ low f) (above-is : above ≡ bits / 2 ^ (down + L - (up + w + 1))) (rest_is : rest ≡ is_clear clear bits (down + L - (up + w + 1))) where
    pattern_is : (r : ℕ) → r ≡ guarded above rest → L * E.hidden_bit_mask + r ≡ pattern f bits clear up down
    unfolding pattern below_guard
    pattern_is r e = rw (e, above-is, rest_is, w-is, is, L-is)

    mask_is : E.exponent_mask ≡ infinity f
    mask_is = rw is

    pub too_large : (q : ℕ) → q ≡ guarded above rest → E.exponent_mask ≤ L * E.hidden_bit_mask + q → None ≡ rounded_bits f bits clear up down
    unfolding rounded_bits
    too_large q e h = rw (le-leb (infinity f) (pattern f bits clear up down) (rw (mask_is, pattern_is q e) at h))

    pub in_range : (q : ℕ) → q ≡ guarded above rest → L * E.hidden_bit_mask + q < E.exponent_mask → Some (L * E.hidden_bit_mask + q) ≡ rounded_bits f bits clear up down
    unfolding rounded_bits
    in_range q e h = rw (lt-leb (infinity f) (pattern f bits clear up down) (rw (mask_is, pattern_is q e) at h)) (ap Some (pattern_is q e))

-- ---- what the kept bits give is what reading gives
module _ (f : Format) (bits : ℕ) (clear : Bool) (up down : ℕ) where
  pub bits_finite : IsFinite f (rounded_bits f bits clear up down)
  unfolding rounded_bits
  bits_finite = go (leb (infinity f) (pattern f bits clear up down)) refl
    where
      go : (b : Bool) → leb (infinity f) (pattern f bits clear up down) ≡ b → IsFinite f (cond b None (Some (pattern f bits clear up down)))
      go true e = tt
      go false e = leb-false _ _ e

long : (f : Format) (bits : ℕ) → full ≤ bits → 2 ^ prec f ≤ bits
long f bits h = let p : prec f ≤ 58 = le_trans (prec_small f) (lit≤ tt) in le_trans (pow_mono p) h

abbrev Answers : Format → Kept → ℕ → ℕ → Option ℕ → Type 0
Answers f k up down r = ((s : Bool) (n : ℕ) → Holds n k → of_rounded f s r ≡ float_of f s (n * 2 ^ up) (2 ^ down)) × IsFinite f r

module _ (f : Format) (k : Kept) (up down : ℕ) where
  pub zero_kept : IsFull k → k.bits ≡ 0 → Answers f k up down (Some 0)
  zero_kept is_full e =
      let z : k.below ≡ 0 = elim (eq-zero-or-pos k.below) [ inl e ↦ e | inr p ↦ absurd (let g = is_full p in omega arith) ] in
      (λ s n h. rw (whole_is n k.bits k.below k.clear z h.leads, e, zero-mul (2 ^ up)) (sym (zero_float_lem f s (2 ^ down) (pow_pos down))), some f)
    where
      some : (f : Format) → 0 < infinity f
      some binary32 = omega arith
      some binary64 = omega arith

  pub long_kept : (r : Option ℕ) → full ≤ k.bits → r ≡ rounded_bits f k.bits k.clear (k.below + up) down → Answers f k up down r
  long_kept r l is =
      rw is (
        λ s n h. leading_float f n k.below k.bits k.clear up down h.leads (long f k.bits l) s,
        bits_finite f k.bits k.clear (k.below + up) down,
      )

  -- nothing is below the bits: they are moved up by a shift
  pub whole_kept : (r : Option ℕ) (shift x : ℕ) → k.below ≡ 0 → x ≡ k.bits * 2 ^ shift → full ≤ x → r ≡ rounded_bits f x true up (down + shift) → Answers f k up down r
  whole_kept r shift x e x-is l is =
      let w : Leading x (2 ^ 0) x true = record { rest = 0; is = omega arith; small = pow_pos 0; none = λ t. refl; some = λ t. absurd t } in
      rw is (
        λ s n h.
            rw (whole_is n k.bits k.below k.clear e h.leads, shifted_float f s k.bits up down shift, ← x-is)
            (rw zero-add at (leading_float f x 0 x true up (down + shift) w (long f x l) s)),
        bits_finite f x true up (down + shift),
      )

-- ---- bits moved up to the highest place of a word
module _ (bits s : ℕ) (S : s ≤ 64) (most : bits < 2 ^ s) (least : 2 ^ (s - 1) ≤ bits) (B : 0 < bits) where
  pub some_bits : 0 < s
  some_bits = elim (eq-zero-or-pos s) [ inl e ↦ absurd (let h : bits < 2 ^ 0 = rw e at most in omega arith) | inr p ↦ p ]

  pub moved : bits * 2 ^ (64 - s) % 18446744073709551616 ≡ bits * 2 ^ (64 - s)
  moved = let e : s + (64 - s) ≡ 64 = omega arith in mod-eq_of_lt (rw e at (shl_lt s (64 - s) most))

  pub moved_full : full ≤ bits * 2 ^ (64 - s)
  moved_full =
      let p = some_bits in
      let e : s - 1 + (64 - s) ≡ 63 = omega arith in
      let h : 2 ^ (s - 1 + (64 - s)) ≤ bits * 2 ^ (64 - s) = rw (pow-add 2 (s - 1) (64 - s)) (mul-le-mul_right (2 ^ (64 - s)) least) in
      let g : full ≤ 2 ^ 63 = lit≤ tt in
      le_trans g (rw e at h)
