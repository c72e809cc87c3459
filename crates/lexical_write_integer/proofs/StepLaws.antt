-- A step by its stores, over the radix: what is stored behind the bytes so far are the text's next. Assumes nothing.
use Prim.Native.Nat.{ℕ, ◌+◌, ◌-◌, ◌*◌, ◌/◌, ◌%◌, ◌^◌, ◌≤◌, ◌<◌}
use mathlib.Core.Path.{◌≡◌, refl, sym, ap, ◌∙◌}
use mathlib.Core.List.{List, [], ◌∷◌, ◌++◌, append_assoc}
use native.Mathlib.Nat.{mul-le-mul_left, mul-le-mul_right, one-mul, mul-one, mul-add, mul_comm, mul-div-le, lt-div-mul-add, lt_of_le_of_lt, lt_of_lt_of_le, le_trans, div-eq_of_lt, zero-mod}
use native.Mathlib.Omega.{arith}
use lib.ListN.{length, take, drop, set}
use lib.Pow.{pow_mono}
use lib.Seq.{sets, sets-eq, drop-drop}
use Rattle.lexical_util.specs.Digit.{digit_byte}
use Rattle.lexical_write_integer_spec.specs.Write.{last_numeral}
use Rattle.lexical_write_integer_spec.specs.Front.{begun, Grows}
use Rattle.lexical_write_integer_spec.proofs.DigitsLaws.{pow_mul}
use Rattle.lexical_write_integer_spec.proofs.FrontLaws.{next_digits, grows_none, grows_more, grows_step}
use Rattle.lexical_write_integer_spec.proofs.LastLaws.{length_last}

-- what a step leaves, and that it goes on from the bytes so far
abbrev pub Stepped : List ℕ → ℕ → ℕ → List ℕ → List ℕ → Type 0
Stepped t k m o o' = (o' ≡ take k o ++ begun (drop k t) m (drop k o)) × Grows t k (k + m) o o'

-- the digits of one or two, as bytes
pub one_digit : (r v d : ℕ) → d ≡ digit_byte (v % r) → d ∷ [] ≡ last_numeral r 1 v
unfolding last_numeral
one_digit r v d e = rw e

pub two_digits : (r v a d : ℕ) → a ≡ digit_byte (v / r % r) → d ≡ digit_byte (v % r) → a ∷ d ∷ [] ≡ last_numeral r 2 v
unfolding last_numeral
two_digits r v a d e f = rw (e, f)

-- the shift of a place is one of a u64, and so is the place
pub place_small : (b p : ℕ) → 0 < b → b * p < 64 → p < 64
place_small b p h s = lt_of_le_of_lt (rw one-mul at (mul-le-mul_right {m = 1} {n = b} p h)) s

-- a place nearer to the end has no longer one
pub shorter : (b p q : ℕ) → p ≤ q → b * q < 64 → b * p < 64
shorter b p q h s = lt_of_le_of_lt (mul-le-mul_left {m = p} {n = q} b h) s

module _ (b x n k m : ℕ) (vs o : List ℕ) (inside : k + m ≤ n) (room : n ≤ length o) (next : vs ≡ last_numeral (2 ^ b) m (x / 2 ^ (b * (n - k - m)))) where
  pub stored : Stepped (last_numeral (2 ^ b) n x) k m o (sets o k vs)
  unfolding begun
  stored =
      let t = last_numeral (2 ^ b) n x in
      let are : vs ≡ take m (drop k t) = next ∙ rw (← pow_mul 2 b (n - k - m)) (sym (next_digits (2 ^ b) n k m x inside)) in
      let count : length vs ≡ m = ap length next ∙ length_last (2 ^ b) m (x / 2 ^ (b * (n - k - m))) in
      let e : sets o k vs ≡ take k o ++ (take m (drop k t) ++ drop m (drop k o)) =
      sets-eq vs o k (rw count (omega arith)) ∙ rw (count, drop-drop m k o, are) (append_assoc (take k o) (take m (drop k t)) (drop (k + m) o)) in
      (e, grows_step t o (sets o k vs) k m (rw (length_last (2 ^ b) n x) (omega arith)) e)

-- ---- a loop that goes by two
-- from so many bytes on: how far the text has come, and that an even number is left
pub record Filled (t : List ℕ) (from count : ℕ) (before now : List ℕ) (at : ℕ) : Type 0 where
  pub grows : Grows t from at before now
  pub same : length now ≡ length before
  pub behind : from ≤ at
  pub within : at ≤ count
  pub even : (count - at) % 2 ≡ 0

module _ (t : List ℕ) (from count : ℕ) (before : List ℕ) where
  pub filled_none : from ≤ count → (count - from) % 2 ≡ 0 → Filled t from count before before from
  filled_none h e = record { grows = grows_none t from before; same = refl; behind = omega arith; within = h; even = e }

  pub filled_more : (now now' : List ℕ) (at r : ℕ) → Filled t from count before now at → at < count → r ≡ at + 2 → length now' ≡ length now → Grows t at r now now' → Filled t from count before now' r
  filled_more now now' at r f l e k w =
      record {
        grows = grows_more f.grows w;
        same = k ∙ f.same;
        behind = omega (arith, f.behind);
        within = omega (arith, f.within, f.even);
        even = omega (arith, f.within, f.even);
      }

  pub filled_all : (now : List ℕ) (at : ℕ) → Filled t from count before now at → count ≤ at → Grows t from count before now
  filled_all now at f l = let e : at ≡ count = omega (arith, f.within) in rw e at f.grows

-- ---- digits above a u64's
-- b bits times the most digits that a u64 has are at least 64, and times one fewer are less
pub most_digits : (b : ℕ) → 0 < b → (b * (63 / b) < 64) × (64 ≤ b * (63 / b + 1))
most_digits b h = (omega (arith, mul-div-le 63 b), rw (mul-add b (63 / b) 1, mul-one, mul_comm b (63 / b)) (lt-div-mul-add {a = 63} {b = b} h))

-- such a digit is 0
pub zero_stored : (b x n k : ℕ) (o : List ℕ) → 0 < b → x < 2 ^ 64 → k + (63 / b + 1) < n → n ≤ length o → Stepped (last_numeral (2 ^ b) n x) k 1 o (set o k 48)
unfolding digit_byte
zero_stored b x n k o hb hx inside room = stored b x n k 1 (48 ∷ []) o (omega arith) room next
  where
    above : 64 ≤ b * (n - k - 1)
    above = le_trans (most_digits b hb).1 (mul-le-mul_left {m = 63 / b + 1} {n = n - k - 1} b (omega arith))

    none : x / 2 ^ (b * (n - k - 1)) ≡ 0
    none = div-eq_of_lt (lt_of_lt_of_le hx (pow_mono {i = 64} {j = b * (n - k - 1)} above))

    next : 48 ∷ [] ≡ last_numeral (2 ^ b) 1 (x / 2 ^ (b * (n - k - 1)))
    next = one_digit (2 ^ b) (x / 2 ^ (b * (n - k - 1))) 48 (rw (none, zero-mod))
