-- What is kept of digits stands for the number that they spell. Assumes nothing.
use Prim.Native.Nat.{ℕ, ◌+◌, ◌*◌, ◌^◌, ◌≤◌, ◌<◌}
use mathlib.Core.Path.{◌≡◌, refl}
use mathlib.Core.Bool.{Bool, true, false, cond, ◌&&◌}
use mathlib.Core.List.{List, [], ◌∷◌, ◌++◌}
use mathlib.Core.Logic.{inl, inr}
use native.Mathlib.Nat.{not-le_of_lt, eq-zero-or-pos}
use native.Mathlib.Omega.{arith}
use borrow.Author.Tests.{ltb-true, ltb-false}
use lib.Dec.{ltb, eqb}
use lib.Pow.{pow_pos}
use Rattle.lexical_util.specs.Digit.{AreDigits, read_on, digits_value}
use Rattle.lexical_read_float.specs.Guard.{Leading}
use Rattle.lexical_read_float.proofs.GuardLaws.{longer}
use Rattle.lexical_read_float.specs.declared.kept.Kept.{Kept}
use Rattle.lexical_read_float.specs.Kept.{full, IsFull, Holds, empty, keep_digit, keep_digits}

abbrev Leads : ℕ → Kept → Type 0
Leads n k = Leading n (2 ^ k.below) k.bits k.clear

-- ---- where nothing is below the bits, they are the number
pub whole_is : (n bits m : ℕ) (clear : Bool) → m ≡ 0 → Leading n (2 ^ m) bits clear → n ≡ bits
whole_is n bits m clear e l =
    let i : n ≡ bits * 1 + l.rest = rw e at l.is in
    let s : l.rest < 1 = rw e at l.small in
    omega arith

appended : (n bits m b d : ℕ) (clear : Bool) → m ≡ 0 → Leading n (2 ^ m) bits clear → Leading (n * 2 ^ b + d) (2 ^ m) (bits * 2 ^ b + d) clear
appended n bits m b d clear e l =
    let i = whole_is n bits m clear e l in
    let s : l.rest < 1 = rw e at l.small in
    record { rest = l.rest; is = rw (i, e) (omega arith); small = l.small; none = l.none; some = l.some }

-- ---- a digit more
module _ (b d : ℕ) (k : Kept) where
  abbrev within : Kept
  within = record { bits = k.bits * 2 ^ b + d; below = k.below; clear = k.clear }

  abbrev under : Kept
  under = record { bits = k.bits; below = k.below + b; clear = k.clear && eqb d 0 }

  by_room : (P : Kept → Type 0) → (k.bits < full → P within) → (full ≤ k.bits → P under) → P (keep_digit b k d)
  unfolding keep_digit
  by_room P more less = go (ltb k.bits full) refl
    where
      go : (t : Bool) → ltb k.bits full ≡ t → P (cond t within under)
      go true e = more (ltb-true k.bits full e)
      go false e = less (ltb-false k.bits full e)

  digit_full : IsFull k → IsFull (keep_digit b k d)
  digit_full f = by_room IsFull (λ l p. absurd (not-le_of_lt l (f p))) (λ h p. h)

  digit_leading : (n : ℕ) → d < 2 ^ b → IsFull k → Leads n k → Leads (n * 2 ^ b + d) (keep_digit b k d)
  digit_leading n D f l =
      by_room (Leads (n * 2 ^ b + d))
      (λ h. appended n k.bits k.below b d k.clear (elim (eq-zero-or-pos k.below) [ inl e ↦ e | inr p ↦ absurd (not-le_of_lt h (f p)) ]) l)
      (λ h. longer n k.below b d k.bits k.clear D l)

-- ---- a run of digits
digits_lead : (b : ℕ) (ds : List ℕ) (n : ℕ) (k : Kept) → AreDigits (2 ^ b) ds → IsFull k → Leads n k → Leads (read_on (2 ^ b) n ds) (keep_digits b k ds)
unfolding read_on keep_digits
digits_lead b [] n k are f l = l
digits_lead b (d ∷ ds) n k are f l = digits_lead b ds (n * 2 ^ b + d) (keep_digit b k d) are.1 (digit_full b d k f) (digit_leading b d k n are.0 f l)

run_full : (b : ℕ) (k : Kept) (ds : List ℕ) → IsFull k → IsFull (keep_digits b k ds)
unfolding keep_digits
run_full b k [] f = f
run_full b k (d ∷ ds) f = run_full b (keep_digit b k d) ds (digit_full b d k f)

none_kept : IsFull empty
none_kept p = absurd (omega arith)

-- whatever the digits are
pub digits_full : (b : ℕ) (ds : List ℕ) → IsFull (keep_digits b empty ds)
digits_full b ds = run_full b empty ds none_kept

pub digits_hold : (b : ℕ) (ds : List ℕ) → AreDigits (2 ^ b) ds → Holds (digits_value (2 ^ b) ds) (keep_digits b empty ds)
digits_hold b ds are = record {
  leads = digits_lead b ds 0 empty are none_kept (record { rest = 0; is = refl; small = pow_pos 0; none = λ t. refl; some = λ t. absurd t });
  is_full = digits_full b ds;
}

pub keep_append : (b : ℕ) (k : Kept) (xs ys : List ℕ) → keep_digits b (keep_digits b k xs) ys ≡ keep_digits b k (xs ++ ys)
unfolding keep_digits
keep_append b k [] ys = refl
keep_append b k (x ∷ xs) ys = keep_append b (keep_digit b k x) xs ys
