-- What is kept of a number, one digit at a time. Assumes nothing.
use Prim.Native.Nat.{ℕ, suc, ◌+◌, ◌-◌, ◌*◌, ◌%◌, ◌^◌, ◌≤◌, ◌<◌}
use mathlib.Core.Path.{◌≡◌, refl, sym, ap, ap₂, ◌∙◌}
use mathlib.Core.Bool.{Bool, ◌&&◌, and-true, and_assoc}
use mathlib.Core.List.{List, [], ◌∷◌}
use native.Mathlib.Nat.{le_trans, lt_of_not-le, mul-suc, mul-le-mul_left, mul-le-mul_right, mod-eq_of_lt}
use native.Mathlib.Decide.{dec_le}
use native.Mathlib.Omega.{arith}
use borrow.Author.Tests.{lt-ltb, le-ltb}
use lib.Dec.{eqb}
use lib.Pow.{pow_mono}
use lib.ListN.{length}
use Rattle.lexical_read_float.specs.declared.kept.Kept.{Kept}
use Rattle.lexical_read_float.specs.Kept.{full, keep_digit, keep_digits}
use Rattle.lexical_read_float.specs.Digits.{digits_from, end_from, all_zero, FilledBits}
use Rattle.lexical_read_float.proofs.DigitRunLaws.{cons_nil, end_here}

-- bits that are not full have room for five more
pub shift_small : (bits b : ℕ) → bits < full → b ≤ 5 → bits * 2 ^ b ≤ 0x7fffffffffffffe0
shift_small bits b h k = le_trans (mul-le-mul_left bits (pow_mono k)) (let z : bits * 32 ≤ 0x7fffffffffffffe0 = omega arith in z)

pub shift_is : (bits b : ℕ) → bits < full → b ≤ 5 → bits * 2 ^ b % 18446744073709551616 ≡ bits * 2 ^ b
shift_is bits b h k = mod-eq_of_lt (let z = shift_small bits b h k in omega arith)

-- a digit that goes into the bits
pub kept_on : (b bits below d v : ℕ) (clear : Bool) (ds rest : List ℕ) → bits < full → v ≡ bits * 2 ^ b + d → ds ≡ d ∷ rest
    → keep_digits b (record { bits = v; below = below; clear = clear }) rest ≡ keep_digits b (record { bits = bits; below = below; clear = clear }) ds
unfolding keep_digits keep_digit
kept_on b bits below d v clear ds rest h e q = rw (e, q, lt-ltb bits full h)

-- digits below full bits are counted, and tested for 0
abbrev lower : ℕ → Kept → List ℕ → Kept
lower b k ds = record { bits = k.bits; below = k.below + b * length ds; clear = k.clear && all_zero ds }

none_lower : (b : ℕ) (k : Kept) → lower b k [] ≡ k
unfolding all_zero
none_lower b k = rw (and-true k.clear) (ap (λ (n : ℕ). record { bits = k.bits; below = n; clear = k.clear }) (let z : k.below + b * 0 ≡ k.below = omega arith in z))

one_lower : (b : ℕ) (k : Kept) (d : ℕ) (ds : List ℕ) → lower b k (d ∷ ds) ≡ lower b (record { bits = k.bits; below = k.below + b; clear = k.clear && eqb d 0 }) ds
unfolding all_zero
one_lower b k d ds =
    ap₂ (λ (n : ℕ) (z : Bool). record { bits = k.bits; below = n; clear = z })
    (let m = mul-suc b (length ds) in let z : k.below + b * suc (length ds) ≡ k.below + b + b * length ds = omega arith in z)
    (sym (and_assoc k.clear (eqb d 0) (all_zero ds)))

full_below : (b : ℕ) (k : Kept) (ds : List ℕ) → full ≤ k.bits → lower b k ds ≡ keep_digits b k ds
unfolding keep_digits keep_digit
full_below b k [] f = none_lower b k
full_below b k (d ∷ ds) f =
    one_lower b k d ds ∙ rw (le-ltb k.bits full f) (full_below b (record { bits = k.bits; below = k.below + b; clear = k.clear && eqb d 0 }) ds f)

pub kept_below : (b : ℕ) (k : Kept) (ds : List ℕ) → (k.bits < full → ds ≡ [])
    → record { bits = k.bits; below = k.below + b * length ds; clear = k.clear && all_zero ds } ≡ keep_digits b k ds
kept_below b k [] h = none_lower b k ∙ unfold keep_digits in refl
kept_below b k (d ∷ ds) h = elim (dec_le full k.bits) [
  | yes f ↦ full_below b k (d ∷ ds) f
  | no f ↦ absurd (cons_nil d ds (h (lt_of_not-le f)))
]

-- ---- digits that went into the bits up to a place, where none are left
module _ (radix b : ℕ) (t : List ℕ) (from : ℕ) (start : Kept) (end bits : ℕ) (filled : FilledBits radix b t from start.bits end bits) (room : bits < full) where
  pub ended : end ≡ end_from radix t from
  ended = end_here radix t from end filled.ends (filled.done room)

  pub all_kept : record { bits = bits; below = start.below; clear = start.clear } ≡ keep_digits b start (digits_from radix t from)
  unfolding keep_digits
  all_kept = sym (ap (keep_digits b (record { bits = bits; below = start.below; clear = start.clear })) (filled.done room)) ∙ filled.kept start.below start.clear

-- ---- digits that went into the bits up to a place, and those from there on
module _ (radix b : ℕ) (t : List ℕ) (from : ℕ) (start : Kept) (end bits : ℕ) (filled : FilledBits radix b t from start.bits end bits) (stop : ℕ) (is : stop ≡ end_from radix t end) where
  pub stops : stop ≡ end_from radix t from
  stops = is ∙ filled.ends

  pub joined : (clear z : Bool) → clear ≡ (start.clear && z) → z ≡ all_zero (digits_from radix t end)
      → record { bits = bits; below = start.below + b * (stop - end); clear = clear } ≡ keep_digits b start (digits_from radix t from)
  joined clear z p q =
      let n : stop - end ≡ length (digits_from radix t end) = omega arith in
      rw (n, p, q) (kept_below b (record { bits = bits; below = start.below; clear = start.clear }) (digits_from radix t end) filled.done ∙ filled.kept start.below start.clear)

  pub joined_below : b ≤ 5 → start.below ≤ 5 * from → start.below + b * (stop - end) ≤ 5 * stop
  joined_below h k = let m : b * (stop - end) ≤ 5 * (stop - end) = mul-le-mul_right (stop - end) h in let f = filled.forth in omega arith
