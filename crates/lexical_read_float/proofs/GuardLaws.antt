-- Leading bits, a guard bit and a flag for the rest settle the rounding of a number. Nothing here is about floats. Assumes nothing.
use Prim.Native.Nat.{ℕ, zero, suc, ◌+◌, ◌*◌, ◌/◌, ◌%◌, ◌^◌, ◌≤◌, ◌<◌}
use mathlib.Core.Path.{◌≡◌, refl, sym, ap, ◌∙◌}
use mathlib.Core.Bool.{Bool, true, false, not, ◌&&◌}
use native.Mathlib.Nat.{add-zero, zero-mul, add-mul, add_assoc, add_comm, mul_assoc, mul-pos, one-mul, suc-mul, mod-lt, div-add-mod', zero-lt-suc}
use native.Mathlib.Numerals.{add-one}
use native.Mathlib.Decide.{ℕ_discrete}
use native.Mathlib.Omega.{arith}
use lib.Arith.{digits_lt}
use lib.Dec.{T, eqb, eqb→eq}
use lib.Pow.{pow-add, pow_pos, split}
use lib.Ieee.Fits.{and_l, and_r}
use Rattle.lexical_read_float_spec.proofs.Closest.{Closest, tie}
use Rattle.lexical_read_float.specs.Guard.{Leading, is_clear, to_nearest, guarded}

-- one of two parts is set
either : (clear : Bool) (part whole : ℕ) → (T (not clear) → 0 < whole) → (0 < part → 0 < whole) → T (not (clear && eqb part 0)) → 0 < whole
either false part whole a b h = a tt
either true zero whole a b h = absurd h
either true (suc part) whole a b h = b (zero-lt-suc part)

-- ---- fewer leading bits
pub fewer : (n k bits : ℕ) (clear : Bool) (t : ℕ) → Leading n (2 ^ k) bits clear → Leading n (2 ^ (k + t)) (bits / 2 ^ t) (is_clear clear bits t)
unfolding is_clear
fewer n k bits clear t l =
    let low = bits % 2 ^ t in
    let unit : 2 ^ (k + t) ≡ 2 ^ t * 2 ^ k = ap (λ (x : ℕ). 2 ^ x) (add_comm k t) ∙ pow-add 2 t k in
    record {
      rest = low * 2 ^ k + l.rest;
      is = l.is ∙ rw (unit, ← mul_assoc (bits / 2 ^ t) (2 ^ t) (2 ^ k), ← add_assoc, ← add-mul, split bits t);
      small = rw unit (digits_lt (mod-lt bits (pow_pos t)) l.small);
      none = λ h. rw (eqb→eq low 0 (and_r clear (eqb low 0) h), l.none (and_l clear (eqb low 0) h)) (add-zero (0 * 2 ^ k) ∙ zero-mul (2 ^ k));
      some = either clear low (low * 2 ^ k + l.rest) (λ t. let s = l.some t in omega arith) (λ p. let s = mul-pos p (pow_pos k) in omega arith);
    }

-- ---- a further digit of b bits below
pub longer : (n k b d bits : ℕ) (clear : Bool) → d < 2 ^ b → Leading n (2 ^ k) bits clear → Leading (n * 2 ^ b + d) (2 ^ (k + b)) bits (clear && eqb d 0)
longer n k b d bits clear D l =
    let e = l.is in
    record {
      rest = l.rest * 2 ^ b + d;
      is = rw (e, pow-add 2 k b, add-mul, mul_assoc bits (2 ^ k) (2 ^ b), add_assoc);
      small = rw (pow-add 2 k b) (digits_lt l.small D);
      none = λ h. rw (eqb→eq d 0 (and_r clear (eqb d 0) h), l.none (and_l clear (eqb d 0) h)) (add-zero (0 * 2 ^ b) ∙ zero-mul (2 ^ b));
      some = either clear d (l.rest * 2 ^ b + d) (λ t. let s = mul-pos (l.some t) (pow_pos b) in omega arith) (λ p. omega arith);
    }

-- ---- a whole part q, and a rest r below, above or at a half
module _ (a b q r : ℕ) (is : q * b + r ≡ a) where
  down_to : 2 * r < b → Closest a b q
  down_to h = record { within = omega arith; even = λ e. absurd (omega arith) }

  up_to : r < b → b < 2 * r → Closest a b (q + 1)
  up_to s h = rw add-one (let e = suc-mul q b in record { within = omega arith; even = λ e. absurd (omega arith) })

  to_even : (last : ℕ) → q % 2 ≡ last → 2 * r ≡ b → Closest a b (q + last)
  to_even zero e h = rw add-zero (record { within = omega arith; even = λ t. omega arith })
  to_even (suc last) e h =
      let s = suc-mul q b in
      let up : q + suc last ≡ suc q = omega arith in
      rw up (record { within = omega arith; even = λ t. omega arith })

pub closest_unique : (a b x y : ℕ) → 0 < b → Closest a b x → Closest a b y → x ≡ y
closest_unique a b x y B c d = elim (ℕ_discrete y x) [
  | yes e ↦ sym e
  | no e ↦ let p = tie a b x y B c e d.within in let q = tie a b y x B d (λ g. e (sym g)) c.within in absurd (omega arith)
]

-- ---- rounding by the guard bit, in units of two
nearest_at : (n unit half guard rest : ℕ) (clear : Bool) → half * (2 * unit) + (guard * unit + rest) ≡ n → guard ≤ 1 → rest < unit → (T clear → rest ≡ 0) → (T (not clear) → 0 < rest)
    → Closest n (2 * unit) (half + to_nearest guard clear (half % 2))
nearest_at n unit half zero rest clear e g s none some = rw add-zero (down_to n (2 * unit) half (0 * unit + rest) e (omega (arith, zero-mul unit)))
nearest_at n unit half (suc zero) rest false e g s none some = let p = some tt in up_to n (2 * unit) half (1 * unit + rest) e (omega (arith, one-mul unit)) (omega (arith, one-mul unit))
nearest_at n unit half (suc zero) rest true e g s none some = let p = none tt in to_even n (2 * unit) half (1 * unit + rest) e (half % 2) refl (omega (arith, one-mul unit))
nearest_at n unit half (suc (suc guard)) rest clear e g s none some = absurd (omega arith)

module _ (n unit bits : ℕ) (clear : Bool) (l : Leading n unit bits clear) where
  whole : bits / 2 * (2 * unit) + (bits % 2 * unit + l.rest) ≡ n
  whole = rw (← add_assoc, ← mul_assoc (bits / 2) 2 unit, ← add-mul, div-add-mod' bits 2) (sym l.is)

  pub guarded_closest : Closest n (2 * unit) (guarded bits clear)
  unfolding guarded
  guarded_closest = nearest_at n unit (bits / 2) (bits % 2) l.rest clear whole (omega arith) l.small l.none l.some
