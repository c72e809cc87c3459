-- The digit limit by its cases: a mantissa rounded to units of a power of two, and which bits lie below the unit. Assumes nothing.
use Prim.Native.Nat.{ℕ, zero, suc, ◌+◌, ◌-◌, ◌*◌, ◌/◌, ◌%◌, ◌^◌, ◌≤◌, ◌<◌, compare, Ordering}
use mathlib.Core.Path.{◌≡◌, refl, sym, ap, subst, ◌∙◌}
use mathlib.Core.Bool.{not}
use native.Mathlib.Nat.{mul-one, div-one, mod-one}
use native.Mathlib.Numerals.{add-one}
use native.Mathlib.Omega.{arith}
use lib.Dec.{T, is_le, compare_is_eq, eqb, leb→le, nleb→lt, eqb→eq, eqb_refl}
use lib.IntN.{ℤ, pos, negsuc, ◌+ℤ◌, ◌-ℤ◌, +ℤ_assoc, +ℤ-neg_ℤ_cancel}
use lib.Ieee.{size, nearest}
use lib.Ieee.Fits.{nearest-le}
use Rattle.lexical_exponent.specs.Exponent.{scale, place, modulo}
use Rattle.lexical_exponent.proofs.DifferenceLaws.{nat_less, nat_more, gap_above}
use Rattle.lexical_exponent.proofs.ExponentLaws.{scale_is}
use Rattle.lexical_format.specs.declared.options.RoundMode.{RoundMode}
use Rattle.lexical_format.specs.declared.options.RoundMode.TheVariants.{Round, Truncate}
use Rattle.lexical_write_float_spec.specs.Value.{normal}
use Rattle.lexical_write_float_spec.specs.Limit.{unit_exponent, rounded, multiple_of, limited}
use Rattle.lexical_write_float_spec.proofs.Integers.{floor_modulo, times_below, move}
use Rattle.lexical_write_float_spec.proofs.ValueLaws.{normal_more}

-- ---- rounding
pub rounded_le : (mode : RoundMode) (a c : ℕ) → rounded mode a c ≤ suc (a / c)
rounded_le Round a c = nearest-le (a / c) (compare (a % c * 2) c)
rounded_le Truncate a c = omega arith

-- what divides is kept
rounded_whole : (mode : RoundMode) (a : ℕ) → rounded mode a 1 ≡ a
rounded_whole Round a = simp (div-one, mod-one)
rounded_whole Truncate a = div-one a

-- q and a part of a unit, by how twice that part compares with the unit
nearest_by : (q a b : ℕ) → (a < b → nearest q (compare a b) ≡ q) × (a ≡ b → nearest q (compare a b) ≡ q + q % 2) × (b < a → nearest q (compare a b) ≡ suc q)
nearest_by q a b = go (compare a b) (leb→le a b) (nleb→lt a b) (eqb→eq a b) (λ (e : a ≡ b). subst (λ (x : ℕ). T (eqb a x)) e (eqb_refl a))
  where
    go : (o : Ordering) → (T (is_le o) → a ≤ b) → (T (not (is_le o)) → b < a) → (T (compare_is_eq o) → a ≡ b) → (a ≡ b → T (compare_is_eq o))
        → (a < b → nearest q o ≡ q) × (a ≡ b → nearest q o ≡ q + q % 2) × (b < a → nearest q o ≡ suc q)
    go Ordering.lt le gt eq is = (λ h. refl, λ h. absurd (is h), λ h. absurd (let l = le tt in omega arith))
    go Ordering.eq le gt eq is = (λ h. absurd (let l = eq tt in omega arith), λ h. refl, λ h. absurd (let l = eq tt in omega arith))
    go Ordering.gt le gt eq is = (λ h. absurd (let l = gt tt in omega arith), λ h. absurd (let l = gt tt in omega arith), λ h. refl)

module _ (mode : RoundMode) (m c : ℕ) where
  pub truncates : mode ≡ Truncate → m / c ≡ rounded mode m c
  truncates e = rw e

  pub rounds_down : mode ≡ Round → m % c * 2 < c → m / c ≡ rounded mode m c
  rounds_down e h = rw e (sym ((nearest_by (m / c) (m % c * 2) c).0 h))

  pub rounds_tie : mode ≡ Round → m % c * 2 ≡ c → m / c + m / c % 2 ≡ rounded mode m c
  rounds_tie e h = rw e (sym ((nearest_by (m / c) (m % c * 2) c).1 h))

  pub rounds_up : mode ≡ Round → c < m % c * 2 → m / c + 1 ≡ rounded mode m c
  rounds_up e h = rw e (add-one (m / c) ∙ sym ((nearest_by (m / c) (m % c * 2) c).2 h))

-- ---- the unit lies at or below the leading bit: s is the unit's exponent and some natural number
unit_below : (b k : ℕ) (s : ℤ) → 0 < b → unit_exponent b (suc k) (place b s) +ℤ pos (b * k + modulo s b) ≡ s
unit_below b k s B =
    sym (+ℤ_assoc (unit_exponent b (suc k) (place b s)) (pos (b * k)) (pos (modulo s b)))
    ∙ ap (λ (z : ℤ). z +ℤ pos (modulo s b)) (times_below b k (place b s)) ∙ floor_modulo b s B

-- w bits lie from the unit up to the leading bit
module _ (mode : RoundMode) (m : ℕ) (e u : ℤ) (w : ℕ) (at : u +ℤ pos w ≡ e +ℤ pos (size m - 1)) where
  -- the unit divides the value
  nothing_cut : 0 < m → size m - 1 ≤ w → multiple_of mode u m e ≡ normal m e
  unfolding multiple_of
  nothing_cut M h =
      let d : ℕ = w - (size m - 1) in
      let gap : e -ℤ u ≡ pos d = move u (pos w) e (pos (size m - 1)) at ∙ nat_less w (size m - 1) h in
      rw (gap, rounded_whole mode (m * 2 ^ d)) (normal_more m d u M ∙ ap (normal m) (sym (gap_above e u d gap)))

  some_cut : (c : ℕ) → c + w ≡ size m - 1 → 0 < c → multiple_of mode u m e ≡ normal (rounded mode m (2 ^ c)) (e +ℤ pos c)
  unfolding multiple_of
  some_cut zero k h = absurd (omega arith)
  some_cut (suc c) k h =
      let gap : e -ℤ u ≡ negsuc c = move u (pos w) e (pos (size m - 1)) at ∙ nat_more w (size m - 1) (omega arith) ∙ ap negsuc (omega arith) in
      let unit : u ≡ e +ℤ pos (suc c) = sym (+ℤ-neg_ℤ_cancel u (pos w)) ∙ ap (λ (z : ℤ). z -ℤ pos w) (at ∙ ap (λ (n : ℕ). e +ℤ pos n) (sym k) ∙ sym (+ℤ_assoc e (pos (suc c)) (pos w))) ∙ +ℤ-neg_ℤ_cancel (e +ℤ pos (suc c)) (pos w) in
      rw (gap, mul-one m) (ap (normal (rounded mode m (2 ^ suc c))) unit)

-- ---- the limit
pub limited_none : (mode : RoundMode) (b k m : ℕ) (e : ℤ) → k ≡ 0 → record { m = m; e = e } ≡ limited mode b k m e
unfolding limited
limited_none mode b zero m e h = refl
limited_none mode b (suc k) m e h = absurd (omega arith)

pub limited_zero : (mode : RoundMode) (b k m : ℕ) (e : ℤ) → m ≡ 0 → record { m = m; e = e } ≡ limited mode b k m e
unfolding limited
limited_zero mode b zero m e h = refl
limited_zero mode b (suc k) zero e h = refl
limited_zero mode b (suc k) (suc m) e h = absurd (omega arith)

-- of the bits below the leading one, so many stand in the first k digits
abbrev pub kept : ℕ → ℕ → ℤ → ℕ
kept b k s = b * (k - 1) + modulo s b

abbrev unit_of : ℕ → ℕ → ℕ → ℤ → ℤ
unit_of b k m e = unit_exponent b k (place b (scale m e))

unit_at : (b k m : ℕ) (e : ℤ) → 0 < b → 0 < k → 0 < m → unit_of b k m e +ℤ pos (kept b k (scale m e)) ≡ e +ℤ pos (size m - 1)
unit_at b zero m e B K M = absurd (omega arith)
unit_at b (suc k) m e B K M = let z : suc k - 1 ≡ k = omega arith in rw z (unit_below b k (scale m e) B) ∙ scale_is m e M

limited_is : (mode : RoundMode) (b k m : ℕ) (e : ℤ) → 0 < k → 0 < m → limited mode b k m e ≡ multiple_of mode (unit_of b k m e) m e
unfolding limited
limited_is mode b zero m e K M = absurd (omega arith)
limited_is mode b (suc k) zero e K M = absurd (omega arith)
limited_is mode b (suc k) (suc m) e K M = refl

module _ (mode : RoundMode) (b k m : ℕ) (e : ℤ) (B : 0 < b) (K : 0 < k) (M : 0 < m) (w : ℕ) (W : w ≡ kept b k (scale m e)) where
  above : unit_of b k m e +ℤ pos w ≡ e +ℤ pos (size m - 1)
  above = rw W (unit_at b k m e B K M)

  pub limited_kept : size m - 1 ≤ w → limited mode b k m e ≡ normal m e
  limited_kept h = limited_is mode b k m e K M ∙ nothing_cut mode m e (unit_of b k m e) w above M h

  pub limited_cut : (c : ℕ) → c + w ≡ size m - 1 → 0 < c → limited mode b k m e ≡ normal (rounded mode m (2 ^ c)) (e +ℤ pos c)
  limited_cut c h p = limited_is mode b k m e K M ∙ some_cut mode m e (unit_of b k m e) w above c h p
