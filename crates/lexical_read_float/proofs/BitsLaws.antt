-- The value of a text, from what is kept of its digits and from its exponent. Assumes nothing.
use Prim.Native.Nat.{ℕ, ◌+◌, ◌*◌, ◌^◌, ◌≤◌, ◌<◌, min}
use mathlib.Core.Path.{◌≡◌, refl, sym, ap, ap₂, ◌∙◌, subst}
use mathlib.Core.Bool.{Bool, true, false, cond}
use mathlib.Core.List.{List, ◌++◌}
use native.Mathlib.Omega.{arith}
use lib.IntN.{ℤ, pos, nat_abs, ◌*ℤ◌}
use lib.Pow.{pow-add}
use lib.ListN.{length}
use lib.Ieee.{Float, Format}
use Rattle.lexical_util.specs.Answer.{Answer, refused}
use Rattle.lexical_util.specs.Digit.{AreDigits, digits_value}
use Rattle.lexical_exponent.specs.Exponent.{clamped, height_above, signed}
use Rattle.lexical_exponent.proofs.ExponentLaws.{clamped_is, height_up, height_down, times_signed, signed_held}
use Rattle.lexical_format.specs.declared.format.Pair.{Pair}
use Rattle.lexical_read_float_spec.specs.Shape.{Shape}
use Rattle.lexical_read_float_spec.specs.Read.{magnitude, has_minus, base_power, numerator, denominator, float_of, value_of, longest_read, greatest_exponent}
use Rattle.lexical_read_float_spec.proofs.ReadLaws.{value_within, value_beyond}
use Rattle.lexical_read_float.specs.declared.scan.Number.{Number}
use Rattle.lexical_read_float.specs.declared.bits.Powers.{Powers}
use Rattle.lexical_read_float.specs.Bits.{powers_of}
use Rattle.lexical_read_float.specs.Kept.{Holds}
use Rattle.lexical_read_float.specs.Scan.{number_of, too_great}
use Rattle.lexical_read_float.proofs.KeptLaws.{digits_hold}

-- the number that a shape's digits spell
abbrev pub spelled : Pair → Shape → ℕ
spelled row s = digits_value (2 ^ row.b) (s.whole ++ s.fraction)

module _ (f : Format) (row : Pair) (power : ℕ) (t : List ℕ) (s : Shape) (n : Number) (is : n ≡ number_of t row.b power s) where
  cut : n.exponent.power.1 ≡ min (magnitude power s.tail) too_great
  cut = ap (λ (x : Number). x.exponent.power.1) is

  sign : n.exponent.power.0 ≡ has_minus s.tail
  sign = ap (λ (x : Number). x.exponent.power.0) is

  counted : n.fraction.0 ≡ pos (length s.fraction)
  counted = ap (λ (x : Number). x.fraction.0) is

  pub refused_ten : greatest_exponent < n.exponent.power.1 → refused 10 n.exponent.place ≡ value_of f row power t s
  refused_ten h =
      let c = cut in
      let m : greatest_exponent < magnitude power s.tail = omega arith in
      ap (refused 10) (ap (λ (x : Number). x.exponent.place) is) ∙ sym (value_beyond f row power t s m)

  module _ (few : row.b * nat_abs n.fraction.0 ≤ 5 * longest_read) (h : n.exponent.power.1 ≤ greatest_exponent) (small : row.c * n.exponent.power.1 ≤ 5 * greatest_exponent) where
    value_is : (a c : ℕ) → a ≡ numerator row power s → c ≡ denominator row power s → float_of f n.negative a c ≡ value_of f row power t s
    value_is a c p q =
        let k = cut in
        let m : magnitude power s.tail ≤ greatest_exponent = omega arith in
        ap₂ (float_of f n.negative) p q ∙ ap (λ (b : Bool). float_of f b (numerator row power s) (denominator row power s)) (ap (λ (x : Number). x.negative) is) ∙ sym (value_within f row power t s m)

    exact : n.exponent.power.1 ≡ magnitude power s.tail
    exact = let k = cut in omega arith

    -- the two exponents in bits, of which neither is past what 32 bits hold
    abbrev pub places : ℤ
    places = clamped (pos row.b *ℤ n.fraction.0)

    abbrev pub scaled : ℤ
    scaled = clamped (pos row.c *ℤ signed n.exponent.power.0 n.exponent.power.1)

    -- as the definition has them
    abbrev behind : ℕ
    behind = row.b * length s.fraction

    abbrev lift : ℕ
    lift = row.c * magnitude power s.tail

    places_are : places ≡ pos behind
    places_are =
        let l : row.b * length s.fraction ≤ 5 * longest_read = subst (λ (z : ℤ). row.b * nat_abs z ≤ 5 * longest_read) counted few in
        ap (λ (z : ℤ). clamped (pos row.b *ℤ z)) counted ∙ clamped_is (pos behind) (omega arith)

    scaled_is : (b : Bool) → has_minus s.tail ≡ b → scaled ≡ signed b lift
    scaled_is b w =
        let l : row.c * magnitude power s.tail ≤ 5 * greatest_exponent = subst (λ (m : ℕ). row.c * m ≤ 5 * greatest_exponent) exact small in
        ap₂ (λ (x : Bool) (m : ℕ). clamped (pos row.c *ℤ signed x m)) (sign ∙ w) exact ∙ ap clamped (sym (times_signed b row.c _)) ∙ signed_held b lift (omega arith)

    module _ (r : Answer Float) (p : Powers) (e : p ≡ powers_of places scaled) (q : r ≡ float_of f n.negative (spelled row s * 2 ^ p.up) (2 ^ p.down)) where
      -- the value by its powers of two, up and down
      by : (b : Bool) → has_minus s.tail ≡ b → (u d : ℕ) → (height_above (signed b lift) (pos 0) ≡ u) × (height_above (pos 0) (signed b lift) ≡ d) → r ≡ float_of f n.negative (spelled row s * 2 ^ u) (2 ^ (behind + d))
      by b w u d g =
          q
          ∙ ap (λ (x : Powers). float_of f n.negative (spelled row s * 2 ^ x.up) (2 ^ x.down)) (e ∙ ap₂ powers_of places_are (scaled_is b w))
          ∙ rw (g.0, g.1, (height_up behind).0)

      value_divided : has_minus s.tail ≡ true → r ≡ value_of f row power t s
      unfolding numerator denominator
      value_divided w =
          by true w 0 lift (height_down lift)
          ∙ value_is _ _ (sym (ap (λ (b : Bool). spelled row s * cond b 1 (base_power row power s)) w))
          (pow-add 2 behind lift ∙ sym (ap (λ (b : Bool). 2 ^ behind * cond b (base_power row power s) 1) w))

      value_multiplied : has_minus s.tail ≡ false → r ≡ value_of f row power t s
      unfolding numerator denominator
      value_multiplied w =
          by false w lift 0 (height_up lift)
          ∙ value_is _ _ (sym (ap (λ (b : Bool). spelled row s * cond b 1 (base_power row power s)) w))
          (pow-add 2 behind 0 ∙ sym (ap (λ (b : Bool). 2 ^ behind * cond b (base_power row power s) 1) w))

      pub value_scaled : r ≡ value_of f row power t s
      value_scaled = go (has_minus s.tail) refl
        where
          go : (b : Bool) → has_minus s.tail ≡ b → r ≡ value_of f row power t s
          go true w = value_divided w
          go false w = value_multiplied w

  pub kept_holds : AreDigits (2 ^ row.b) (s.whole ++ s.fraction) → Holds (spelled row s) n.kept
  kept_holds are = rw (ap (λ (x : Number). x.kept) is) (digits_hold row.b (s.whole ++ s.fraction) are)
