-- Masks, shifts and signed sums on a bit pattern, as the code has them, are the fields of it. One proof for both widths. Assumes nothing.
use Prim.Native.Nat.{ℕ, suc, ◌+◌, ◌-◌, ◌*◌, ◌/◌, ◌%◌, ◌^◌, ◌≤◌, ◌<◌}
use mathlib.Core.Path.{◌≡◌, sym, ap, ap₂, ◌∙◌}
use mathlib.Core.Bool.{false, not}
use native.Mathlib.Nat.{mod-lt, mul-pos, zero-lt-suc}
use native.Mathlib.Omega.{arith}
use borrow.Author.Tests.{leb-false, eq-eqb, ne_eqb}
use lib.Dec.{leb}
use lib.Bits.{bit_and, and_mask}
use lib.IntN.{pos, ◌-ℤ◌}
use lib.Pow.{pow_pos}
use lib.Ieee.{Format, binary32, binary64, prec, emax, low, hid, ones, top, minus, of_bits}
use lib.Ieee.Scale.{finite}
use mir.Syntax.{w32}
use mir.Val.{SFits, to_z, of_z}
use Rattle.lexical_float.specs.declared.encoding.Encoding.{Encoding}
use Rattle.lexical_exponent.specs.declared.exponent.Magnitude.{Magnitude}
use Rattle.lexical_float.specs.declared.num.Parts.TheVariants.{Finite}
use Rattle.lexical_float.specs.Encoding.{encoding_of, bits_of}
use Rattle.lexical_float.specs.Parts.{magnitude_of, parts_of}
use Rattle.lexical_exponent.proofs.DifferenceLaws.{difference_fits, difference_is}
use Rattle.lexical_float.proofs.PartsLaws.{finite_below, magnitude_bits, parts_bits, special_test, sign_and_rest}

-- what is known of the two widths' numbers
pub record Small (f : Format) : Type 0 where
  pub size : prec f - 1 < 64
  pub hidden : hid f ≤ 4503599627370496
  pub largest : 2 * emax f < 2047
  pub words : top f ≤ 9223372036854775808
  pub exponents : ones f < 32768
  pub least : low f < 32767

pub small : (f : Format) → Small f
small binary32 = record { size = omega arith; hidden = omega arith; largest = omega arith; words = omega arith; exponents = omega arith; least = omega arith }
small binary64 = record { size = omega arith; hidden = omega arith; largest = omega arith; words = omega arith; exponents = omega arith; least = omega arith }

-- ---- what the code keeps of a width
module _ (f : Format) (E : Encoding) (is : E ≡ encoding_of f) where
  pub hidden_few : E.hidden_bit_mask ≤ 4503599627370496
  hidden_few = rw is (small f).hidden

  -- the denormals' exponent
  pub least : E.denormal_exponent.0 ≡ minus 0 (low f)
  least = rw is

-- ---- at the width's own masks, the code's answer is the magnitude
module _ (f : Format) (E : Encoding) (is : E ≡ encoding_of f) (bits : ℕ) (h : bits < ones f * hid f) where
  pub mask_some : 1 ≤ E.hidden_bit_mask
  mask_some = rw is (pow_pos (prec f - 1))

  pub shift_fits : E.mantissa_size < 64
  shift_fits = rw is (small f).size

  masked : bit_and bits (E.hidden_bit_mask - 1) ≡ bits % hid f
  masked = rw is (and_mask bits (prec f - 1))

  pub stored_few : bit_and bits (E.hidden_bit_mask - 1) < 4503599627370496
  stored_few = rw masked (omega (arith, (small f).hidden, mod-lt bits (pow_pos (prec f - 1))))

  pub biased_fits : SFits w32 (pos (bits / 2 ^ E.mantissa_size))
  biased_fits = rw is (record { sfits = omega (arith, (small f).exponents, (finite_below f bits h).1) })

  pub exponent_fits : SFits w32 (to_z w32 (bits / 2 ^ E.mantissa_size) -ℤ to_z w32 (of_z w32 E.exponent_bias))
  exponent_fits = rw is (difference_fits w32 (bits / hid f) (suc (low f)) (omega (arith, (small f).exponents, (finite_below f bits h).1)) (omega (arith, (small f).least)))

  pub denormal_is : bits / 2 ^ E.mantissa_size ≡ 0
      → record { mantissa = bit_and bits (E.hidden_bit_mask - 1); exponent = E.denormal_exponent } ≡ magnitude_of f (of_bits f bits)
  denormal_is z =
      let q : bits / hid f ≡ 0 = rw is at z in
      rw masked (rw is (sym (magnitude_bits f false bits h ∙ rw (eq-eqb (bits / hid f) 0 q))))

  pub normal_is : (bits / 2 ^ E.mantissa_size ≡ 0 → ⊥)
      → record { mantissa = E.hidden_bit_mask + bit_and bits (E.hidden_bit_mask - 1); exponent = record { 0 = to_z w32 (of_z w32 (to_z w32 (bits / 2 ^ E.mantissa_size) -ℤ to_z w32 (of_z w32 E.exponent_bias))) } }
      ≡ magnitude_of f (of_bits f bits)
  normal_is z =
      let q : bits / hid f ≡ 0 → ⊥ = rw is at z in
      let e = difference_is w32 (bits / hid f) (suc (low f)) (omega (arith, (small f).exponents, (finite_below f bits h).1)) (omega (arith, (small f).least)) in
      rw masked (rw (is, e) (sym (magnitude_bits f false bits h ∙ rw (ne_eqb (bits / hid f) 0 q))))

-- ---- and the code's tests tell the cases apart, and the sign
sign_masked : (f : Format) (bits : ℕ) → bit_and bits (top f - 1) ≡ bits % top f
sign_masked binary32 bits = and_mask bits 31
sign_masked binary64 bits = and_mask bits 63

module _ (f : Format) (E : Encoding) (is : E ≡ encoding_of f) where
  infinity : E.exponent_mask ≡ ones f * hid f
  infinity = ap (λ (E : Encoding). E.exponent_mask) is

  pub sign : E.sign_mask ≡ top f
  sign = ap (λ (E : Encoding). E.sign_mask) is

  pub sign_some : 1 ≤ E.sign_mask
  sign_some = rw sign (mul-pos (pow_pos (prec f - 1)) (zero-lt-suc (ones f)))

  module _ (bits : ℕ) where
    -- the bits below the sign
    abbrev pub below_sign : ℕ
    below_sign = bit_and bits (E.sign_mask - 1)

    rest : below_sign ≡ bits % top f
    rest = ap (λ (x : ℕ). bit_and bits (x - 1)) sign ∙ sign_masked f bits

    split : bits < 2 * top f → bits ≡ bits_of f (leb (top f) bits) below_sign
    split few = sign_and_rest f bits few ∙ ap (bits_of f (leb (top f) bits)) (sym rest)

    pub finite_rest : not (finite (of_bits f bits)) ≡ false → below_sign < ones f * hid f
    finite_rest h = rw rest (leb-false (ones f * hid f) (bits % top f) (special_test f bits ∙ h))

    pub finite_is : bits < 2 * top f → not (finite (of_bits f bits)) ≡ false → (v : Magnitude) → v ≡ magnitude_of f (of_bits f below_sign) → Finite (leb E.sign_mask bits) v ≡ parts_of f (of_bits f bits)
    finite_is few h v e =
        ap₂ Finite (ap (λ (x : ℕ). leb x bits) sign) e
        ∙ sym (ap (λ (x : ℕ). parts_of f (of_bits f x)) (split few) ∙ parts_bits f (leb (top f) bits) below_sign (finite_rest h))

    -- the test
    pub special_is : leb E.exponent_mask below_sign ≡ not (finite (of_bits f bits))
    special_is = ap₂ leb infinity rest ∙ special_test f bits
