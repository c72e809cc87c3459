-- A text by its pieces: what the code knows of a checked format, of D and of a layout. Assumes nothing.
use Prim.Native.Nat.{ℕ, ◌+◌, ◌*◌, ◌%◌, ◌^◌, ◌≤◌, ◌<◌}
use mathlib.Core.Path.{◌≡◌, refl, sym, ap, ◌∙◌}
use mathlib.Core.Bool.{Bool, true}
use mathlib.Core.List.{List, ◌++◌, append-nil}
use native.Mathlib.Nat.{mod-eq_of_lt, lt_of_lt_of_le}
use native.Mathlib.Omega.{arith}
use lib.IntN.{ℤ, nat_abs}
use lib.Pow.{pow_mono, shl_lt}
use Rattle.lexical_util.specs.Digit.{is_radix, is_width}
use Rattle.lexical_exponent.specs.Exponent.{scale, place, is_negative, power}
use Rattle.lexical_write_integer_spec.proofs.NumeralLaws.{length_numeral}
use Rattle.lexical_format.specs.declared.checks.CheckedFormat.{CheckedFormat}
use Rattle.lexical_format.specs.declared.format.NumberFormat.{NumberFormat}
use Rattle.lexical_format.specs.declared.options.Options.{Options}
use Rattle.lexical_format.specs.Format.{low_break, high_break, settled, most_count}
use Rattle.lexical_format.proofs.FormatLaws.{writable}
use Rattle.lexical_write_float_spec.specs.declared.layout.Layout.{Layout}
use Rattle.lexical_write_float_spec.specs.declared.layout.Layout.TheVariants.{Scientific, Negative, Positive}
use Rattle.lexical_write_float.specs.declared.plan.Digits.{Digits}
use Rattle.lexical_write_float_spec.specs.Value.{exact_digits}
use Rattle.lexical_write_float_spec.specs.Text.{least, scientific, negative, positive, layout_of, digits_so_far, laid_out, text}
use Rattle.lexical_write_float.specs.Code.{Passed, checked_row, Counted, body_text, tail_text}
use Rattle.lexical_write_float.proofs.PowerLaws.{power_is}

-- ---- a format that passed the check
pub record Known (F : NumberFormat) (o : Options) (c : CheckedFormat) : Type 0 where
  pub some_bits : 0 < c.b
  pub few_bits : c.b ≤ 5
  pub power_radix : is_radix F.exponent_radix ≡ true
  pub power_width : is_width o.exponent_width ≡ true
  pub few_least : least F o ≤ most_count
  pub few_most : o.max_significant_digits ≤ most_count
  pub low : c.negative_exponent_break.0 ≡ low_break o
  pub high : c.positive_exponent_break.0 ≡ high_break o

pub known : (F : NumberFormat) (o : Options) (c : CheckedFormat) → Passed F o c → Known F o c
known F o c P = rw P.is_settled at_row
  where
    at_row : Known F o (settled o P.row)
    at_row =
        let W = writable F o P.row P.is_row in
        record {
          some_bits = W.reads.pair.some_bits;
          few_bits = W.reads.pair.few_bits;
          power_radix = W.reads.power;
          power_width = W.width;
          few_least = W.least;
          few_most = W.most;
          low = refl;
          high = refl;
        }

-- a mantissa shifted up by less than a digit fits 64 bits
pub shift_below : (m k : ℕ) → m < 2 ^ 54 → k < 5 → m * 2 ^ k < 2 ^ 59
shift_below m k h l = lt_of_lt_of_le (shl_lt 54 k h) (pow_mono {i = 54 + k} {j = 59} (omega arith))

pub shift_fits : (m k : ℕ) → m < 2 ^ 54 → k < 5 → m * 2 ^ k % 18446744073709551616 ≡ m * 2 ^ k
shift_fits m k h l = mod-eq_of_lt (lt_of_lt_of_le (shift_below m k h l) (pow_mono {i = 59} {j = 64} (omega arith)))

pub counted_some : (D : Digits) → Counted D → 0 < D.count
counted_some D C =
    let b = D.bits_per_digit in
    omega (arith, C.count_is, length_numeral (2 ^ b) 1 D.value)

-- ---- the text by what the code has of it: D, p, the digits so far and the layout
module _ (F : NumberFormat) (o : Options) (c : CheckedFormat) (m : ℕ) (e : ℤ) (D : List ℕ) (p : ℤ) (so_far : ℕ) (l : Layout) where
  pub record IsLaid : Type 0 where
    pub digits_are : D ≡ exact_digits c.b m e
    pub place_is : p ≡ place c.b (scale m e)
    pub so_far_is : so_far ≡ digits_so_far F o m D
    pub layout_is : l ≡ layout_of F o (scale m e)

  -- a plan's text and what stands behind it, layout by layout
  by_layout : (D : List ℕ) (p : ℤ) (so_far : ℕ) (l : Layout)
      → body_text F o p so_far l D ++ tail_text l o.exponent (is_negative p) F.required_exponent_sign F.exponent_radix o.exponent_width (power c.b c.c p) ≡ laid_out F o (checked_row c) D p so_far l
  by_layout D p so_far Scientific = ap (λ (t : List ℕ). scientific F o D ++ t) (power_is F o (checked_row c) p)
  by_layout D p so_far Negative = append-nil (negative F o D p)
  by_layout D p so_far Positive = append-nil (positive F o D (nat_abs p + 1) so_far)

  laid : IsLaid → laid_out F o (checked_row c) D p so_far l ≡ text F o (checked_row c) m e
  unfolding text
  laid h = rw (sym h.layout_is, h.so_far_is, h.digits_are, h.place_is) refl

  pub laid_text : IsLaid → (negative : Bool) (n : ℕ) → negative ≡ is_negative p → n ≡ power c.b c.c p
      → body_text F o p so_far l D ++ tail_text l o.exponent negative F.required_exponent_sign F.exponent_radix o.exponent_width n ≡ text F o (checked_row c) m e
  laid_text h negative n e k = rw (e, k) (by_layout D p so_far l ∙ laid h)
