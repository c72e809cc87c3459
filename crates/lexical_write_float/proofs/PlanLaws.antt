-- How long a planned text is, and the plan of each layout. Assumes nothing.
use Prim.Native.Nat.{ℕ, suc, ◌+◌, ◌-◌, ◌≤◌, ◌<◌, max}
use mathlib.Core.Path.{◌≡◌, refl, ◌∙◌}
use mathlib.Core.Bool.{Bool, true, false, not, ◌&&◌}
use mathlib.Core.List.{List, [], ◌++◌}
use native.Mathlib.Omega.{arith}
use borrow.Author.Tests.{lt-ltb, le-ltb}
use lib.IntN.{ℤ, nat_abs}
use lib.ListN.{length, drop, length-append, length-replicate, length-drop}
use lib.Seq.{length-take-le, take_all, drop-length}
use Rattle.lexical_util.specs.Digit.{is_radix, is_width}
use Rattle.lexical_write_float.specs.declared.plan.Plan.{Plan}
use Rattle.lexical_write_float_spec.specs.declared.layout.Layout.{Layout}
use Rattle.lexical_write_float_spec.specs.declared.layout.Layout.TheVariants.{Scientific, Negative, Positive}
use Rattle.lexical_write_float_spec.proofs.LengthLaws.{few_digits}
use Rattle.lexical_format.specs.declared.format.NumberFormat.{NumberFormat}
use Rattle.lexical_format.specs.declared.options.Options.{Options}
use Rattle.lexical_write_float_spec.specs.Text.{point, least, trim, scientific, negative, positive}
use Rattle.lexical_write_float.specs.Code.{sign_text, fraction_text, plan_text, tail_text, IsPlan}
use Rattle.lexical_write_float.proofs.PowerLaws.{tail_length}
use Rattle.lexical_format.specs.Format.{most_count}

module _ (point : ℕ) (P : Plan) (D : List ℕ) where
  pub fraction_length : P.point ≡ true → length (fraction_text point P D) ≡ 1 + P.gap + (length D - P.leading) + P.padding
  unfolding fraction_text
  fraction_length e = rw e (simp (length-append, length-replicate, length-drop) (omega arith))

  pub no_fraction : P.point ≡ false → length (fraction_text point P D) ≡ 0
  unfolding fraction_text
  no_fraction e = rw e refl

  pub plan_length : P.leading ≤ length D → length (plan_text point P D) ≡ P.leading + P.filled + length (fraction_text point P D)
  unfolding plan_text
  plan_length h = simp (length-append, length-replicate, length-take-le P.leading D h) (omega arith)

  -- with or without the point
  plan_few : P.leading ≤ length D → length (plan_text point P D) ≤ P.filled + P.gap + P.padding + 1 + length D
  plan_few h = go P.point refl
    where
      go : (t : Bool) → P.point ≡ t → length (plan_text point P D) ≤ P.filled + P.gap + P.padding + 1 + length D
      go true e = omega (arith, plan_length h, fraction_length e)
      go false e = omega (arith, plan_length h, no_fraction e)

sign_few : (negative plus : Bool) → length (sign_text negative plus) ≤ 1
sign_few true plus = omega arith
sign_few false true = omega arith
sign_few false false = omega arith

tail_few : (l : Layout) (mark : ℕ) (negative plus : Bool) (radix width n : ℕ) → is_radix radix ≡ true → is_width width ≡ true → n < 8192 → length (tail_text l mark negative plus radix width n) ≤ 20
tail_few Scientific mark negative plus radix width n R W h =
    omega (arith, tail_length Scientific mark negative plus radix width n refl, sign_few negative plus, few_digits radix width n R W h)
tail_few Negative mark negative plus radix width n R W h = omega arith
tail_few Positive mark negative plus radix width n R W h = omega arith

-- a text with its exponent, by the zeros of its plan
pub text_few : (point : ℕ) (P : Plan) (D : List ℕ) (l : Layout) (mark : ℕ) (negative plus : Bool) (radix width n : ℕ)
    → P.leading ≤ length D → length D ≤ 64 → is_radix radix ≡ true → is_width width ≡ true → n < 8192
    → length (plan_text point P D ++ tail_text l mark negative plus radix width n) ≤ P.filled + P.gap + P.padding + 85
text_few point P D l mark negative plus radix width n h few R W small =
    omega (arith, length-append (plan_text point P D) (tail_text l mark negative plus radix width n), plan_few point P D h, tail_few l mark negative plus radix width n R W small)

-- ---- the plan of each layout
drop_whole : (n : ℕ) (D : List ℕ) → length D ≡ n → drop n D ≡ []
drop_whole n D e = rw (← e) (drop-length D)

abbrev pub plan : ℕ → ℕ → Bool → ℕ → ℕ → Plan
plan leading filled point gap padding = record { leading = leading; filled = filled; point = point; gap = gap; padding = padding }

module _ (F : NumberFormat) (o : Options) (few : least F o ≤ most_count) (count : ℕ) where
  -- D longer than one digit
  pub scientific_more : 1 < count → IsPlan (point F o) count (scientific F o) (plan 1 0 true 0 (least F o - count))
  unfolding scientific plan_text fraction_text
  scientific_more h =
      record {
        is = λ D e. rw (lt-ltb 1 (length D) (omega (arith, h, e)), e) refl;
        small = record { leading_few = omega arith; filled_few = omega arith; gap_few = omega arith; padding_few = omega arith };
      }

  -- D of one digit: the digit alone
  pub scientific_alone : count ≡ 1 → (trim F o && not F.no_exponent_without_fraction) ≡ true → IsPlan (point F o) count (scientific F o) (plan 1 0 false 0 0)
  unfolding scientific plan_text fraction_text
  scientific_alone h t =
      record {
        is = λ D e. rw (le-ltb 1 (length D) (omega (arith, h, e)), t) refl;
        small = record { leading_few = omega arith; filled_few = omega arith; gap_few = omega arith; padding_few = omega arith };
      }

  -- otherwise ".0", or zeros up to the least count
  pub scientific_one : (z : ℕ) → count ≡ 1 → (trim F o && not F.no_exponent_without_fraction) ≡ false → z ≡ max 1 (least F o - 1) → IsPlan (point F o) count (scientific F o) (plan 1 0 true 0 z)
  unfolding scientific plan_text fraction_text
  scientific_one z h t q =
      record {
        is = λ D e. rw (le-ltb 1 (length D) (omega (arith, h, e)), t, drop_whole 1 D (e ∙ h), q) refl;
        small = record { leading_few = omega arith; filled_few = omega arith; gap_few = omega arith; padding_few = omega (arith, few) };
      }

  pub negative_plan : (p : ℤ) (gap : ℕ) → nat_abs p ≤ 1074 → gap ≡ nat_abs p - 1 → IsPlan (point F o) count (λ (D : List ℕ). negative F o D p) (plan 0 1 true gap (least F o - count))
  unfolding negative plan_text fraction_text
  negative_plan p gap h q =
      record {
        is = λ D e. rw (q, e) refl;
        small = record { leading_few = omega arith; filled_few = omega arith; gap_few = omega arith; padding_few = omega arith };
      }

  module _ (places so_far : ℕ) (near : places ≤ 1075) where
    -- D longer than the places
    pub positive_more : places < count → IsPlan (point F o) count (λ (D : List ℕ). positive F o D places so_far) (plan places 0 true 0 (least F o - count))
    unfolding positive plan_text fraction_text
    positive_more h =
        record {
          is = λ D e. rw (lt-ltb places (length D) (omega (arith, h, e)), e) refl;
          small = record { leading_few = omega arith; filled_few = omega arith; gap_few = omega arith; padding_few = omega arith };
        }

    -- zeros fill the places; trim stops there
    pub positive_trimmed : count ≤ places → trim F o ≡ true → IsPlan (point F o) count (λ (D : List ℕ). positive F o D places so_far) (plan count (places - count) false 0 0)
    unfolding positive plan_text fraction_text
    positive_trimmed h t =
        record {
          is = λ D e. rw (le-ltb places (length D) (omega (arith, h, e)), t, take_all count D (omega (arith, e)), e) refl;
          small = record { leading_few = omega arith; filled_few = omega arith; gap_few = omega arith; padding_few = omega arith };
        }

    -- without it ".0" follows, then zeros
    pub positive_filled : count ≤ places → trim F o ≡ false → IsPlan (point F o) count (λ (D : List ℕ). positive F o D places so_far) (plan count (places - count) true 0 (1 + (least F o - so_far)))
    unfolding positive plan_text fraction_text
    positive_filled h t =
        record {
          is = λ D e. rw (le-ltb places (length D) (omega (arith, h, e)), t, take_all count D (omega (arith, e)), drop_whole count D e, e, let z : 1 + (least F o - so_far) ≡ suc (least F o - so_far) = omega arith in z) refl;
          small = record { leading_few = omega arith; filled_few = omega arith; gap_few = omega arith; padding_few = omega (arith, few) };
        }
