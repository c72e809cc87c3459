-- What the digits calls answer and leave in the lent bytes, in each of their cases. Assumes nothing.
use Prim.Native.Nat.{ℕ, ◌^◌, ◌≤◌, ◌<◌, max}
use mathlib.Core.Path.{◌≡◌, refl, sym, ap, ◌∙◌}
use mathlib.Core.Bool.{true, false}
use mathlib.Core.List.{List}
use borrow.Author.Tests.{lt-ltb}
use lib.ListN.{length}
use Rattle.lexical_util.specs.Answer.{done, refused, written, held}
use Rattle.lexical_util.specs.Digit.{is_radix, is_width}
use Rattle.lexical_util.proofs.AnswerLaws.{text_fits, text_short}
use Rattle.lexical_util.proofs.RadixLaws.{radix_bounds}
use Rattle.lexical_write_integer_spec.specs.Digits.{digits, numeral}
use Rattle.lexical_write_integer_spec.specs.Write.{last_numeral, digits_text, digit_count, digit_log}
use Rattle.lexical_write_integer_spec.specs.Front.{begun}
use Rattle.lexical_write_integer_spec.proofs.NumeralLaws.{length_numeral}
use Rattle.lexical_write_integer_spec.proofs.LastLaws.{length_last, numeral_last}
use Rattle.lexical_write_integer_spec.proofs.FrontLaws.{begun_whole}

-- ---- how many
pub count_known : (x r w : ℕ) → is_radix r ≡ true → digit_count x r w ≡ length (numeral r w x)
unfolding digit_count
count_known x r w h = rw h

pub count_widened : (x r w n : ℕ) → is_radix r ≡ true → n ≡ length (digits r x) → digit_count x r w ≡ max w n
count_widened x r w n h e = count_known x r w h ∙ length_numeral r w x ∙ rw e

pub count_decimal : (x w : ℕ) → digit_count x 10 w ≡ length (numeral 10 w x)
unfolding is_radix
count_decimal x w = count_known x 10 w refl

pub count_unknown : (x r w : ℕ) → is_radix r ≡ false → digit_count x r w ≡ 0
unfolding digit_count
count_unknown x r w h = rw h

pub log_known : (x b : ℕ) → 0 < b → digit_log x b ≡ length (digits (2 ^ b) x)
unfolding digit_log
log_known x b h = rw (lt-ltb 0 b h)

-- ---- which
-- as many of the last digits as there are digits are the digits
pub last_counted : (x r w n : ℕ) → is_radix r ≡ true → n ≡ digit_count x r w → last_numeral r n x ≡ numeral r w x
last_counted x r w n known count = rw (count, count_known x r w known) (sym (numeral_last r (radix_bounds r known).0 w x))

pub asked : (x r w : ℕ) → is_radix r ≡ true → is_width w ≡ true → digits_text x r w ≡ done (numeral r w x)
unfolding digits_text
asked x r w known wide = rw (known, wide)

module _ (x r w n : ℕ) (out : List ℕ) (known : is_radix r ≡ true) (wide : is_width w ≡ true) (count : n ≡ digit_count x r w) where
  asked_last : digits_text x r w ≡ done (last_numeral r n x)
  asked_last = asked x r w known wide ∙ ap (λ (t : List ℕ). done t) (sym (last_counted x r w n known count))

  pub fits : n ≤ length out → (done n ≡ written (digits_text x r w) out) × (begun (last_numeral r n x) n out ≡ held (digits_text x r w) out)
  fits h =
      let t = last_numeral r n x in
      let f = text_fits t out n (length_last r n x) h in
      rw asked_last (sym f.0, begun_whole t out n (length_last r n x) ∙ sym f.1)

  pub short : length out < n → (refused 8 0 ≡ written (digits_text x r w) out) × (out ≡ held (digits_text x r w) out)
  short h = let f = text_short (last_numeral r n x) out n (length_last r n x) h in rw asked_last (sym f.0, sym f.1)

pub unknown : (x r w : ℕ) (out : List ℕ) → is_radix r ≡ false → (refused 2 0 ≡ written (digits_text x r w) out) × (out ≡ held (digits_text x r w) out)
unfolding digits_text
unknown x r w out h = (rw h, rw h)

pub no_width : (x r w : ℕ) (out : List ℕ) → is_radix r ≡ true → is_width w ≡ false → (refused 16 0 ≡ written (digits_text x r w) out) × (out ≡ held (digits_text x r w) out)
unfolding digits_text
no_width x r w out h k = (rw (h, k), rw (h, k))
