-- The laws of writing: what document 01 says of D and of a text's length. Assumes nothing.
use Prim.Native.Nat.{ℕ, ◌*◌, ◌%◌, ◌^◌, ◌≤◌, ◌<◌}
use mathlib.Core.Path.{◌≡◌, refl, sym, ap, ◌∙◌}
use mathlib.Core.Bool.{Bool, true, false}
use mathlib.Core.List.{List, map, ◌++◌}
use native.Mathlib.Omega.{arith}
use borrow.Author.Tests.{ltb-true, ltb-false}
use lib.Dec.{T, ltb}
use lib.IntN.{ℤ}
use lib.ListN.{length, get_or, get_or-map, length-append}
use lib.Ieee.{Float, nan, inf, fin, Format, fits}
use lib.Ieee.Scale.{finite}
use Rattle.lexical_util.specs.Answer.{Answer, done, refused, and_then}
use Rattle.lexical_util.specs.Digit.{digit_byte}
use Rattle.lexical_util.proofs.AnswerLaws.{refused_done, done_same}
use Rattle.lexical_util.proofs.DigitLaws.{byte_figure, byte_capital}
use Rattle.lexical_write_integer_spec.specs.Digits.{digits}
use Rattle.lexical_write_integer_spec.proofs.DigitsLaws.{radix_above}
use Rattle.lexical_write_integer_spec.proofs.NumeralLaws.{numeral_one, last_byte}
use Rattle.lexical_float.specs.Sign.{minus_sign}
use Rattle.lexical_format.specs.declared.format.Pair.{Pair}
use Rattle.lexical_format.specs.declared.format.NumberFormat.{NumberFormat}
use Rattle.lexical_format.specs.declared.options.Options.{Options}
use Rattle.lexical_format.specs.Format.{writing_format}
use Rattle.lexical_format.proofs.FormatLaws.{power_whole, Writable, writable}
use Rattle.lexical_exponent.specs.Exponent.{modulo}
use Rattle.lexical_write_float_spec.specs.Value.{exact_digits}
use Rattle.lexical_write_float_spec.specs.Write.{limited_text, signed_text, float_text, write_text, longest_text}
use Rattle.lexical_write_float_spec.specs.Limit.{limited}
use Rattle.lexical_write_float_spec.specs.Claims.{FirstPlace, FirstDigit, LastDigit, LongestText, WholePower}
use Rattle.lexical_write_float_spec.proofs.ValueLaws.{first_place as place_is, first_digit as first-is, last_digit as last-is}
use Rattle.lexical_write_float_spec.proofs.RangeLaws.{limited_fits}
use Rattle.lexical_write_float_spec.proofs.LengthLaws.{text_length}

pub first_place : FirstPlace
first_place = place_is

-- only the digit 0 has the byte "0"
byte_zero : (d : ℕ) → digit_byte d ≡ 48 → d ≡ 0
byte_zero d e = go (ltb d 10) refl
  where
    go : (b : Bool) → ltb d 10 ≡ b → d ≡ 0
    go true p = omega (arith, byte_figure d (ltb-true d 10 p))
    go false p = absurd (omega (arith, byte_capital d (ltb-false d 10 p)))

pub first_digit : FirstDigit
unfolding exact_digits
first_digit b m e B M h =
    let n = m * 2 ^ modulo e b in
    let bytes : get_or (map digit_byte (digits (2 ^ b) n)) 0 (digit_byte 0) ≡ 48 = unfold digit_byte in (rw (numeral_one (2 ^ b) n) at h) in
    let z : get_or (digits (2 ^ b) n) 0 0 ≡ 0 = byte_zero (get_or (digits (2 ^ b) n) 0 0) (sym (get_or-map digit_byte (digits (2 ^ b) n) 0 0) ∙ bytes) in
    omega (arith, first-is b m e B M)

pub last_digit : LastDigit
unfolding exact_digits
last_digit b m e B o h =
    let n = m * 2 ^ modulo e b in
    last-is b m e B o (byte_zero (n % 2 ^ b) (sym (last_byte (2 ^ b) n 48 (radix_above b B)) ∙ h))

limited_length : (f : Format) (F : NumberFormat) (o : Options) (row : Pair) → Writable F o row → (s : Bool) (m : ℕ) (e : ℤ) → T (fits f (fin s m e)) → length (limited_text F o row m e) < longest_text
unfolding limited_text
limited_length f F o row W s m e h =
    let v = limited o.round_mode row.b o.max_significant_digits m e in
    text_length F o row W v.m v.e (limited_fits f s o.round_mode row.b o.max_significant_digits m e W.reads.pair.some_bits h)

-- a finite float is not refused by an admitted format
pub finite_text : (F : NumberFormat) (o : Options) (row : Pair) (x : Float) → writing_format F o ≡ done row → T (finite x) → (t : List ℕ) × (write_text F o x ≡ done t)
unfolding write_text float_text
finite_text F o row nan w h = absurd h
finite_text F o row (inf s) w h = absurd h
finite_text F o row (fin s m e) w h = (signed_text F o (fin s m e) row, ap (λ (z : Answer Pair). and_then z (float_text F o (fin s m e))) w)

-- a sign is one byte
sign_short : (s : Bool) → length (minus_sign s) ≤ 1
sign_short true = omega arith
sign_short false = omega arith

pub longest_text_lem : LongestText
unfolding write_text float_text
longest_text_lem f F o x t h e = go (writing_format F o) refl x h e
  where
    go : (a : Answer Pair) → writing_format F o ≡ a → (x : Float) → T (fits f x) → and_then a (float_text F o x) ≡ done t → length t ≤ longest_text
    go (refused n p) w x h e = absurd (refused_done n p t e)
    go (done row) w nan h e = absurd (refused_done 7 0 t e)
    go (done row) w (inf s) h e = absurd (refused_done 7 0 t e)
    go (done row) w (fin s m d) h e =
        rw (← done_same (minus_sign s ++ limited_text F o row m d) t e, length-append (minus_sign s) (limited_text F o row m d))
        (omega (arith, sign_short s, limited_length f F o row (writable F o row w) s m d h))

pub whole_power : WholePower
whole_power F o row p w = power_whole row p (writable F o row w).reads.pair
