-- The digits of a number as they are asked for; one as one byte, by its last digit in radix 32, and two decimal ones as two. Assumes nothing.
use Prim.Native.Nat.{ℕ, ◌+◌, ◌/◌, ◌%◌, ◌≤◌, ◌<◌}
use mathlib.Core.Path.{◌≡◌, refl, sym, ap, ◌∙◌}
use mathlib.Core.Bool.{Bool, true, false}
use mathlib.Core.List.{List, [], ◌∷◌, ◌++◌}
use native.Mathlib.Nat.{mod-eq_of_lt, lt_of_lt_of_le}
use native.Mathlib.Omega.{arith}
use lib.ListN.{length, take-append-drop}
use Rattle.lexical_util.specs.Answer.{done}
use Rattle.lexical_util.specs.Digit.{digit_byte, is_radix, is_width}
use Rattle.lexical_write_integer_spec.specs.Digits.{numeral}
use Rattle.lexical_write_integer_spec.specs.Write.{digits_text}
use Rattle.lexical_write_integer_spec.proofs.NumeralLaws.{numeral_lt, numeral_ge}
use Rattle.lexical_write_integer_spec.proofs.DigitsAnswer.{asked}
use Rattle.lexical_buffer.specs.Put.{next_place, held_from, Puts}
use Rattle.lexical_buffer.proofs.PutLaws.{puts_in, short_put}

-- of a number below the radix
pub one_numeral : (radix x byte : ℕ) → x < radix → radix ≤ 32 → byte ≡ digit_byte (x % 32) → byte ∷ [] ≡ numeral radix 1 x
one_numeral radix x byte h few e = rw (e, mod-eq_of_lt {n = x} {m = 32} (lt_of_lt_of_le h few)) (sym (numeral_lt radix x h))

-- of two decimal digits
pub two_numeral : (x first last : ℕ) → 10 ≤ x → x < 100 → first ≡ digit_byte (x / 10 % 32) → last ≡ digit_byte (x % 10 % 32) → (first ∷ []) ++ (last ∷ []) ≡ numeral 10 1 x
two_numeral x first last h k p q =
    ap (λ (l : List ℕ). l ++ (last ∷ [])) (one_numeral 10 (x / 10) first (omega arith) (omega arith) p)
    ∙ ap (λ (d : ℕ). numeral 10 1 (x / 10) ++ (d ∷ [])) (q ∙ ap digit_byte (mod-eq_of_lt {n = x % 10} {m = 32} (omega arith)))
    ∙ sym (numeral_ge 10 x (omega arith) h)

-- ---- what the digits call is asked for
pub decimal_asked : (x : ℕ) → digits_text x 10 1 ≡ done (numeral 10 1 x)
unfolding is_radix is_width
decimal_asked x = asked x 10 1 refl refl

-- past the end there is no room for a digit
module _ (x radix width : ℕ) (d : List ℕ) (at : ℕ) (past : length d < at) where
  abbrev Stays : Type 0
  Stays = (next_place at (digits_text x radix width) d ≡ at) × (held_from at (digits_text x radix width) d ≡ d)

  pub digits_past_end : Stays
  unfolding digits_text
  digits_past_end = go (is_radix radix) (is_width width) refl refl
    where
      go : (known wide : Bool) → is_radix radix ≡ known → is_width width ≡ wide → Stays
      go true true e k = short_put (digits_text x radix width) (numeral radix width x) d at (asked x radix width e k) (omega arith)
      go true false e k = rw (e, k) (refl, take-append-drop at d)
      go false wide e k = rw e (refl, take-append-drop at d)

-- what `put_number` does where there is room
pub number_puts : (radix width x : ℕ) → is_radix radix ≡ true → is_width width ≡ true → (d : List ℕ) (at r : ℕ) (o : List ℕ) → at + length (numeral radix width x) ≤ length d
    → (r ≡ next_place at (digits_text x radix width) d) × (o ≡ held_from at (digits_text x radix width) d) → Puts d at (numeral radix width x) r o
number_puts radix width x k l d at r o h e = puts_in (digits_text x radix width) (numeral radix width x) d at (asked x radix width k l) h r o e.0 e.1
