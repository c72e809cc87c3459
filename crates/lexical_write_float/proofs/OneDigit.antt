-- A number's last digit as one byte, by its last digit in radix 32. Assumes nothing.
use Prim.Native.Nat.{ℕ, ◌+◌, ◌%◌, ◌^◌, ◌≤◌}
use mathlib.Core.Path.{◌≡◌, ap, ◌∙◌}
use mathlib.Core.List.{[], ◌∷◌}
use native.Mathlib.Nat.{mod-eq_of_lt}
use lib.Bits.{bit_and}
use Rattle.lexical_util.specs.Digit.{digit_byte}
use Rattle.lexical_write_integer_spec.specs.Write.{last_numeral}
use Rattle.lexical_write_integer.proofs.FillLaws.{masked, masked_lt}

pub one_last : (b x m n byte : ℕ) → b ≤ 5 → m + 1 ≡ 2 ^ b → n ≡ 1 → byte ≡ digit_byte (bit_and x m % 32) → byte ∷ [] ≡ last_numeral (2 ^ b) n x
unfolding last_numeral
one_last b x m n byte few is one e =
    rw one (ap (λ (d : ℕ). d ∷ []) (e ∙ ap digit_byte (mod-eq_of_lt {n = bit_and x m} {m = 32} (masked_lt b x m few is) ∙ masked b x m is)))
