-- No byte below 33, a space or an LF say, stands in a text that was written: point and mark are checked, and digits and signs lie above. Assumes nothing.
use Prim.Native.Nat.{ℕ, ◌≤◌, ◌<◌}
use mathlib.Core.Path.{◌≡◌, refl, subst}
use mathlib.Core.Bool.{Bool, true, false}
use mathlib.Core.List.{List, [], ◌∷◌, ◌++◌, map}
use native.Mathlib.Omega.{arith}
use borrow.Author.Tests.{ltb-true, ltb-false}
use lib.Dec.{ltb}
use lib.Ieee.{Float}
use Rattle.lexical_util.specs.Answer.{done}
use Rattle.lexical_util.specs.Digit.{digit_byte}
use Rattle.lexical_util.proofs.DigitLaws.{byte_figure, byte_capital}
use Rattle.lexical_float.specs.Sign.{minus_sign}
use Rattle.lexical_format.specs.declared.format.NumberFormat.{NumberFormat}
use Rattle.lexical_format.specs.declared.format.Pair.{Pair}
use Rattle.lexical_format.specs.declared.options.Options.{Options}
use Rattle.lexical_format.specs.Format.{reading_format}
use Rattle.lexical_format.proofs.FormatLaws.{readable}
use Rattle.lexical_write_float_spec.specs.Write.{write_text}
use Rattle.lexical_read_float_spec.specs.Shape.{Grammar, Sign, unsigned, plus, minus, Tail, absent, exponent, Shape, sign_bytes, tail_bytes, fraction_bytes, print}
use Rattle.lexical_read_float_spec.specs.Read.{grammar_of}
use Rattle.lexical_rewrite_spec.proofs.WrittenLaws.{written_is_shaped}
use Rattle.outage_spec.proofs.BeforeLaws.{Lacks, lacks_append}

-- ---- the bytes of a shape
digit_above : (d : ℕ) → 48 ≤ digit_byte d
digit_above d = go (ltb d 10) refl
  where
    go : (b : Bool) → ltb d 10 ≡ b → 48 ≤ digit_byte d
    go true e = omega (arith, byte_figure d (ltb-true d 10 e))
    go false e = omega (arith, byte_capital d (ltb-false d 10 e))

module _ (b : ℕ) (low : b < 33) where
  pub digits_lack : (ds : List ℕ) → Lacks b (map digit_byte ds)
  digits_lack [] = tt
  digits_lack (d ∷ ds) = (λ e. omega (arith, low, digit_above d, e), digits_lack ds)

  sign_lacks : (s : Sign) → Lacks b (sign_bytes s)
  sign_lacks unsigned = tt
  sign_lacks plus = (λ e. omega (arith, low, e), tt)
  sign_lacks minus = (λ e. omega (arith, low, e), tt)

  minus_lacks : (negative : Bool) → Lacks b (minus_sign negative)
  minus_lacks true = (λ e. omega (arith, low, e), tt)
  minus_lacks false = tt

  module _ (G : Grammar) (point : 33 ≤ G.point) (mark : 33 ≤ G.mark) where
    tail_lacks : (t : Tail) → Lacks b (tail_bytes G t)
    tail_lacks absent = tt
    tail_lacks (exponent s ds) = (λ e. omega (arith, low, mark, e), lacks_append b (sign_bytes s) (map digit_byte ds) (sign_lacks s) (digits_lack ds))

    fraction_lacks : (dot : Bool) (ds : List ℕ) → Lacks b (fraction_bytes G dot ds)
    fraction_lacks true ds = (λ e. omega (arith, low, point, e), digits_lack ds)
    fraction_lacks false ds = tt

    print_lacks : (s : Shape) → Lacks b (print G s)
    unfolding print
    print_lacks s =
        lacks_append b (minus_sign s.negative) _ (minus_lacks s.negative)
        (lacks_append b (map digit_byte s.whole) (fraction_bytes G s.dot s.fraction ++ tail_bytes G s.tail) (digits_lack s.whole)
        (lacks_append b (fraction_bytes G s.dot s.fraction) (tail_bytes G s.tail) (fraction_lacks s.dot s.fraction) (tail_lacks s.tail)))

pub text_lacks : (b : ℕ) → b < 33 → (F : NumberFormat) (o : Options) (row : Pair) (x : Float) (t : List ℕ) → reading_format F o ≡ done row → write_text F o x ≡ done t → Lacks b t
text_lacks b low F o row x t r e =
    let shaped = written_is_shaped F o x t e in
    let seen = readable F o row r in
    subst (Lacks b) shaped.printed (print_lacks b low (grammar_of F o) seen.point.from seen.mark.from shaped.shape)
