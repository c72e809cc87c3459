-- What the mantissa call answers and leaves in the lent bytes, in each of its cases. Assumes nothing.
use Prim.Native.Nat.{ℕ, ◌^◌, ◌≤◌, ◌<◌}
use mathlib.Core.Path.{◌≡◌, refl, sym, ◌∙◌}
use mathlib.Core.Bool.{and-false}
use mathlib.Core.List.{List}
use mathlib.Core.Logic.{◌⊎◌, inl, inr}
use borrow.Author.Tests.{le-leb, lt-leb}
use lib.ListN.{length}
use Rattle.lexical_util.specs.Answer.{done, refused, written, held}
use Rattle.lexical_util.proofs.AnswerLaws.{text_fits, text_short}
use Rattle.lexical_write_integer_spec.specs.Write.{last_numeral, mantissa_text}
use Rattle.lexical_write_integer_spec.specs.Front.{begun}
use Rattle.lexical_write_integer_spec.proofs.LastLaws.{length_last}
use Rattle.lexical_write_integer_spec.proofs.FrontLaws.{begun_whole}

pub unknown : (x b k : ℕ) (out : List ℕ) → (b ≡ 0) ⊎ (5 < b) → (refused 2 0 ≡ written (mantissa_text x b k) out) × (out ≡ held (mantissa_text x b k) out)
unfolding mantissa_text
unknown x b k out (inl h) = rw h (refl, refl)
unknown x b k out (inr h) = rw (lt-leb b 5 h, and-false) (refl, refl)

-- digits that a radix has
pub asked : (x b k : ℕ) → 0 < b → b ≤ 5 → mantissa_text x b k ≡ done (last_numeral (2 ^ b) k x)
unfolding mantissa_text
asked x b k positive small = rw (le-leb 1 b positive, le-leb b 5 small)

module _ (x b k : ℕ) (out : List ℕ) (positive : 0 < b) (small : b ≤ 5) where
  pub fits : k ≤ length out → (done k ≡ written (mantissa_text x b k) out) × (begun (last_numeral (2 ^ b) k x) k out ≡ held (mantissa_text x b k) out)
  fits h =
      let t = last_numeral (2 ^ b) k x in
      let f = text_fits t out k (length_last (2 ^ b) k x) h in
      rw (asked x b k positive small) (sym f.0, begun_whole t out k (length_last (2 ^ b) k x) ∙ sym f.1)

  pub short : length out < k → (refused 8 0 ≡ written (mantissa_text x b k) out) × (out ≡ held (mantissa_text x b k) out)
  short h = let f = text_short (last_numeral (2 ^ b) k x) out k (length_last (2 ^ b) k x) h in rw (asked x b k positive small) (sym f.0, sym f.1)
