-- Digits read in a radix, with zeros in front and behind. Assumes nothing.
use Prim.Native.Nat.{ℕ, zero, suc, ◌+◌, ◌*◌, ◌^◌}
use mathlib.Core.Path.{◌≡◌, refl, sym, ap, ◌∙◌}
use mathlib.Core.List.{List, [], ◌∷◌, ◌++◌}
use native.Mathlib.Nat.{add-zero, zero-mul, mul-one, mul_assoc, pow-zero, pow-succ'}
use Rattle.lexical_util.specs.Digit.{read_on, digits_value}
use Rattle.lexical_rewrite_spec.proofs.TextShape.{noughts}

read_append : (r n : ℕ) (s t : List ℕ) → read_on r n (s ++ t) ≡ read_on r (read_on r n s) t
unfolding read_on
read_append r n [] t = refl
read_append r n (d ∷ s) t = read_append r (n * r + d) s t

-- k zeros behind multiply by the radix k times
read_noughts : (r n k : ℕ) → read_on r n (noughts k) ≡ n * r ^ k
unfolding read_on
read_noughts r n zero = sym (ap (λ (x : ℕ). n * x) (pow-zero r) ∙ mul-one n)
read_noughts r n (suc k) = read_noughts r (n * r + 0) k ∙ rw (add-zero (n * r), mul_assoc n r (r ^ k), pow-succ' r k)

-- zeros in front are nothing
pub value_padded : (r a z : ℕ) (ds : List ℕ) → digits_value r (noughts a ++ (ds ++ noughts z)) ≡ digits_value r ds * r ^ z
value_padded r a z ds = rw (read_append r 0 (noughts a) (ds ++ noughts z), read_noughts r 0 a, zero-mul, read_append r 0 ds (noughts z)) (read_noughts r (digits_value r ds) z)
