-- The bits of a digit, case by case for the five radices that are powers of two, and for all other numbers at once. Assumes nothing.
use Prim.Native.Nat.{ℕ, ◌^◌, ◌≤◌, ◌<◌}
use mathlib.Core.Path.{◌≡◌, refl}
use mathlib.Core.Bool.{true, false}
use mathlib.Core.Logic.{inl, inr}
use lib.Dec.{eqb, lit≤}
use Rattle.lexical_util.specs.Digit.{is_radix, digit_bits}
use Rattle.lexical_util.proofs.RadixLaws.{Six, radix_six}

-- a number that is none of the five
pub record Other (n : ℕ) : Type 0 where
  pub not_2 : eqb 2 n ≡ false
  pub not_4 : eqb 4 n ≡ false
  pub not_8 : eqb 8 n ≡ false
  pub not_16 : eqb 16 n ≡ false
  pub not_32 : eqb 32 n ≡ false

pub digit_bits_other : (n : ℕ) → Other n → 0 ≡ digit_bits n
unfolding digit_bits
digit_bits_other n o = rw (o.not_2, o.not_4, o.not_8, o.not_16, o.not_32)

-- a radix that is not 10 is the power of two with these bits
pub record Power (r b : ℕ) : Type 0 where
  pub is : 2 ^ b ≡ r
  pub some_bits : 0 < b
  pub few_bits : b ≤ 5

pub power_of : (r : ℕ) → is_radix r ≡ true → (r ≡ 10 → ⊥) → Power r (digit_bits r)
power_of r h n = go (radix_six r h)
  where
    at : (k : ℕ) → r ≡ k → Power k (digit_bits k) → Power r (digit_bits r)
    at k e p = rw e p

    go : Six r → Power r (digit_bits r)
    go (inl e) = at 2 e (unfold digit_bits in record { is = refl; some_bits = lit≤ tt; few_bits = lit≤ tt })
    go (inr (inl e)) = at 4 e (unfold digit_bits in record { is = refl; some_bits = lit≤ tt; few_bits = lit≤ tt })
    go (inr (inr (inl e))) = at 8 e (unfold digit_bits in record { is = refl; some_bits = lit≤ tt; few_bits = lit≤ tt })
    go (inr (inr (inr (inl e)))) = absurd (n e)
    go (inr (inr (inr (inr (inl e))))) = at 16 e (unfold digit_bits in record { is = refl; some_bits = lit≤ tt; few_bits = lit≤ tt })
    go (inr (inr (inr (inr (inr e))))) = at 32 e (unfold digit_bits in record { is = refl; some_bits = lit≤ tt; few_bits = lit≤ tt })
