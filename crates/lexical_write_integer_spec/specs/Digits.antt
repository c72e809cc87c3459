-- The digits of a number in a radix: document 01, "Integer digits", and document 02, 2.2. Definitions only.
use Rattle.std.specs.Prelude.{ℕ, zero, suc, ◌-◌, ◌/◌, ◌%◌, cond, List, [], ◌∷◌, ◌++◌, map, ltb, length, replicate}
use Rattle.lexical_util.specs.Digit.{digit_byte}

-- the digits of x, of which there are at most n + 1
unfoldable pub digits_up_to : ℕ → ℕ → ℕ → List ℕ
digits_up_to radix zero x = x ∷ []
digits_up_to radix (suc n) x = let more = digits_up_to radix n (x / radix) ++ (x % radix ∷ []) in cond (ltb x radix) (x ∷ []) more

-- most significant first, no leading zeros, one zero for zero; x has at most x + 1 digits
unfoldable pub digits : ℕ → ℕ → List ℕ
digits radix x = digits_up_to radix x x

-- a least width: zeros in front, where there are fewer digits
unfoldable pub widened : ℕ → List ℕ → List ℕ
widened width ds = replicate (width - length ds) 0 ++ ds

-- the digits of x in a radix, at least so many, as bytes
unfoldable pub numeral : ℕ → ℕ → ℕ → List ℕ
numeral radix width x = map digit_byte (widened width (digits radix x))
