-- What the digits calls are asked for: document 01, "Digits", and document 02, 2.2. The answer of one that writes, and the lent bytes, are `written` and `held` of it. Definitions only.
use Rattle.std.specs.Prelude.{ℕ, zero, suc, ◌/◌, ◌%◌, ◌^◌, cond, not, ◌&&◌, List, [], ◌∷◌, ◌++◌, leb, ltb, length}
use Rattle.lexical_util.specs.Answer.{Answer, done, checked}
use Rattle.lexical_util.specs.Digit.{digit_byte, is_radix, is_width}
use Rattle.lexical_write_integer_spec.specs.Digits.{digits, numeral}

-- 2 radix unknown; 16 width not 1 to 4
unfoldable pub digits_text : ℕ → ℕ → ℕ → Answer (List ℕ)
digits_text x radix width = checked ((2, not (is_radix radix)) ∷ (16, not (is_width width)) ∷ []) (done (numeral radix width x))

-- how many digits x has, at least so many, and 0 where the radix is unknown
unfoldable pub digit_count : ℕ → ℕ → ℕ → ℕ
digit_count x radix width = cond (is_radix radix) (length (numeral radix width x)) 0

-- how many x has in radix 2 ^ b, and 0 where b is 0, since no radix has digits of no bits
unfoldable pub digit_log : ℕ → ℕ → ℕ
digit_log x b = cond (ltb 0 b) (length (digits (2 ^ b) x)) 0

-- the bytes of the last k digits of x, leading zeros included
unfoldable pub last_numeral : ℕ → ℕ → ℕ → List ℕ
last_numeral radix zero x = []
last_numeral radix (suc k) x = last_numeral radix k (x / radix) ++ (digit_byte (x % radix) ∷ [])

-- the last k digits of a mantissa in radix 2 ^ b; 2: no radix of a mantissa has digits of b bits
unfoldable pub mantissa_text : ℕ → ℕ → ℕ → Answer (List ℕ)
mantissa_text x b k = checked ((2, not (leb 1 b && leb b 5)) ∷ []) (done (last_numeral (2 ^ b) k x))
