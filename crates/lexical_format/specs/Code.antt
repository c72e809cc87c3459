-- The reader's checks by the numbers that they look at. That these are document 01's is a law; no exported contract cites them. Definitions only.
use Rattle.std.specs.Prelude.{ℕ, Bool, not, ◌||◌, [], ◌∷◌, eqb}
use Rattle.lexical_util.specs.Answer.{Answer}
use Rattle.lexical_util.specs.Digit.{is_radix}
use Rattle.lexical_format.specs.declared.format.Pair.{Pair}
use Rattle.lexical_format.specs.Format.{pairs, find_pair, bad_byte, checked_pair}

-- 3 of a radix, a point and a mark
abbrev pub bad_bytes_of : ℕ → ℕ → ℕ → Bool
bad_bytes_of radix point mark = bad_byte radix point || (bad_byte radix mark || eqb point mark)

-- the reader's 1, 2, 3
unfoldable pub reading_of : ℕ → ℕ → ℕ → ℕ → ℕ → Answer Pair
reading_of radix base power point mark = checked_pair ((2, not (is_radix power)) ∷ (3, bad_bytes_of radix point mark) ∷ []) (find_pair radix base pairs)
