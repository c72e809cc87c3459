-- A text and the place reached in it: document 01, "The reader keeps the text and the place it has reached". Definitions only.
use Rattle.std.specs.Prelude.{ℕ, ◌+◌, cond, List, ltb, length, get_or, Option, None}
use Rattle.lexical_util.specs.Digit.{digit_value}

-- the digit value of the byte at a place; none at the text's end and past it, where no byte stands
unfoldable pub digit_at : List ℕ → ℕ → Option ℕ
digit_at text at = cond (ltb at (length text)) (digit_value (get_or text at 0)) None

-- the place behind the byte at a place; the same place where no byte stands
unfoldable pub place_after : List ℕ → ℕ → ℕ
place_after text at = cond (ltb at (length text)) (at + 1) at
