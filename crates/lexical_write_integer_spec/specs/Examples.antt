-- Worked examples of filling from the front, with every lent byte. `Worked` evaluates them. Definitions only.
use Rattle.std.specs.Prelude.{ℕ, Bool, ◌&&◌, List, [], ◌∷◌, eqb}
use Prim.Native.String.{String}
use Rattle.lexical_util.specs.Answer.{Answer, done, refused}
use Rattle.lexical_util.specs.Examples.{bytes, same_bytes, same_answer, Example}
use Rattle.lexical_write_integer_spec.specs.Front.{steps_text, step_written, step_held}

-- a step of x in a radix and a width where k bytes of what is lent stand: the answer, and what the bytes hold then
abbrev steps : ℕ → ℕ → ℕ → ℕ → String → Answer ℕ → String → Bool
steps x radix width k lent answer held =
    same_answer eqb (step_written (steps_text x radix width) k (bytes lent)) answer && same_bytes (step_held (steps_text x radix width) k (bytes lent)) (bytes held)

unfoldable pub from_the_front : List Example
from_the_front =
    record { name = "16: 1,234,567, an even count"; holds = steps 1234567 16 1 0 "........" (done 2) "12......" }
    ∷ record { name = "then two more"; holds = steps 1234567 16 1 2 "12......" (done 4) "12D6...." }
    ∷ record { name = "then the last two"; holds = steps 1234567 16 1 4 "12D6...." (done 6) "12D687.." }
    ∷ record { name = "then none"; holds = steps 1234567 16 1 6 "12D687.." (done 6) "12D687.." }
    ∷ record { name = "32: an odd count begins with one"; holds = steps 1234567 32 1 0 "......" (done 1) "1....." }
    ∷ record { name = "32: then a pair"; holds = steps 1234567 32 1 1 "1....." (done 3) "15L..." }
    ∷ record { name = "2: zero"; holds = steps 0 2 1 0 "..." (done 1) "0.." }
    ∷ record { name = "4: width 3"; holds = steps 1 4 3 1 "0..." (done 3) "001." }
    ∷ record { name = "8: the bytes in front are as they were"; holds = steps 1234567 8 1 3 "abcdefgh" (done 5) "abc32fgh" }
    ∷ record { name = "past the end"; holds = steps 5 16 1 3 "...." (done 3) "...." }
    ∷ record { name = "2: no such radix"; holds = steps 5 7 0 0 "...." (refused 2 0) "...." }
    ∷ record { name = "2: radix 10"; holds = steps 5 10 0 0 "...." (refused 2 0) "...." }
    ∷ record { name = "16: no such width"; holds = steps 5 16 5 0 "..." (refused 16 0) "..." }
    ∷ record { name = "8: too few bytes"; holds = steps 1234567 16 1 0 "....." (refused 8 0) "....." }
    ∷ []
