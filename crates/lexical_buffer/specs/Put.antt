-- A text put into the bytes lent, from a place on. What a call answers and leaves there is `written` and `held` of the part from the place on. Definitions only.
use Rattle.std.specs.Prelude.{ℕ, ◌+◌, ◌≡◌, List, ◌++◌, length, take, drop}
use Rattle.lexical_util.specs.Answer.{Answer, done, refused, written, held}

-- the place behind a text of that length; after a refusal the place itself
abbrev pub place_behind : ℕ → Answer ℕ → ℕ
place_behind at (done n) = at + n
place_behind at (refused n p) = at

-- the next place, where the text asked for stands from a place on
abbrev pub next_place : ℕ → Answer (List ℕ) → List ℕ → ℕ
next_place at asked out = place_behind at (written asked (drop at out))

-- and what the bytes hold then
abbrev pub held_from : ℕ → Answer (List ℕ) → List ℕ → List ℕ
held_from at asked out = take at out ++ held asked (drop at out)

-- ---- where there is room. No contract of an exported call cites it.
-- a text stands in the bytes from a place on, and all else is as it was
unfoldable pub put : List ℕ → ℕ → List ℕ → List ℕ
put held at t = take at held ++ (t ++ drop (at + length t) held)

-- after putting it: the next place, and what the bytes became
pub record Puts (held : List ℕ) (at : ℕ) (t : List ℕ) (next : ℕ) (out : List ℕ) : Type 0 where
  pub next_is : next ≡ at + length t
  pub out_is : out ≡ put held at t
