-- What a list of worked examples needs: quoted texts as bytes, answers compared, and the names of the examples that fail. Definitions only.
use Rattle.std.specs.Prelude.{ℕ, Bool, true, false, ◌&&◌, List, [], ◌∷◌, eqb}
use Prim.Native.String.{String}
use Prim.Native.String as S
use Prim.Native.Char.{code}
use Rattle.lexical_util.specs.Answer.{Answer, done, refused}

-- the bytes of a quoted text of ASCII characters
abbrev pub bytes : String → List ℕ
bytes S.[] = []
bytes (S.◌∷◌ c s) = code c ∷ bytes s

abbrev pub same_bytes : List ℕ → List ℕ → Bool
same_bytes [] [] = true
same_bytes [] (y ∷ ys) = false
same_bytes (x ∷ xs) [] = false
same_bytes (x ∷ xs) (y ∷ ys) = eqb x y && same_bytes xs ys

abbrev pub same_answer : {A : Type 0} → (A → A → Bool) → Answer A → Answer A → Bool
same_answer same (done a) (done b) = same a b
same_answer same (done a) (refused n p) = false
same_answer same (refused n p) (done a) = false
same_answer same (refused n p) (refused m q) = eqb n m && eqb p q

-- an example's name, and whether it holds
pub record Example : Type 0 where
  pub name : String
  pub holds : Bool

-- the names of those that fail
unfoldable pub failing : List Example → List String
failing [] = []
failing (x ∷ xs) = elim x.holds [ true ↦ failing xs | false ↦ x.name ∷ failing xs ]
