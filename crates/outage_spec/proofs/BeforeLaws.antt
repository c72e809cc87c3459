-- The bytes before a byte, of which a list has one or none. Assumes nothing.
use Prim.Native.Nat.{ℕ, suc, ◌≤◌}
use mathlib.Core.Path.{◌≡◌, refl, ap}
use mathlib.Core.Bool.{Bool, true, false, cond}
use mathlib.Core.List.{List, [], ◌∷◌, ◌++◌}
use native.Mathlib.Omega.{arith}
use borrow.Author.Tests.{eq-eqb, ne_eqb}
use lib.Dec.{eqb}
use lib.ListN.{length, take}
use Rattle.lexical_util.specs.Digit.{All}
use Rattle.outage_spec.specs.Sheet.{before}

-- b stands nowhere in a list
abbrev pub Lacks : ℕ → List ℕ → Type 0
Lacks b l = All (λ x. x ≡ b → ⊥) l

pub before_at : (b : ℕ) (l r : List ℕ) → Lacks b l → before b (l ++ b ∷ r) ≡ l
unfolding before
before_at b [] r h = rw (eq-eqb b b refl)
before_at b (x ∷ xs) r h = rw (ne_eqb x b h.0) (ap (λ (m : List ℕ). x ∷ m) (before_at b xs r h.1))

pub before_all : (b : ℕ) (l : List ℕ) → Lacks b l → before b l ≡ l
unfolding before
before_all b [] h = refl
before_all b (x ∷ xs) h = rw (ne_eqb x b h.0) (ap (λ (m : List ℕ). x ∷ m) (before_all b xs h.1))

pub before_le : (b : ℕ) (l : List ℕ) → length (before b l) ≤ length l
unfolding before
before_le b [] = omega arith
before_le b (x ∷ xs) = go (eqb x b) (before_le b xs)
  where
    go : (t : Bool) → length (before b xs) ≤ length xs → length (cond t [] (x ∷ before b xs)) ≤ suc (length xs)
    go true h = omega arith
    go false h = omega arith

pub before_take : (b : ℕ) (l : List ℕ) → take (length (before b l)) l ≡ before b l
unfolding before
before_take b [] = refl
before_take b (x ∷ xs) = go (eqb x b) (before_take b xs)
  where
    go : (t : Bool) → take (length (before b xs)) xs ≡ before b xs → take (length (cond t [] (x ∷ before b xs))) (x ∷ xs) ≡ cond t [] (x ∷ before b xs)
    go true h = refl
    go false h = ap (λ (m : List ℕ). x ∷ m) h

pub lacks_append : (b : ℕ) (l m : List ℕ) → Lacks b l → Lacks b m → Lacks b (l ++ m)
lacks_append b [] m h k = k
lacks_append b (x ∷ xs) m h k = (h.0, lacks_append b xs m h.1 k)
