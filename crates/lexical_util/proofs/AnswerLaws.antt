-- What an answer tells: a refusal is no success, what passes a list of checks passed each, and refusal 8 comes exactly where a text has no room. Assumes nothing.
use Prim.Native.Nat.{ℕ, ◌≤◌, ◌<◌}
use mathlib.Core.Path.{◌≡◌, refl}
use mathlib.Core.Bool.{Bool, true, false, cond}
use mathlib.Core.List.{List, [], ◌∷◌, ◌++◌}
use native.Mathlib.Omega.{arith}
use borrow.Author.Tests.{le-leb, lt-leb}
use lib.ListN.{length, drop}
use Rattle.lexical_util.specs.Answer.{done, refused, Check, checked, written, held}

pub refused_done : {A : Type 0} (n p : ℕ) (a : A) → refused n p ≡ done a → ⊥
refused_done n p a e = let z : ◌≡◌ {A = ℕ} 0 1 = cc in omega arith

pub done_same : {A : Type 0} (a b : A) → done a ≡ done b → a ≡ b
done_same a b e = cc

abbrev pub Passed : List Check → Type 0
Passed [] = Unit {0}
Passed (c ∷ cs) = (c.1 ≡ false) × Passed cs

pub passed : {A : Type 0} (cs : List Check) (a b : A) → checked cs (done a) ≡ done b → Passed cs × (a ≡ b)
passed [] a b e = (tt, done_same a b e)
passed (c ∷ cs) a b e = go c.1 refl (passed cs a b) e
  where
    go : (t : Bool) → c.1 ≡ t → (checked cs (done a) ≡ done b → Passed cs × (a ≡ b)) → cond t (refused c.0 0) (checked cs (done a)) ≡ done b → Passed (c ∷ cs) × (a ≡ b)
    go true p more q = absurd (refused_done c.0 0 b q)
    go false p more q = let k = more q in ((p, k.0), k.1)

-- ---- a text of n bytes, where the bytes lent are enough for it, and where they are not
module _ (t out : List ℕ) (n : ℕ) (count : length t ≡ n) where
  pub text_fits : n ≤ length out → (written (done t) out ≡ done n) × (held (done t) out ≡ t ++ drop n out)
  text_fits h = (rw (count, le-leb n (length out) h), rw (count, le-leb n (length out) h))

  pub text_short : length out < n → (written (done t) out ≡ refused 8 0) × (held (done t) out ≡ out)
  text_short h = (rw (count, lt-leb n (length out) h), rw (count, lt-leb n (length out) h))
