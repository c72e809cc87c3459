-- The search of the table of pairs, row by row. Assumes nothing.
use Prim.Native.Nat.{ℕ, ◌+◌, ◌<◌}
use mathlib.Core.Path.{◌≡◌, refl, ap, ◌∙◌}
use mathlib.Core.Bool.{Bool, true, false, ◌&&◌}
use mathlib.Core.List.{List}
use Rattle.std.specs.Prelude.{Some}
use native.Mathlib.Numerals.{add-one}
use native.Mathlib.Omega.{arith}
use borrow.Author.Tests.{eqb-true}
use lib.Dec.{eqb}
use lib.ListN.{length, drop, get_or}
use lib.Seq.{drop-cons}
use Rattle.lexical_format.specs.declared.format.Pair.{Pair}
use Rattle.lexical_format.specs.Format.{pair, find_pair}

-- a row by its radix and base, and its bits
rebuilt : (p : Pair) (radix base : ℕ) → (eqb p.radix radix && eqb p.base base) ≡ true → pair radix base p.b p.c ≡ p
rebuilt p radix base e = go (eqb p.radix radix) refl (eqb p.base base) refl e
  where
    go : (s : Bool) → eqb p.radix radix ≡ s → (t : Bool) → eqb p.base base ≡ t → (s && t) ≡ true → pair radix base p.b p.c ≡ p
    go true q true r e = rw (← eqb-true p.radix radix q, ← eqb-true p.base base r)
    go true q false r e = absurd (let z : ◌≡◌ {A = ℕ} 0 1 = cc in omega arith)
    go false q t r e = absurd (let z : ◌≡◌ {A = ℕ} 0 1 = cc in omega arith)

module _ (radix base : ℕ) (rows : List Pair) (i : ℕ) (other : Pair) (inside : i < length rows) where
  abbrev wanted : Bool
  wanted = eqb (get_or rows i other).radix radix && eqb (get_or rows i other).base base

  pub find_here : wanted ≡ true → Some (pair radix base (get_or rows i other).b (get_or rows i other).c) ≡ find_pair radix base (drop i rows)
  unfolding find_pair
  find_here e = ap Some (rebuilt (get_or rows i other) radix base e) ∙ rw (drop-cons rows i other inside, e)

  pub find_next : wanted ≡ false → find_pair radix base (drop i rows) ≡ find_pair radix base (drop (i + 1) rows)
  unfolding find_pair
  find_next e = rw (add-one, drop-cons rows i other inside, e)
