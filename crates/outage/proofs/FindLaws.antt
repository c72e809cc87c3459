-- Looking for a byte from a place on: a byte more, the byte itself, and none left. Assumes nothing.
use Prim.Native.Nat.{ℕ, suc, ◌≤◌, ◌<◌}
use mathlib.Core.Path.{◌≡◌}
use mathlib.Core.List.{List}
use borrow.Author.Tests.{eq-eqb, ne_eqb}
use lib.ListN.{length, drop, get_or, drop_of_length-le}
use lib.Seq.{drop-cons}
use Rattle.outage_spec.specs.Sheet.{before}

module _ (b : ℕ) (l : List ℕ) (i : ℕ) where
  pub before_more : i < length l → (get_or l i 0 ≡ b → ⊥) → length (before b (drop i l)) ≡ suc (length (before b (drop (suc i) l)))
  unfolding before
  before_more h k = rw (drop-cons l i 0 h, ne_eqb (get_or l i 0) b k)

  pub before_here : i < length l → get_or l i 0 ≡ b → length (before b (drop i l)) ≡ 0
  unfolding before
  before_here h k = rw (drop-cons l i 0 h, eq-eqb (get_or l i 0) b k)

  pub before_none : length l ≤ i → length (before b (drop i l)) ≡ 0
  unfolding before
  before_none h = rw (drop_of_length-le l {i = i} h)
