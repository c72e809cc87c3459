-- Bytes for the most windows are enough for every sheet's table, and more of them change nothing. Assumes nothing.
use Prim.Native.Nat.{ℕ, ◌≤◌}
use mathlib.Core.Path.{◌≡◌, refl}
use mathlib.Core.List.{List, [], ◌∷◌}
use native.Mathlib.Omega.{arith}
use borrow.Author.Tests.{le-ltb}
use lib.Dec.{ltb}
use Rattle.lexical_util.specs.Answer.{Answer, done, refused, and_then, checked}
use Rattle.lexical_format.specs.declared.format.NumberFormat.{NumberFormat}
use Rattle.lexical_format.specs.declared.format.Pair.{Pair}
use Rattle.lexical_format.specs.declared.options.Options.{Options}
use Rattle.lexical_format.specs.Format.{reading_format}
use Rattle.outage_spec.specs.Table.{table_size, table_of, most_windows}
use Rattle.outage_spec.specs.Sheet.{sheet_count, sheet_rows}
use Rattle.outage_spec.specs.Calls.{counted_table, sheet_table}
use Rattle.outage_spec.proofs.StoredLaws.{count_few}

module _ (F : NumberFormat) (o : Options) (s : List ℕ) (room : ℕ) (enough : table_size most_windows ≤ room) where
  -- the rows, where there are n
  abbrev rows : ℕ → ℕ → Answer (List ℕ)
  rows r n = checked ((8, ltb r (table_size n)) ∷ []) (and_then (sheet_rows F o s n) (λ ws. done (table_of ws)))

  by_count : (a : Answer ℕ) → sheet_count s ≡ a → and_then a (rows room) ≡ and_then a (rows (table_size most_windows))
  by_count (refused n p) e = refl
  by_count (done n) e =
      let few = count_few s n e in
      rw (le-ltb room (table_size n) (omega arith), le-ltb (table_size most_windows) (table_size n) (omega arith))

  pub room_enough : sheet_table F o s room ≡ sheet_table F o s (table_size most_windows)
  unfolding sheet_table counted_table
  room_enough = go (reading_format F o)
    where
      go : (a : Answer Pair) → and_then a (λ row. and_then (sheet_count s) (rows room)) ≡ and_then a (λ row. and_then (sheet_count s) (rows (table_size most_windows)))
      go (refused n p) = refl
      go (done row) = by_count (sheet_count s) refl
