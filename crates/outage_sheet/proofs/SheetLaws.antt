-- The count line, and what a sheet's table is, case by case. Assumes nothing.
use Prim.Native.Nat.{ℕ, ◌+◌, ◌≤◌, ◌<◌}
use mathlib.Core.Path.{◌≡◌, ap, ◌∙◌}
use mathlib.Core.List.{List}
use Rattle.std.specs.Prelude.{Option}
use borrow.Author.Tests.{eq-eqb, ne_eqb, lt-ltb, le-ltb}
use lib.ListN.{length, take, drop}
use Rattle.lexical_util.specs.Answer.{Answer, done, refused, written, held}
use Rattle.lexical_format.specs.declared.format.Pair.{Pair}
use Rattle.lexical_format.specs.declared.format.NumberFormat.{NumberFormat}
use Rattle.lexical_format.specs.declared.options.Options.{Options}
use Rattle.lexical_format.specs.Format.{reading_format}
use Rattle.outage_spec.specs.Table.{table_size, most_windows}
use Rattle.outage_spec.specs.Sheet.{before, number_in, or_wrong, sheet_count, lines_from}
use Rattle.outage_spec.specs.Calls.{counted_table, sheet_table}
use Rattle.outage_spec.proofs.BeforeLaws.{before_take}
use Rattle.outage_sheet.proofs.FillLaws.{table_from}

-- ---- the count line, whose LF the code found at m
module _ (s : List ℕ) where
  pub count_open : length (before 10 s) ≡ length s → sheet_count s ≡ refused 15 0
  unfolding sheet_count
  count_open k = rw (eq-eqb (length (before 10 s)) (length s) k)

  pub count_read : (m : ℕ) → m ≡ length (before 10 s) → (m ≡ length s → ⊥) → (n : Option ℕ) → n ≡ number_in most_windows (take m s) → sheet_count s ≡ or_wrong n
  unfolding sheet_count
  count_read m f k n e =
      let t : take m s ≡ before 10 s = ap (λ (i : ℕ). take i s) f ∙ before_take 10 s in
      rw (e, t, ← f, ne_eqb m (length s) k)

-- ---- what is asked for
module _ (F : NumberFormat) (o : Options) (s : List ℕ) (room : ℕ) where
  pub no_count : sheet_count s ≡ refused 15 0 → counted_table F o s room ≡ refused 15 0
  unfolding counted_table
  no_count e = rw e

  module _ (n : ℕ) (e : sheet_count s ≡ done n) where
    pub no_room : room < table_size n → counted_table F o s room ≡ refused 8 0
    unfolding counted_table
    no_room h = rw (e, lt-ltb room (table_size n) h)

    pub from_rows : table_size n ≤ room → (p : ℕ) → p ≡ length (before 10 s) + 1 → counted_table F o s room ≡ table_from (lines_from F o n p (drop p s))
    unfolding counted_table
    from_rows h p f = rw (e, le-ltb room (table_size n) h, ← f)

  pub format_refused : (k p : ℕ) → reading_format F o ≡ refused k p → sheet_table F o s room ≡ refused k p
  unfolding sheet_table
  format_refused k p e = rw e

  pub format_passed : (row : Pair) → reading_format F o ≡ done row → sheet_table F o s room ≡ counted_table F o s room
  unfolding sheet_table counted_table
  format_passed row e = rw e

-- ---- the answer and the bytes, of what is asked for
module _ (x : Answer (List ℕ)) (t : List ℕ) where
  pub refused_so : (k p : ℕ) → x ≡ refused k p → (refused k p ≡ written x t) × (t ≡ held x t)
  refused_so k p e = (rw e, rw e)

  pub answered_so : (y : Answer (List ℕ)) → x ≡ y → (r : Answer ℕ) (out : List ℕ) → (r ≡ written y t) × (out ≡ held y t) → (r ≡ written x t) × (out ≡ held x t)
  answered_so y e r out h = rw e h
