-- What the two calls are asked for: document 01, "Table to sheet" and "Sheet to table". Their answers and the lent bytes are `written` and `held` of it. Definitions only.
use Rattle.std.specs.Prelude.{ℕ, ◌≤◌, ◌≡◌, ◌||◌, List, [], ◌∷◌, ◌++◌, ltb, length, take, drop}
use Rattle.lexical_util.specs.Answer.{Answer, done, refused, and_then, checked, written, held}
use Rattle.lexical_format.specs.declared.format.NumberFormat.{NumberFormat}
use Rattle.lexical_format.specs.declared.format.Pair.{Pair}
use Rattle.lexical_format.specs.declared.options.Options.{Options}
use Rattle.lexical_format.specs.Format.{given, bad_counts, reading_format, judged_format}
use Rattle.outage_spec.specs.Table.{table_size, table_of, table_windows}
use Rattle.outage_spec.specs.Sheet.{sheet_size, sheet_of, sheet_count, sheet_rows}
use Rattle.lexical_write_float_spec.specs.Write.{longest_text}

module _ (F : NumberFormat) (o : Options) where
  -- ---- table to sheet
  -- 1 to 4; 5, also for any digit limit; 6; 16
  unfoldable pub sheet_format : Answer Pair
  sheet_format = judged_format (bad_counts o || given o.max_significant_digits) F o

  -- then 13; by row 7 start, 7 end, 14
  unfoldable pub table_sheet : List ℕ → Answer (List ℕ)
  table_sheet t = and_then sheet_format (λ row. and_then (table_windows t) (sheet_of F o))

  -- ---- sheet to table
  -- 15 count line; 8 buffer shorter than 8 + 16n; then by row, and extra bytes
  unfoldable pub counted_table : List ℕ → ℕ → Answer (List ℕ)
  counted_table s room = and_then (sheet_count s) (λ n. checked ((8, ltb room (table_size n)) ∷ []) (and_then (sheet_rows F o s n) (λ ws. done (table_of ws))))

  -- 1, 2, 3, then these
  unfoldable pub sheet_table : List ℕ → ℕ → Answer (List ℕ)
  sheet_table s room = and_then (reading_format F o) (λ row. counted_table s room)

  -- ---- a sheet turns back into the same table: where the table t was answered by a length m, the first m bytes of what the sheet's buffer holds,
  -- read as a sheet, give t's very bytes in any buffer that has room for them
  abbrev pub WayBack : List ℕ → Answer ℕ → List ℕ → Type 0
  WayBack t answer sheet =
      (m : ℕ) → answer ≡ done m → (out : List ℕ) → length t ≤ length out
      → (written (sheet_table (take m sheet) (length out)) out ≡ done (length t))
      × (held (sheet_table (take m sheet) (length out)) out ≡ t ++ drop (length t) out)

-- ---- no sheet is longer than one of the longest texts
abbrev pub LongestSheet : Answer ℕ → Type 0
LongestSheet (done n) = n ≤ sheet_size longest_text
LongestSheet (refused n p) = Unit {0}
