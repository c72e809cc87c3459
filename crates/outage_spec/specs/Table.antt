-- The table: document 01, "u32 count n (at most 400), u32 length 8 + 16n, n starts, n ends", little endian. Definitions only.
use Rattle.std.specs.Prelude.{ℕ, zero, suc, ◌+◌, ◌*◌, not, List, [], ◌∷◌, ◌++◌, ltb, eqb, length, Float}
use Rattle.std.specs.Float.{binary64}
use Rattle.std.specs.Float.Ieee.{of_bits, to_bits}
use Rattle.lexical_util.specs.Answer.{Answer, done, and_then, checked}
use Rattle.outage_spec.specs.declared.window.Window.{Window}
use Rattle.outage_spec.specs.Words.{to_bytes, word_at}
use Rattle.outage_spec.specs.Window.{Column, columns, table_row, from}

-- n at most 400
abbrev pub most_windows : ℕ
most_windows = 400

-- the count and the length in front, of four bytes each; a float has eight, and a row two floats
abbrev pub header_size : ℕ
header_size = 8

abbrev pub float_size : ℕ
float_size = 8

abbrev pub row_size : ℕ
row_size = 2 * float_size

abbrev pub table_size : ℕ → ℕ
table_size n = header_size + row_size * n

-- ---- the table of windows
-- a column: one float of each window
unfoldable pub column_bytes : Column → List Window → List ℕ
column_bytes c [] = []
column_bytes c (w ∷ ws) = to_bytes float_size (to_bits binary64 (c w)) ++ column_bytes c ws

-- n starts, then n ends
abbrev pub columns_bytes : List Column → List Window → List ℕ
columns_bytes [] ws = []
columns_bytes (c ∷ cs) ws = column_bytes c ws ++ columns_bytes cs ws

unfoldable pub table_of : List Window → List ℕ
table_of ws = to_bytes 4 (length ws) ++ (to_bytes 4 (table_size (length ws)) ++ columns_bytes columns ws)

-- ---- the windows of a table
-- 13 fewer than 8 bytes, n above 400, or the length field or the bytes lent not 8 + 16n; else n
unfoldable pub table_count : List ℕ → Answer ℕ
table_count t =
    let n = word_at 4 t 0 in
    checked ((13, ltb (length t) header_size) ∷ (13, ltb most_windows n) ∷ (13, not (eqb (word_at 4 t 4) (table_size n))) ∷ (13, not (eqb (length t) (table_size n))) ∷ []) (done n)

-- the same check of a header, by a refusal's number that the caller gives
unfoldable pub header_count : ℕ → List ℕ → Answer ℕ
header_count k t =
    let n = word_at 4 t 0 in
    checked ((k, ltb (length t) header_size) ∷ (k, ltb most_windows n) ∷ (k, not (eqb (word_at 4 t 4) (table_size n))) ∷ (k, not (eqb (length t) (table_size n))) ∷ []) (done n)

-- the float whose bits stand at a place
abbrev pub float_at : List ℕ → ℕ → Float
float_at t at = of_bits binary64 (word_at float_size t at)

-- row i of n: a start, and as far behind the starts an end
abbrev pub window_at : List ℕ → ℕ → ℕ → Window
window_at t n i = record { start = float_at t (header_size + float_size * i); end = float_at t (header_size + float_size * n + float_size * i) }

-- the place of a row's refusal is its index
abbrev pub row_at : List ℕ → ℕ → ℕ → Answer Window
row_at t n i = from i (table_row (window_at t n i))

-- k rows of n, from row i on: the first refusal, row by row
unfoldable pub rows_from : List ℕ → ℕ → ℕ → ℕ → Answer (List Window)
rows_from t n i zero = done []
rows_from t n i (suc k) = let more = rows_from t n (suc i) k in and_then (row_at t n i) (λ w. and_then more (λ ws. done (w ∷ ws)))

unfoldable pub table_windows : List ℕ → Answer (List Window)
table_windows t = and_then (table_count t) (λ n. rows_from t n 0 n)
