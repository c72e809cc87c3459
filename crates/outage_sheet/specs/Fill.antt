-- A table filled row by row, as the code does it. That this makes the table is a law; the exported contract cites none of it. Definitions only.
use Rattle.std.specs.Prelude.{ℕ, ◌+◌, ◌*◌, ◌≡◌, not, List, [], ◌∷◌, T, length}
use Rattle.std.specs.Float.{binary64}
use Rattle.std.specs.Float.Ieee.{to_bits, is_nan}
use Rattle.lexical_util.specs.Answer.{Answer, done, refused}
use Rattle.lexical_buffer.specs.Put.{put}
use Rattle.outage_spec.specs.declared.window.Window.{Window}
use Rattle.outage_spec.specs.Words.{to_bytes}
use Rattle.outage_spec.specs.Table.{header_size, float_size, table_size}

-- its floats have bits
abbrev pub Stored : Window → Type 0
Stored w = T (not (is_nan w.start)) × T (not (is_nan w.end))

abbrev pub put_header : List ℕ → ℕ → List ℕ
put_header t n = put (put t 0 (to_bytes 4 n)) 4 (to_bytes 4 (table_size n))

-- row i of n
abbrev pub put_window : List ℕ → ℕ → ℕ → Window → List ℕ
put_window t n i w = put (put t (header_size + float_size * i) (to_bytes float_size (to_bits binary64 w.start))) (header_size + float_size * n + float_size * i) (to_bytes float_size (to_bits binary64 w.end))

-- the rows from row i on
unfoldable pub fill : ℕ → ℕ → List Window → List ℕ → List ℕ
fill n i [] t = t
fill n i (w ∷ ws) t = fill n (i + 1) ws (put_window t n i w)

-- what a table holds once the rows from row i on were read; where one was refused, nothing is said of its bytes
abbrev pub FilledTable : ℕ → ℕ → List ℕ → Answer (List Window) → List ℕ → Type 0
FilledTable n i t (done ws) o = o ≡ fill n i ws t
FilledTable n i t (refused k p) o = length o ≡ length t
