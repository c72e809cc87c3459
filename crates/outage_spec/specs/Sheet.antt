-- The sheet: document 01, "n in radix 10 without leading zeros, LF, then start, space, end, LF for each window in table order". Definitions only.
use Rattle.std.specs.Prelude.{ℕ, zero, suc, ◌+◌, ◌*◌, Bool, not, cond, ◌&&◌, List, [], ◌∷◌, ◌++◌, leb, eqb, length, drop, Option, None, Some}
use Rattle.std.specs.Float.{binary64}
use Rattle.lexical_util.specs.Answer.{Answer, done, refused, and_then, checked}
use Rattle.lexical_util.specs.Digit.{digits_value}
use Rattle.lexical_write_integer_spec.specs.Digits.{digits, numeral}
use Rattle.lexical_format.specs.declared.format.NumberFormat.{NumberFormat}
use Rattle.lexical_format.specs.declared.options.Options.{Options}
use Rattle.lexical_write_float_spec.specs.Write.{write_text}
use Rattle.lexical_read_float_spec.specs.Parse.{run}
use Rattle.lexical_read_float_spec.specs.Read.{read_float}
use Rattle.outage_spec.specs.declared.window.Window.{Window}
use Rattle.outage_spec.specs.Window.{Column, columns, judged, from}
use Rattle.outage_spec.specs.Table.{most_windows}

-- ---- the parts of a sheet
-- the bytes before the first b, all where there is none
unfoldable pub before : ℕ → List ℕ → List ℕ
before b [] = []
before b (x ∷ xs) = let more = before b xs in cond (eqb x b) [] (x ∷ more)

-- there is no b
abbrev pub lacks : ℕ → List ℕ → Bool
lacks b l = eqb (length (before b l)) (length l)

-- the number in radix 10 without leading zeros that a text is, at most a limit: digits only, and as many as the number has
unfoldable pub number_in : ℕ → List ℕ → Option ℕ
number_in limit l =
    let ds = (run 10 l).got in
    let n = digits_value 10 ds in
    cond (eqb (length ds) (length l) && (eqb (length (digits 10 n)) (length l) && leb n limit)) (Some n) None

-- ---- the sheet of windows
module _ (F : NumberFormat) (o : Options) where
  -- a row's fields, a space between them, and LF
  abbrev pub fields_text : List Column → Window → Answer (List ℕ)
  fields_text [] w = done (10 ∷ [])
  fields_text (c ∷ []) w = and_then (write_text F o (c w)) (λ s. done (s ++ (10 ∷ [])))
  fields_text (c ∷ d ∷ cs) w = let more = fields_text (d ∷ cs) w in and_then (write_text F o (c w)) (λ s. and_then more (λ t. done (s ++ (32 ∷ t))))

  unfoldable pub rows_text : List Window → Answer (List ℕ)
  rows_text [] = done []
  rows_text (w ∷ ws) = let more = rows_text ws in and_then (fields_text columns w) (λ s. and_then more (λ t. done (s ++ t)))

  -- n in radix 10, in width 1 whatever the width of the exponents, and LF; then the rows
  unfoldable pub sheet_of : List Window → Answer (List ℕ)
  sheet_of ws = and_then (rows_text ws) (λ t. done (numeral 10 1 (length ws) ++ (10 ∷ t)))

-- the most windows, with texts of so many bytes: behind a count line of four, rows of two texts, a space and an LF
abbrev pub sheet_size : ℕ → ℕ
sheet_size text = 4 + most_windows * (2 * (text + 1))

-- ---- the windows of a sheet
-- 15 count line wrong (no LF, not such a number, or above 400); else n
abbrev pub or_wrong : Option ℕ → Answer ℕ
or_wrong None = refused 15 0
or_wrong (Some n) = done n

unfoldable pub sheet_count : List ℕ → Answer ℕ
sheet_count s = checked ((15, lacks 10 s) ∷ []) (or_wrong (number_in most_windows (before 10 s)))

module _ (F : NumberFormat) (o : Options) where
  -- the start's refusal, the end's, then 14; the fields stand in a line, one space between them
  unfoldable pub fields_window : List ℕ → List ℕ → Answer Window
  fields_window start end =
      and_then (read_float binary64 F o start)
      (λ x. and_then (from (length start + 1) (read_float binary64 F o end))
      (λ y. judged (record { start = x; end = y })))

  -- a line without its LF. 15: not just one space in it
  unfoldable pub line_window : List ℕ → Answer Window
  line_window line =
      let start = before 32 line in
      let end = drop (length start + 1) line in
      checked ((15, lacks 32 line) ∷ (15, not (lacks 32 end)) ∷ []) (fields_window start end)

  -- the line in front of a list. 15: no LF
  unfoldable pub row_in : List ℕ → Answer Window
  row_in l = checked ((15, lacks 10 l) ∷ []) (line_window (before 10 l))

  -- k rows in l, whose first byte stands at p in the sheet: the first refusal, row by row, with its place in the sheet; last 15 for extra bytes
  unfoldable pub lines_from : ℕ → ℕ → List ℕ → Answer (List Window)
  lines_from zero p [] = done []
  lines_from zero p (x ∷ xs) = refused 15 p
  lines_from (suc k) p l =
      let u = length (before 10 l) + 1 in
      and_then (from p (row_in l)) (λ w. and_then (lines_from k (p + u) (drop u l)) (λ ws. done (w ∷ ws)))

  -- the rows of a sheet, n of them, behind its count line
  abbrev pub sheet_rows : List ℕ → ℕ → Answer (List Window)
  sheet_rows s n = let p = length (before 10 s) + 1 in lines_from n p (drop p s)
