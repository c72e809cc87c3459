-- The mission's week, of sheets: Monday's table is printed, stations rewrite the sheet, and the last sheet is read as a table again. Statements only; `WeekLaws` proves them.
use Rattle.std.specs.Prelude.{ℕ, ◌≡◌, List, [], ◌∷◌}
use Rattle.lexical_util.specs.Answer.{Answer, done, and_then}
use Rattle.lexical_util.specs.Digit.{All}
use Rattle.lexical_format.specs.declared.format.Pair.{Pair}
use Rattle.lexical_rewrite_spec.specs.declared.text_format.TextFormat.{TextFormat}
use Rattle.lexical_rewrite_spec.specs.Chain.{last_format}
use Rattle.outage_spec.specs.Format.{printed}
use Rattle.outage_spec.specs.Calls.{sheet_format}
use Rattle.outage_console.specs.Screen.{printing, reading, rewriting}

-- a format that table to sheet takes: refusals 1 to 6 and 16 refuse nothing, and it has no digit limit
abbrev pub Taken : TextFormat → Type 0
Taken G = (row : Pair) × (sheet_format G.format G.options ≡ done row)

-- one station after the other: each reads the sheet of the one before under that one's format
unfoldable pub stations : TextFormat → List TextFormat → List ℕ → Answer (List ℕ)
stations F [] s = done s
stations F (G ∷ Gs) s = and_then (rewriting F G s) (stations G Gs)

-- no station is refused, and the last sheet is read as the table t
pub record Returns (F : TextFormat) (Gs : List TextFormat) (s t : List ℕ) : Type 0 where
  pub last : List ℕ
  pub never_refused : stations F Gs s ≡ done last
  pub comes_back : reading (last_format F Gs) last ≡ done t

-- whatever sheet is read as a table, and whatever formats the stations have
abbrev pub SheetReturns : TextFormat → List ℕ → Type 0
SheetReturns F s = (t : List ℕ) → reading F s ≡ done t → (Gs : List TextFormat) → All Taken Gs → Returns F Gs s t

-- Monday's table comes back on Friday
abbrev pub TableReturns : List ℕ → Type 0
TableReturns t = (s : List ℕ) → printing t ≡ done s → (Gs : List TextFormat) → All Taken Gs → Returns printed Gs s t
