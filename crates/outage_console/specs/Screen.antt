-- What the programs write: the bytes that were asked for, or the refusal. Definitions only.
use Rattle.std.specs.Prelude.{ℕ, ◌≡◌, cond, List, [], ◌∷◌, ◌++◌, ltb, length, drop}
use Rattle.lexical_util.specs.Answer.{Answer, done, refused, and_then}
use Rattle.lexical_write_integer_spec.specs.Digits.{numeral}
use Rattle.lexical_rewrite_spec.specs.declared.text_format.TextFormat.{TextFormat}
use Rattle.outage_spec.specs.Table.{most_windows, table_size}
use Rattle.outage_spec.specs.Sheet.{sheet_size}
use Rattle.outage_spec.specs.Format.{printed}
use Rattle.outage_spec.specs.Calls.{table_sheet, sheet_table}
use Rattle.lexical_read_float_spec.specs.Read.{longest_read}

-- "refused N at P" and LF, with number and place in radix 10
unfoldable pub refusal_line : ℕ → ℕ → List ℕ
refusal_line n p = (114 ∷ 101 ∷ 102 ∷ 117 ∷ 115 ∷ 101 ∷ 100 ∷ 32 ∷ []) ++ (numeral 10 1 n ++ ((32 ∷ 97 ∷ 116 ∷ 32 ∷ []) ++ (numeral 10 1 p ++ (10 ∷ []))))

-- what a program writes of an answer
abbrev pub screen : Answer (List ℕ) → List ℕ
screen (done bytes) = bytes
screen (refused n p) = refusal_line n p

-- ---- what each program is asked for
-- a table's sheet
abbrev pub printing : List ℕ → Answer (List ℕ)
printing t = table_sheet printed.format printed.options t

-- no sheet that is read is longer than one of the longest texts that are
abbrev pub longest_sheet_read : ℕ
longest_sheet_read = sheet_size longest_read

-- a sheet's table. 15: longer than any, at the first byte too many
unfoldable pub reading : TextFormat → List ℕ → Answer (List ℕ)
reading F s = cond (ltb longest_sheet_read (length s)) (refused 15 longest_sheet_read) (sheet_table F.format F.options s (table_size most_windows))

-- the same rows in another format
unfoldable pub rewriting : TextFormat → TextFormat → List ℕ → Answer (List ℕ)
rewriting F G s = and_then (reading F s) (table_sheet G.format G.options)

-- what is shown stands at the front of the bytes lent, and behind it what they held
abbrev pub shown : Answer (List ℕ) → List ℕ → List ℕ
shown asked out = screen asked ++ drop (length (screen asked)) out

-- a sheet rewritten in the format G is read back as the first one is
abbrev pub SameRows : TextFormat → TextFormat → List ℕ → Type 0
SameRows F G s = (text : List ℕ) → rewriting F G s ≡ done text → reading G text ≡ reading F s
