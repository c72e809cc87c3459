-- What the laws of writing say. Statements only; `WriteLaws` proves them.
use Rattle.std.specs.Prelude.{ℕ, ◌-◌, ◌*◌, ◌%◌, ◌≤◌, ◌<◌, ◌≡◌, ◌≢◌, List, T, ℤ, pos, nat_abs, ◌+ℤ◌, length, get_or, Float}
use Rattle.std.specs.Int.Signed.{shr_z}
use Rattle.std.specs.Float.{Format}
use Rattle.std.specs.Float.Ieee.{fits}
use Rattle.lexical_util.specs.Answer.{done}
use Rattle.lexical_exponent.specs.Exponent.{scale, place, power}
use Rattle.lexical_format.specs.declared.format.Pair.{Pair}
use Rattle.lexical_format.specs.declared.format.NumberFormat.{NumberFormat}
use Rattle.lexical_format.specs.declared.options.Options.{Options}
use Rattle.lexical_format.specs.Format.{writing_format}
use Rattle.lexical_write_float_spec.specs.Value.{exact_digits}
use Rattle.lexical_write_float_spec.specs.Write.{write_text, longest_text}

-- the first digit's place is p: the last one's is floor (e / b), and the others stand above it
abbrev pub FirstPlace : Type 0
FirstPlace = (b m : ℕ) (e : ℤ) → 0 < b → 0 < m → place b (scale m e) ≡ shr_z e b +ℤ pos (length (exact_digits b m e) - 1)

-- D goes from a nonzero digit
abbrev pub FirstDigit : Type 0
FirstDigit = (b m : ℕ) (e : ℤ) → 0 < b → 0 < m → get_or (exact_digits b m e) 0 48 ≢ 48

-- to a nonzero digit, m being odd
abbrev pub LastDigit : Type 0
LastDigit = (b m : ℕ) (e : ℤ) → 0 < b → m % 2 ≡ 1 → get_or (exact_digits b m e) (length (exact_digits b m e) - 1) 48 ≢ 48

-- no text passes `longest_text` bytes, with a digit limit or without, at either width
abbrev pub LongestText : Type 0
LongestText = (f : Format) (F : NumberFormat) (o : Options) (x : Float) (t : List ℕ) → T (fits f x) → write_text F o x ≡ done t → length t ≤ longest_text

-- p * b / c is whole
abbrev pub WholePower : Type 0
WholePower = (F : NumberFormat) (o : Options) (row : Pair) (p : ℤ) → writing_format F o ≡ done row → power row.b row.c p * row.c ≡ nat_abs p * row.b
