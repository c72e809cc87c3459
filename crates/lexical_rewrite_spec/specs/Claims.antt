-- What the laws of writing and reading together say. Statements only; `WrittenLaws` proves them.
use Rattle.std.specs.Prelude.{ℕ, ◌≡◌, List, T, Float}
use Rattle.std.specs.Float.{Format}
use Rattle.std.specs.Float.Ieee.{fits}
use Rattle.std.specs.Float.Ieee.Exact.{HasValue}
use Rattle.lexical_util.specs.Answer.{done}
use Rattle.lexical_format.specs.declared.format.Pair.{Pair}
use Rattle.lexical_format.specs.declared.format.NumberFormat.{NumberFormat}
use Rattle.lexical_format.specs.declared.options.Options.{Options}
use Rattle.lexical_format.specs.Format.{reading_format}
use Rattle.lexical_write_float_spec.specs.Write.{write_text}
use Rattle.lexical_read_float_spec.specs.Shape.{Shape, WellFormed, print}
use Rattle.lexical_read_float_spec.specs.Parse.{shape_of}
use Rattle.lexical_read_float_spec.specs.Read.{grammar_of, numerator, denominator, read_float}

-- t is the text of a shape, and is read back as that shape
pub record ReadAsShape (F : NumberFormat) (o : Options) (t : List ℕ) : Type 0 where
  pub shape : Shape
  pub formed : WellFormed (grammar_of F o) shape
  pub printed : print (grammar_of F o) shape ≡ t
  pub found : shape_of (grammar_of F o) t ≡ done shape

-- what the writer writes, with a digit limit or without, is read back as the same shape under its format
abbrev pub WrittenIsShaped : Type 0
WrittenIsShaped = (F : NumberFormat) (o : Options) (x : Float) (t : List ℕ) → write_text F o x ≡ done t → ReadAsShape F o t

-- t denotes exactly the value of x, with its sign
pub record Denotes (F : NumberFormat) (o : Options) (t : List ℕ) (x : Float) : Type 0 where
  pub row : Pair
  pub shape : Shape
  pub admitted : reading_format F o ≡ done row
  pub shaped : shape_of (grammar_of F o) t ≡ done shape
  pub value : HasValue x shape.negative (numerator row F.exponent_radix shape) (denominator row F.exponent_radix shape)

-- without a digit limit, the text of a float denotes exactly its value
abbrev pub WrittenIsExact : Type 0
WrittenIsExact = (F : NumberFormat) (o : Options) (x : Float) (t : List ℕ) → o.max_significant_digits ≡ 0 → write_text F o x ≡ done t → Denotes F o t x

-- and is read back as that float, at each width
abbrev pub WrittenIsReadBack : Type 0
WrittenIsReadBack =
    (f : Format) (F : NumberFormat) (o : Options) (x : Float) (t : List ℕ) → T (fits f x)
    → o.max_significant_digits ≡ 0 → write_text F o x ≡ done t → read_float f F o t ≡ done x
