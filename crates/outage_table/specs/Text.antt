-- A sheet's rows as bytes, once the checks that stand before them have passed. The exported contract cites none of it. Definitions only.
use Rattle.std.specs.Prelude.{ℕ, ◌≡◌, List, [], ◌∷◌, ◌++◌, Float}
use Rattle.lexical_util.specs.Answer.{Answer, done, refused}
use Rattle.lexical_format.specs.declared.format.NumberFormat.{NumberFormat}
use Rattle.lexical_format.specs.declared.format.Pair.{Pair}
use Rattle.lexical_format.specs.declared.options.Options.{Options}
use Rattle.lexical_write_float_spec.specs.Write.{write_text}
use Rattle.outage_spec.specs.declared.window.Window.{Window}
use Rattle.outage_spec.specs.Calls.{sheet_format}

-- what an answer has, and nothing where it is a refusal
abbrev pub contents : {A : Type 0} → Answer (List A) → List A
contents (done l) = l
contents (refused n p) = []

module _ (F : NumberFormat) (o : Options) where
  unfoldable pub text_of : Float → List ℕ
  text_of x = contents (write_text F o x)

  unfoldable pub row_of : Window → List ℕ
  row_of w = text_of w.start ++ (32 ∷ (text_of w.end ++ (10 ∷ [])))

  unfoldable pub rows_of : List Window → List ℕ
  rows_of [] = []
  rows_of (w ∷ ws) = row_of w ++ rows_of ws

  -- it is not refused
  abbrev pub HasText : Float → Type 0
  HasText x = write_text F o x ≡ done (text_of x)

  abbrev pub HasTexts : Window → Type 0
  HasTexts w = HasText w.start × HasText w.end

  -- the format passed
  abbrev pub Admitted : Type 0
  Admitted = (row : Pair) × (sheet_format F o ≡ done row)
