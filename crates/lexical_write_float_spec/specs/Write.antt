-- What a call to write a float is asked for: document 01, "Write a float", with the sign of document 02, 2.3. Its answer and the lent bytes are `written` and `held` of it,
-- at both widths. Definitions only.
use Rattle.std.specs.Prelude.{ℕ, ◌≤◌, ◌≡◌, not, List, [], ◌∷◌, ◌++◌, T, ℤ, length, Float}
use Rattle.std.specs.Float.Ieee.Scale.{finite}
use Rattle.lexical_util.specs.Answer.{Answer, done, refused, and_then, checked}
use Rattle.lexical_float.specs.Sign.{sign_bit, minus_sign}
use Rattle.lexical_format.specs.declared.format.Pair.{Pair}
use Rattle.lexical_format.specs.declared.format.NumberFormat.{NumberFormat}
use Rattle.lexical_format.specs.declared.options.Options.{Options}
use Rattle.lexical_format.specs.Format.{writing_format}
use Rattle.lexical_write_float_spec.specs.Value.{absolute}
use Rattle.lexical_write_float_spec.specs.Limit.{limited}
use Rattle.lexical_write_float_spec.specs.Text.{text}

-- no text passes 2,276 bytes: 2,275 of a magnitude's, and one for the sign (document 02, 2.3)
abbrev pub longest_text : ℕ
longest_text = 2276

module _ (F : NumberFormat) (o : Options) where
  -- a magnitude's text: the digit limit, then the layout of the result
  unfoldable pub limited_text : Pair → ℕ → ℤ → List ℕ
  limited_text row m e = let v = limited o.round_mode row.b o.max_significant_digits m e in text F o row v.m v.e

  -- a set sign bit writes "-" before the text of the magnitude, minus zero's too
  abbrev pub signed_text : Float → Pair → List ℕ
  signed_text x row = minus_sign (sign_bit x) ++ limited_text row (absolute x).m (absolute x).e

  -- 7 not finite
  unfoldable pub float_text : Float → Pair → Answer (List ℕ)
  float_text x row = checked ((7, not (finite x)) ∷ []) (done (signed_text x row))

  -- 1 to 6, 16, 7
  unfoldable pub write_text : Float → Answer (List ℕ)
  write_text x = and_then (writing_format F o) (float_text x)

-- ---- what is said of an answer besides
-- it is no longer than the longest text
abbrev pub NoLonger : Answer ℕ → Type 0
NoLonger (done n) = n ≤ longest_text
NoLonger (refused n p) = Unit {0}

-- a finite float, a format that the writer admits and bytes enough for the text are never refused
abbrev pub NeverRefused : NumberFormat → Options → Float → List ℕ → Answer ℕ → Type 0
NeverRefused F o x out answer =
    (row : Pair) → T (finite x) → writing_format F o ≡ done row
    → let text = signed_text F o x row in length text ≤ length out → answer ≡ done (length text)
