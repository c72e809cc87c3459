-- The text of a float that passed, what the writer answers for it, and the four pieces of a row. Assumes nothing.
use Prim.Native.Nat.{ℕ, ◌+◌, ◌≤◌, ◌<◌}
use mathlib.Core.Path.{◌≡◌, refl, sym, ap, ◌∙◌, subst}
use mathlib.Core.Bool.{true}
use mathlib.Core.List.{List, [], ◌∷◌}
use native.Mathlib.Omega.{arith}
use lib.Dec.{T}
use lib.ListN.{length, length-append}
use lib.Ieee.{Float, binary64, fits}
use lib.Ieee.Scale.{finite}
use Rattle.lexical_util.specs.Answer.{Answer, done, refused, written}
use Rattle.lexical_util.proofs.AnswerLaws.{text_fits, done_same, refused_done}
use Rattle.lexical_format.specs.declared.format.NumberFormat.{NumberFormat}
use Rattle.lexical_format.specs.declared.format.Pair.{Pair}
use Rattle.lexical_format.specs.declared.options.Options.{Options}
use Rattle.lexical_format.specs.Format.{writing_format}
use Rattle.lexical_write_float_spec.specs.Write.{write_text, longest_text}
use Rattle.lexical_write_float_spec.proofs.WriteLaws.{finite_text, longest_text_lem}
use Rattle.lexical_buffer.specs.Put.{Puts}
use Rattle.lexical_buffer.proofs.PutLaws.{puts_more}
use Rattle.outage_spec.specs.declared.window.Window.{Window}
use Rattle.outage_table.specs.Text.{text_of, row_of, HasText}

module _ (F : NumberFormat) (o : Options) where
  -- a float that passed has a text
  pub has_text : (row : Pair) → writing_format F o ≡ done row → (x : Float) → finite x ≡ true → HasText F o x
  unfolding text_of
  has_text row w x p = rw (finite_text F o row x w (subst T (sym p) tt)).1

  pub text_short : (x : Float) → T (fits binary64 x) → HasText F o x → length (text_of F o x) ≤ longest_text
  text_short x h e = longest_text_lem binary64 F o x (text_of F o x) h e

  -- ---- what the writer answers where a text has room
  module _ (x : Float) (d : List ℕ) (has : HasText F o x) (room : length (text_of F o x) ≤ length d) where
    fitted : written (write_text F o x) d ≡ done (length (text_of F o x))
    fitted = ap (λ (a : Answer (List ℕ)). written a d) has ∙ (text_fits (text_of F o x) d (length (text_of F o x)) refl room).0

    pub text_counted : (n : ℕ) → done n ≡ written (write_text F o x) d → n ≡ length (text_of F o x)
    text_counted n w = done_same n (length (text_of F o x)) (w ∙ fitted)

    pub text_served : (n p : ℕ) → refused n p ≡ written (write_text F o x) d → ⊥
    text_served n p w = refused_done n p (length (text_of F o x)) (w ∙ fitted)

  pub row_length : (w : Window) → length (row_of F o w) ≡ length (text_of F o w.start) + length (text_of F o w.end) + 2
  unfolding row_of
  row_length w = simp length-append (omega arith)

  -- ---- a row's four pieces, each put where the one before it ended: they have room, and together they are the row
  module _ (w : Window) (d : List ℕ) (at : ℕ) (room : at + length (row_of F o w) ≤ length d) where
    pub start_room : at + length (text_of F o w.start) ≤ length d
    start_room = omega (arith, row_length w)

    module _ (space : ℕ) (d1 : List ℕ) (same1 : length d1 ≡ length d) (start : Puts d at (text_of F o w.start) space d1) where
      pub space_room : space < length d1
      space_room = omega (arith, row_length w)

      module _ {byte : ℕ} (end : ℕ) (d2 : List ℕ) (same2 : length d2 ≡ length d1) (apart : Puts d1 space (byte ∷ []) end d2) where
        pub end_room : end + length (text_of F o w.end) ≤ length d2
        end_room = omega (arith, row_length w)

        module _ (newline : ℕ) (d3 : List ℕ) (same3 : length d3 ≡ length d2) (stop : Puts d2 end (text_of F o w.end) newline d3) where
          pub newline_room : newline < length d3
          newline_room = omega (arith, row_length w)

          pub row_puts : byte ≡ 32 → (next : ℕ) (d4 : List ℕ) → Puts d3 newline (10 ∷ []) next d4 → Puts d at (row_of F o w) next d4
          unfolding row_of
          row_puts e next d4 last =
              rw (← e)
              (puts_more _ d4 next (omega (arith, start_room)) start
              (puts_more _ d4 next (omega (arith, space_room)) apart (puts_more _ d4 next (omega (arith, end_room)) stop last)))
