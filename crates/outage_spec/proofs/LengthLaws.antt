-- No sheet is longer than one of the longest texts: the most rows, each of two texts, a space and an LF, behind a count line of at most four bytes. Assumes nothing.
use Prim.Native.Nat.{ℕ, suc, ◌+◌, ◌*◌, ◌≤◌}
use mathlib.Core.Path.{◌≡◌, refl, sym, ap, ◌∙◌}
use mathlib.Core.Bool.{Bool, true, false, cond}
use mathlib.Core.List.{List, [], ◌∷◌, ◌++◌}
use native.Mathlib.Omega.{arith}
use lib.Dec.{leb}
use lib.ListN.{length, length-append}
use lib.Ieee.{binary64}
use Rattle.lexical_util.specs.Answer.{Answer, done, refused, written}
use Rattle.lexical_util.specs.Digit.{All}
use Rattle.lexical_util.proofs.AnswerLaws.{done_same}
use Rattle.lexical_write_integer_spec.specs.Digits.{numeral}
use Rattle.lexical_write_integer_spec.proofs.DigitsLaws.{count_le}
use Rattle.lexical_write_integer_spec.proofs.NumeralLaws.{length_one}
use Rattle.lexical_format.specs.declared.format.NumberFormat.{NumberFormat}
use Rattle.lexical_format.specs.declared.format.Pair.{Pair}
use Rattle.lexical_format.specs.declared.options.Options.{Options}
use Rattle.lexical_write_float_spec.proofs.WriteLaws.{longest_text_lem}
use Rattle.outage_spec.specs.declared.window.Window.{Window}
use Rattle.outage_spec.specs.Sheet.{rows_text, sheet_size}
use Rattle.outage_spec.specs.Calls.{table_sheet, LongestSheet}
use Rattle.outage_spec.proofs.FormatLaws.{Taken, taken}
use Rattle.outage_spec.proofs.RowLaws.{Sound, Texts, texts, rows}
use Rattle.outage_spec.proofs.TableLaws.{header, rows_count, rows_sound}
use Rattle.outage_spec.proofs.WayBackLaws.{printed}
use Rattle.lexical_write_float_spec.specs.Write.{longest_text}

module _ (F : NumberFormat) (o : Options) (row : Pair) (F-taken : Taken F o row) where
  row_short : (w : Window) → Sound w → (t : List ℕ) → Texts F o row F-taken w t → length t ≤ (2 * (longest_text + 1))
  row_short w sound t h =
      let s = h.start_text in
      let e = h.end_text in
      let size : length t ≡ length s + suc (length e + 1) = ap length h.is_row ∙ length-append s (32 ∷ (e ++ (10 ∷ []))) ∙ ap (λ (j : ℕ). length s + suc j) (length-append e (10 ∷ [])) in
      omega (arith, size, longest_text_lem binary64 F o w.start s sound.start_fits h.is_start, longest_text_lem binary64 F o w.end e sound.end_fits h.is_end)

  pub rows_short : (ws : List Window) → All Sound ws → (t : List ℕ) → rows_text F o ws ≡ done t → length t ≤ (2 * (longest_text + 1)) * length ws
  unfolding rows_text
  rows_short [] h t e = omega (arith, ap length (sym (done_same [] t e)))
  rows_short (w ∷ ws) h t e =
      let k = rows F o row F-taken w ws t e in
      let size : length t ≡ length k.first + length k.others = ap length k.is_all ∙ length-append k.first k.others in
      let all : (2 * (longest_text + 1)) * suc (length ws) ≡ (2 * (longest_text + 1)) + (2 * (longest_text + 1)) * length ws = omega arith in
      omega (arith, size, all, row_short w h.0 k.first (texts F o row F-taken w k.first k.is_first), rows_short ws h.1 k.others k.is_others)

pub sheet_short : (F : NumberFormat) (o : Options) (t text : List ℕ) → table_sheet F o t ≡ done text → length text ≤ (sheet_size longest_text)
sheet_short F o t text e =
    let k = printed F o t text e in
    let ws = k.windows in
    let n = k.count in
    let h = header t n k.is_count in
    let many : length ws ≡ n = rows_count t n 0 n ws k.are_windows in
    let size : length text ≡ length (numeral 10 1 (length ws)) + suc (length k.rows) = ap length k.is_text ∙ length-append (numeral 10 1 (length ws)) (10 ∷ k.rows) in
    let count : length (numeral 10 1 (length ws)) ≤ 3 = rw (length_one 10 (length ws)) (count_le 10 (omega arith) 2 (length ws) (omega (arith, h.few))) in
    omega (arith, size, count, h.few, rows_short F o k.row (taken F o k.row k.is_format) ws (rows_sound t n 0 n ws k.are_windows) k.rows k.are_rows)

pub longest_sheet : (F : NumberFormat) (o : Options) (t out : List ℕ) → LongestSheet (written (table_sheet F o t) out)
longest_sheet F o t out = go (table_sheet F o t) refl
  where
    fits : (text : List ℕ) → length text ≤ (sheet_size longest_text) → (b : Bool) → LongestSheet (cond b (done (length text)) (refused 8 0))
    fits text h true = h
    fits text h false = tt

    go : (a : Answer (List ℕ)) → table_sheet F o t ≡ a → LongestSheet (written a out)
    go (refused n p) e = tt
    go (done text) e = fits text (sheet_short F o t text e) (leb (length text) (length out))
