-- The sheet of a table whose checks have passed, and the refusals before it. Assumes nothing.
use Prim.Native.Nat.{ℕ, zero, suc, zero-le, ◌+◌, ◌*◌, ◌≤◌, ◌<◌}
use mathlib.Core.Path.{◌≡◌, refl, sym, ap, ◌∙◌}
use mathlib.Core.Bool.{true}
use mathlib.Core.List.{List, [], ◌∷◌, ◌++◌, append_assoc}
use native.Mathlib.Omega.{arith}
use borrow.Author.Tests.{le-leb}
use lib.Dec.{leb}
use lib.ListN.{length, drop, length-append}
use Rattle.lexical_util.specs.Answer.{Answer, done, refused, and_then, written, held}
use Rattle.lexical_util.proofs.AnswerLaws.{refused_done, done_same, text_fits, text_short}
use Rattle.lexical_write_integer_spec.specs.Digits.{numeral}
use Rattle.lexical_write_integer_spec.specs.Write.{digit_count}
use Rattle.lexical_write_integer_spec.proofs.DigitsLaws.{count_le}
use Rattle.lexical_write_integer_spec.proofs.NumeralLaws.{length_one}
use Rattle.lexical_write_integer_spec.proofs.DigitsAnswer.{count_decimal}
use Rattle.lexical_format.specs.declared.checks.CheckedFormat.{CheckedFormat}
use Rattle.lexical_format.specs.declared.format.NumberFormat.{NumberFormat}
use Rattle.lexical_format.specs.declared.format.Pair.{Pair}
use Rattle.lexical_format.specs.declared.options.Options.{Options}
use Rattle.lexical_format.specs.Format.{settled}
use Rattle.lexical_buffer.specs.Put.{Puts}
use Rattle.lexical_buffer.proofs.PutLaws.{puts_more, put_front}
use Rattle.outage_spec.specs.declared.window.Window.{Window}
use Rattle.outage_spec.specs.Table.{table_count, rows_from, table_windows, most_windows}
use Rattle.outage_spec.specs.Sheet.{rows_text, sheet_of}
use Rattle.outage_spec.specs.Calls.{sheet_format, table_sheet, LongestSheet, WayBack}
use Rattle.outage_spec.proofs.WordLaws.{AreBytes}
use Rattle.outage_spec.proofs.FormatLaws.{taken}
use Rattle.outage_spec.proofs.LengthLaws.{longest_sheet, rows_short}
use Rattle.outage_spec.proofs.TableLaws.{none_left, split, rows_count, rows_sound}
use Rattle.outage_spec.proofs.WayBackLaws.{way_back}
use Rattle.outage_table.specs.Text.{contents, row_of, rows_of, HasTexts, Admitted}
use Rattle.outage_table.proofs.RowsLaws.{row_texts}
use Rattle.lexical_write_float_spec.specs.Write.{longest_text}

module _ (F : NumberFormat) (o : Options) where
  -- ---- what measuring the rows says
  module _ (r : Answer (List Window)) (a : Answer ℕ) (is : a ≡ and_then r (λ ws. done (length (rows_of F o ws)))) where
    pub length_found : (m : ℕ) → a ≡ done m → (r ≡ done (contents r)) × (m ≡ length (rows_of F o (contents r)))
    length_found m e = go r (sym is ∙ e)
      where
        go : (r : Answer (List Window)) → and_then r (λ ws. done (length (rows_of F o ws))) ≡ done m → (r ≡ done (contents r)) × (m ≡ length (rows_of F o (contents r)))
        go (done ws) e = (refl, sym (done_same (length (rows_of F o ws)) m e))
        go (refused k p) e = absurd (refused_done k p m e)

    pub length_refused : (k p : ℕ) → a ≡ refused k p → r ≡ refused k p
    length_refused k p e = go r (sym is ∙ e)
      where
        go : (r : Answer (List Window)) → and_then r (λ ws. done (length (rows_of F o ws))) ≡ refused k p → r ≡ refused k p
        go (done ws) e = absurd (refused_done k p (length (rows_of F o ws)) (sym e))
        go (refused j q) e = cc

  -- ---- the rows of an accepted table: their texts
  module _ (A : Admitted F o) (t : List ℕ) (n : ℕ) where
    rows_text_lem : (w : Window) (ws : List Window) → HasTexts F o w → rows_text F o ws ≡ done (rows_of F o ws) → rows_text F o (w ∷ ws) ≡ done (rows_of F o (w ∷ ws))
    unfolding rows_text rows_of row_of
    rows_text_lem w ws h e = rw (h.0, h.1, e)

    no_text : rows_text F o [] ≡ done (rows_of F o [])
    unfolding rows_text rows_of
    no_text = refl

    rows_are : (k i : ℕ) (ws : List Window) → rows_from t n i k ≡ done ws → rows_text F o ws ≡ done (rows_of F o ws)
    rows_are zero i ws e = rw (none_left t n i ws e) no_text
    rows_are (suc k) i ws e =
        let s = split t n i k ws e in
        rw s.is_all (rows_text_lem s.first s.others (row_texts F o A t n i s.first s.is_first) (rows_are k (suc i) s.others s.is_others))

    -- two texts of at most `longest_text` bytes, a space and an LF for each row
    pub rows_most : rows_from t n 0 n ≡ done (contents (rows_from t n 0 n)) → length (rows_of F o (contents (rows_from t n 0 n))) ≤ (2 * (longest_text + 1)) * n
    rows_most f =
        let ws = contents (rows_from t n 0 n) in
        rw (rows_count t n 0 n ws f) at (rows_short F o A.0 (taken F o A.0 A.1) ws (rows_sound t n 0 n ws f) (rows_of F o ws) (rows_are n 0 ws f))

    pub windows_sheet : table_count t ≡ done n → rows_from t n 0 n ≡ done (contents (rows_from t n 0 n))
        → and_then (table_windows t) (sheet_of F o) ≡ done (numeral 10 1 n ++ (10 ∷ rows_of F o (contents (rows_from t n 0 n))))
    unfolding table_windows sheet_of
    windows_sheet e f =
        let ws = contents (rows_from t n 0 n) in
        ap (λ (c : Answer ℕ). and_then (and_then c (λ m. rows_from t m 0 m)) (sheet_of F o)) e
        ∙ ap (λ (a : Answer (List Window)). and_then a (sheet_of F o)) f
        ∙ ap (λ (a : Answer (List ℕ)). and_then a (λ s. done (numeral 10 1 (length ws) ++ (10 ∷ s)))) (rows_are n 0 ws f)
        ∙ ap (λ (m : ℕ). done (numeral 10 1 m ++ (10 ∷ rows_of F o ws))) (rows_count t n 0 n ws f)

  pub windows_wrong : (t : List ℕ) (r p : ℕ) → refused r p ≡ table_count t → and_then (table_windows t) (sheet_of F o) ≡ refused r p
  unfolding table_windows
  windows_wrong t r p e = rw (← e)

  pub windows_refused : (t : List ℕ) (n r p : ℕ) → table_count t ≡ done n → rows_from t n 0 n ≡ refused r p → and_then (table_windows t) (sheet_of F o) ≡ refused r p
  unfolding table_windows
  windows_refused t n r p e f = rw (e, f)

-- ---- the count's digits
pub count_digits : (n : ℕ) → n ≤ most_windows → (digit_count n 10 1 ≡ length (numeral 10 1 n)) × (length (numeral 10 1 n) ≤ 3)
count_digits n h = (count_decimal n 1, omega (arith, length_one 10 n, count_le 10 (omega arith) 2 n (omega arith)))

-- ---- room that is enough for any n rows is enough for these
pub room_known : (F : NumberFormat) (o : Options) → Admitted F o → (t : List ℕ) (n room : ℕ) → n ≤ most_windows → rows_from t n 0 n ≡ done (contents (rows_from t n 0 n)) → 4 + (2 * (longest_text + 1)) * n ≤ room
    → true ≡ leb (length (numeral 10 1 n) + 1 + length (rows_of F o (contents (rows_from t n 0 n)))) room
room_known F o A t n room few f h =
    let k : length (numeral 10 1 n) + 1 + length (rows_of F o (contents (rows_from t n 0 n))) ≤ room = omega (arith, (count_digits n few).1, rows_most F o A t n f) in
    sym (le-leb _ room k)

-- ---- a sheet of n rows, and the bytes lent
module _ (n : ℕ) (rows d : List ℕ) where
  sheet_length : length (numeral 10 1 n ++ (10 ∷ rows)) ≡ length (numeral 10 1 n) + 1 + length rows
  sheet_length = simp length-append (omega arith)

  pub sheet_short : length d < length (numeral 10 1 n) + 1 + length rows → (refused 8 0 ≡ written (done (numeral 10 1 n ++ (10 ∷ rows))) d) × (d ≡ held (done (numeral 10 1 n ++ (10 ∷ rows))) d)
  sheet_short h = let f = text_short (numeral 10 1 n ++ (10 ∷ rows)) d _ sheet_length h in (sym f.0, sym f.1)

  pub sheet_put : length (numeral 10 1 n) + 1 + length rows ≤ length d → (at : ℕ) (mid : List ℕ) → Puts d 0 (numeral 10 1 n ++ (10 ∷ [])) at mid → (next : ℕ) (out : List ℕ) → Puts mid at rows next out
      → (done next ≡ written (done (numeral 10 1 n ++ (10 ∷ rows))) d) × (out ≡ held (done (numeral 10 1 n ++ (10 ∷ rows))) d)
  sheet_put h at mid p next out q =
      let t = numeral 10 1 n ++ (10 ∷ rows) in
      let all : Puts d 0 t next out = rw (append_assoc (numeral 10 1 n) (10 ∷ []) rows) at (puts_more rows out next zero-le p q) in
      let f = text_fits t d _ sheet_length h in
      let z : next ≡ length (numeral 10 1 n) + 1 + length rows = omega (arith, all.next_is, sheet_length) in
      (ap done z ∙ sym f.0, all.out_is ∙ put_front d t ∙ ap (λ (k : ℕ). t ++ drop k d) sheet_length ∙ sym f.1)

-- where the rows begin
pub rows_place : (n : ℕ) (d : List ℕ) (at : ℕ) (mid : List ℕ) → Puts d 0 (numeral 10 1 n ++ (10 ∷ [])) at mid → at ≡ length (numeral 10 1 n) + 1
rows_place n d at mid p = omega (arith, p.next_is, length-append (numeral 10 1 n) (10 ∷ []))

-- ---- the format's check
module _ (F : NumberFormat) (o : Options) where
  pub settled_row : (f : CheckedFormat) → done f ≡ and_then (sheet_format F o) (λ row. done (settled o row)) → Admitted F o
  settled_row f e = go (sheet_format F o) e
    where
      go : (a : Answer Pair) → done f ≡ and_then a (λ row. done (settled o row)) → (row : Pair) × (a ≡ done row)
      go (done row) e = (row, refl)
      go (refused r p) e = absurd (refused_done r p f (sym e))

  pub settled_refused : (r p : ℕ) → refused r p ≡ and_then (sheet_format F o) (λ row. done (settled o row)) → sheet_format F o ≡ refused r p
  settled_refused r p e = go (sheet_format F o) e
    where
      go : (a : Answer Pair) → refused r p ≡ and_then a (λ row. done (settled o row)) → a ≡ refused r p
      go (done row) e = absurd (refused_done r p (settled o row) e)
      go (refused k q) e = cc

  pub sheet_passed : Admitted F o → (t : List ℕ) → table_sheet F o t ≡ and_then (table_windows t) (sheet_of F o)
  unfolding table_sheet
  sheet_passed A t = ap (λ (a : Answer Pair). and_then a (λ row. and_then (table_windows t) (sheet_of F o))) A.1

  pub sheet_refused : (r p : ℕ) → sheet_format F o ≡ refused r p → (t : List ℕ) → table_sheet F o t ≡ refused r p
  unfolding table_sheet
  sheet_refused r p e t = ap (λ (a : Answer Pair). and_then a (λ row. and_then (table_windows t) (sheet_of F o))) e

-- ---- what is said of an answer besides
pub meets : (F : NumberFormat) (o : Options) (t d out : List ℕ) (r : Answer ℕ) → AreBytes t → (r ≡ written (table_sheet F o t) d) × (out ≡ held (table_sheet F o t) d)
    → (r ≡ written (table_sheet F o t) d) × ((out ≡ held (table_sheet F o t) d) × (LongestSheet r × WayBack F o t r out))
meets F o t d out r bytes e = (e.0, (e.1, rw (e.0, e.1) (longest_sheet F o t d, way_back F o t d bytes)))
