-- A row's text is a line that gives the row back, and the rows' text gives the rows. Assumes nothing.
use Prim.Native.Nat.{ℕ, suc, ◌+◌, ◌<◌}
use mathlib.Core.Path.{◌≡◌, refl, sym, ap, ◌∙◌}
use mathlib.Core.Bool.{false}
use mathlib.Core.List.{List, [], ◌∷◌, ◌++◌, append_assoc}
use native.Mathlib.Omega.{arith}
use borrow.Author.Tests.{eq-eqb, ne_eqb}
use lib.Dec.{T}
use lib.ListN.{length, drop, length-append}
use lib.Seq.{drop-append-add, drop-append_seam}
use lib.Ieee.{Float, binary64, fits, lt}
use Rattle.lexical_util.specs.Answer.{Answer, done, refused, and_then}
use Rattle.lexical_util.specs.Digit.{All}
use Rattle.lexical_util.proofs.AnswerLaws.{refused_done, done_same}
use Rattle.lexical_format.specs.declared.format.NumberFormat.{NumberFormat}
use Rattle.lexical_format.specs.declared.format.Pair.{Pair}
use Rattle.lexical_format.specs.declared.options.Options.{Options}
use Rattle.lexical_write_float_spec.specs.Write.{write_text}
use Rattle.lexical_read_float_spec.specs.Read.{read_float}
use Rattle.lexical_rewrite_spec.proofs.WrittenLaws.{written_is_read_back}
use Rattle.outage_spec.specs.declared.window.Window.{Window}
use Rattle.outage_spec.specs.Window.{columns}
use Rattle.outage_spec.specs.Sheet.{before, fields_text, rows_text, fields_window, line_window, row_in, lines_from}
use Rattle.outage_spec.proofs.BeforeLaws.{Lacks, before_at, before_all, lacks_append}
use Rattle.outage_spec.proofs.TextLaws.{text_lacks}
use Rattle.outage_spec.proofs.FormatLaws.{Taken}

-- a window whose floats the width holds, the end not below the start
pub record Sound (w : Window) : Type 0 where
  pub start_fits : T (fits binary64 w.start)
  pub end_fits : T (fits binary64 w.end)
  pub ordered : lt w.end w.start ≡ false

-- ---- a line by its parts
module _ (F : NumberFormat) (o : Options) where
  line_is : (l line : List ℕ) → before 10 l ≡ line → length line < length l → row_in F o l ≡ line_window F o line
  unfolding row_in
  line_is l line e h = rw (e, ne_eqb (length line) (length l) (omega arith))

  fields_are : (line start end : List ℕ) → before 32 line ≡ start → length start < length line → drop (length start + 1) line ≡ end → before 32 end ≡ end
      → line_window F o line ≡ fields_window F o start end
  unfolding line_window
  fields_are line start end f h g k = rw (f, ne_eqb (length start) (length line) (omega arith), g, k, eq-eqb (length end) (length end) refl)

  window_is : (w : Window) (start end : List ℕ) → read_float binary64 F o start ≡ done w.start → read_float binary64 F o end ≡ done w.end → lt w.end w.start ≡ false
      → fields_window F o start end ≡ done w
  unfolding fields_window
  window_is w start end p q k = rw (p, q, k)

-- ---- a row's text
abbrev row_bytes : List ℕ → List ℕ → List ℕ
row_bytes s e = s ++ (32 ∷ (e ++ (10 ∷ [])))

row_line : (s e r : List ℕ) → row_bytes s e ++ r ≡ (s ++ (32 ∷ e)) ++ (10 ∷ r)
row_line s e r = rw (append_assoc s (32 ∷ (e ++ (10 ∷ []))) r, append_assoc e (10 ∷ []) r, append_assoc s (32 ∷ e) (10 ∷ r))

module _ (F : NumberFormat) (o : Options) (row : Pair) (F-taken : Taken F o row) where
  -- its two texts
  pub record Texts (w : Window) (t : List ℕ) : Type 0 where
    pub start_text : List ℕ
    pub end_text : List ℕ
    pub is_start : write_text F o w.start ≡ done start_text
    pub is_end : write_text F o w.end ≡ done end_text
    pub is_row : t ≡ row_bytes start_text end_text

  pub texts : (w : Window) (t : List ℕ) → fields_text F o columns w ≡ done t → Texts w t
  texts w t e = go (write_text F o w.start) refl (write_text F o w.end) refl e
    where
      go : (a : Answer (List ℕ)) → write_text F o w.start ≡ a → (b : Answer (List ℕ)) → write_text F o w.end ≡ b
          → and_then a (λ s. and_then (and_then b (λ s. done (s ++ (10 ∷ [])))) (λ t. done (s ++ (32 ∷ t)))) ≡ done t → Texts w t
      go (refused n p) f b g e = absurd (refused_done n p t e)
      go (done s) f (refused n p) g e = absurd (refused_done n p t e)
      go (done s) f (done u) g e = record { start_text = s; end_text = u; is_start = f; is_end = g; is_row = sym (done_same (row_bytes s u) t e) }

  -- the row stands in front of other bytes
  row_back : (w : Window) → Sound w → (t r : List ℕ) → Texts w t → (row_in F o (t ++ r) ≡ done w) × (length (before 10 (t ++ r)) + 1 ≡ length t)
  row_back w sound t r h =
      let s = h.start_text in
      let e = h.end_text in
      let line = s ++ (32 ∷ e) in
      let lack : (b : ℕ) → b < 33 → (x : Float) (u : List ℕ) → write_text F o x ≡ done u → Lacks b u = λ b low x u q. text_lacks b low F o row x u F-taken.reads q in
      let whole : t ++ r ≡ line ++ (10 ∷ r) = ap (λ (l : List ℕ). l ++ r) h.is_row ∙ row_line s e r in
      let no10 : Lacks 10 line = lacks_append 10 s (32 ∷ e) (lack 10 (omega arith) w.start s h.is_start) (λ (q : 32 ≡ 10). omega arith, lack 10 (omega arith) w.end e h.is_end) in
      let found : before 10 (t ++ r) ≡ line = ap (before 10) whole ∙ before_at 10 line r no10 in
      let n : length (t ++ r) ≡ length line + suc (length r) = ap length whole ∙ length-append line (10 ∷ r) in
      let m : length line ≡ length s + suc (length e) = length-append s (32 ∷ e) in
      let k : length t ≡ length s + suc (length e + 1) = ap length h.is_row ∙ length-append s (32 ∷ (e ++ (10 ∷ []))) ∙ ap (λ (j : ℕ). length s + suc j) (length-append e (10 ∷ [])) in
      let back : (x : Float) (u : List ℕ) → T (fits binary64 x) → write_text F o x ≡ done u → read_float binary64 F o u ≡ done x = λ x u f q. written_is_read_back binary64 F o x u f F-taken.no_limit q in (
        line_is F o (t ++ r) line found (omega arith)
            ∙ fields_are F o line s e (before_at 32 s e (lack 32 (omega arith) w.start s h.is_start)) (omega arith) (drop-append-add s (32 ∷ e) 1) (before_all 32 e (lack 32 (omega arith) w.end e h.is_end))
            ∙ window_is F o w s e (back w.start s sound.start_fits h.is_start) (back w.end e sound.end_fits h.is_end) sound.ordered,
        omega (arith, ap length found, m, k),
      )

  -- ---- all rows
  pub record Rows (w : Window) (ws : List Window) (t : List ℕ) : Type 0 where
    pub first : List ℕ
    pub others : List ℕ
    pub is_first : fields_text F o columns w ≡ done first
    pub is_others : rows_text F o ws ≡ done others
    pub is_all : t ≡ first ++ others

  pub rows : (w : Window) (ws : List Window) (t : List ℕ) → rows_text F o (w ∷ ws) ≡ done t → Rows w ws t
  unfolding rows_text
  rows w ws t e = go (fields_text F o columns w) refl (rows_text F o ws) refl e
    where
      go : (a : Answer (List ℕ)) → fields_text F o columns w ≡ a → (b : Answer (List ℕ)) → rows_text F o ws ≡ b
          → and_then a (λ s. and_then b (λ t. done (s ++ t))) ≡ done t → Rows w ws t
      go (refused n p) f b g e = absurd (refused_done n p t e)
      go (done s) f (refused n p) g e = absurd (refused_done n p t e)
      go (done s) f (done u) g e = record { first = s; others = u; is_first = f; is_others = g; is_all = sym (done_same (s ++ u) t e) }

  pub rows_back : (ws : List Window) → All Sound ws → (t : List ℕ) → rows_text F o ws ≡ done t → (p : ℕ) → lines_from F o (length ws) p t ≡ done ws
  unfolding lines_from rows_text
  rows_back [] h t e p = rw (sym (done_same [] t e))
  rows_back (w ∷ ws) h t e p =
      let k = rows w ws t e in
      let b = row_back w h.0 k.first k.others (texts w k.first k.is_first) in
      rw (k.is_all, b.0, b.1, drop-append_seam k.first k.others, rows_back ws h.1 k.others k.is_others (p + length k.first))
