-- A sheet that is read can be written again: its windows pass the checks of a table, and under a format that is taken each has its texts. Assumes nothing.
use Prim.Native.Nat.{ℕ, zero, suc, ◌+◌, ◌*◌, ◌≤◌}
use mathlib.Core.Path.{◌≡◌, refl, sym, ap, ◌∙◌, subst}
use mathlib.Core.Bool.{Bool, true, false, not, cond}
use mathlib.Core.List.{List, [], ◌∷◌, ◌++◌, append_assoc}
use native.Mathlib.Omega.{arith}
use borrow.Author.Tests.{le-ltb, eq-eqb}
use lib.Dec.{T}
use lib.ListN.{length, drop, length-append}
use lib.Seq.{append_snoc, drop-append_seam, take_at}
use lib.Ieee.{Float, binary64, of_bits, to_bits, fits, lt}
use lib.Ieee.Bits.{is_true, of_bits-to_bits, to_bits-lt}
use lib.Ieee.Scale.{finite}
use Rattle.lexical_util.specs.Answer.{Answer, done, refused, and_then, Check, checked}
use Rattle.lexical_util.specs.Digit.{All}
use Rattle.lexical_float.proofs.FloatLaws.{own_fraction}
use Rattle.lexical_write_integer_spec.specs.Digits.{numeral}
use Rattle.lexical_format.specs.declared.format.NumberFormat.{NumberFormat}
use Rattle.lexical_format.specs.declared.format.Pair.{Pair}
use Rattle.lexical_format.specs.declared.options.Options.{Options}
use Rattle.lexical_format.specs.Format.{writing_format}
use Rattle.lexical_read_float_spec.specs.Read.{read_float}
use Rattle.lexical_read_float_spec.proofs.ReadLaws.{read_is_nearest}
use Rattle.lexical_write_float_spec.proofs.WriteLaws.{finite_text}
use Rattle.outage_spec.specs.declared.window.Window.{Window}
use Rattle.outage_spec.specs.Words.{of_bytes, to_bytes, word_at}
use Rattle.outage_spec.specs.Window.{Column, window_checks, from}
use Rattle.outage_spec.specs.Table.{table_size, column_bytes, table_of, table_count, float_at, row_at, rows_from, table_windows, most_windows}
use Rattle.outage_spec.specs.Sheet.{before, lacks, rows_text, sheet_of, fields_window, line_window, row_in, lines_from}
use Rattle.outage_spec.specs.Calls.{sheet_format, table_sheet, sheet_table}
use Rattle.outage_spec.proofs.WordLaws.{bytes_length, of_bytes_lem}
use Rattle.outage_spec.proofs.StoredLaws.{column_length, table_length, stored}
use Rattle.outage_spec.proofs.FormatLaws.{taken}
use Rattle.outage_spec.proofs.RowLaws.{Sound}

-- ---- what is known of a window that was read
record Good (w : Window) : Type 0 where
  pub sound : Sound w
  pub start_finite : T (finite w.start)
  pub end_finite : T (finite w.end)

abbrev OfRow : Answer Window → Type 0
OfRow (done w) = Good w
OfRow (refused n p) = Unit {0}

abbrev OfRows : Answer (List Window) → Type 0
OfRows (done ws) = All Good ws
OfRows (refused n p) = Unit {0}

row_checked : (cs : List Check) (a : Answer Window) → OfRow a → OfRow (checked cs a)
row_checked [] a h = h
row_checked (c ∷ cs) a h = go c.1 (row_checked cs a h)
  where
    go : (b : Bool) → OfRow (checked cs a) → OfRow (cond b (refused c.0 0) (checked cs a))
    go true k = tt
    go false k = k

row_from : (p : ℕ) (a : Answer Window) → OfRow a → OfRow (from p a)
row_from p (done w) h = h
row_from p (refused n q) h = tt

module _ (F : NumberFormat) (o : Options) where
  fields_good : (s e : List ℕ) → OfRow (fields_window F o s e)
  unfolding fields_window
  fields_good s e = go (read_float binary64 F o s) refl (read_float binary64 F o e) refl
    where
      both : (x y : Float) → read_float binary64 F o s ≡ done x → read_float binary64 F o e ≡ done y → (b : Bool) → lt y x ≡ b → OfRow (cond b (refused 14 0) (done (record { start = x; end = y })))
      both x y f g true q = tt
      both x y f g false q =
          let m = (read_is_nearest binary64 F o s x f).nearest in
          let n = (read_is_nearest binary64 F o e y g).nearest in
          record {
            sound = record { start_fits = m.held; end_fits = n.held; ordered = q };
            start_finite = (own_fraction x _ _ _ m.signed).is_finite;
            end_finite = (own_fraction y _ _ _ n.signed).is_finite;
          }

      go : (a : Answer Float) → read_float binary64 F o s ≡ a → (b : Answer Float) → read_float binary64 F o e ≡ b
          → OfRow (and_then a (λ x. and_then (from (length s + 1) b) (λ y. checked (window_checks (record { start = x; end = y })) (done (record { start = x; end = y })))))
      go (refused n p) f b g = tt
      go (done x) f (refused n p) g = tt
      go (done x) f (done y) g = both x y f g (lt y x) refl

  row_good : (l : List ℕ) → OfRow (row_in F o l)
  unfolding row_in line_window
  row_good l =
      let line = before 10 l in
      let s = before 32 line in
      let e = drop (length s + 1) line in
      row_checked ((15, lacks 10 l) ∷ []) (line_window F o line)
      (row_checked ((15, lacks 32 line) ∷ (15, not (lacks 32 e)) ∷ []) (fields_window F o s e) (fields_good s e))

  lines_good : (k p : ℕ) (l : List ℕ) → OfRows (lines_from F o k p l)
  unfolding lines_from
  lines_good zero p [] = tt
  lines_good zero p (x ∷ xs) = tt
  lines_good (suc k) p l =
      let u = length (before 10 l) + 1 in
      go (from p (row_in F o l)) (lines_from F o k (p + u) (drop u l)) (row_from p (row_in F o l) (row_good l)) (lines_good k (p + u) (drop u l))
    where
      go : (a : Answer Window) (rest : Answer (List Window)) → OfRow a → OfRows rest → OfRows (and_then a (λ w. and_then rest (λ ws. done (w ∷ ws))))
      go (done w) (done ws) g h = (g, h)
      go (done w) (refused n q) g h = tt
      go (refused n q) rest g h = tt

-- ---- the table of windows, read
word_in : (k : ℕ) (front b rest : List ℕ) (at : ℕ) → length front ≡ at → length b ≡ k → word_at k (front ++ (b ++ rest)) at ≡ of_bytes b
word_in k front b rest at e h = rw (sym e, drop-append_seam front (b ++ rest)) (ap of_bytes (take_at b rest k h))

column_split : (c : Column) (pre : List Window) (w : Window) (ws : List Window) → column_bytes c (pre ++ (w ∷ ws)) ≡ column_bytes c pre ++ (to_bytes 8 (to_bits binary64 (c w)) ++ column_bytes c ws)
unfolding column_bytes
column_split c [] w ws = refl
column_split c (v ∷ pre) w ws = rw (column_split c pre w ws, append_assoc)

float_again : (x : Float) → T (fits binary64 x) → of_bits binary64 (of_bytes (to_bytes 8 (to_bits binary64 x))) ≡ x
float_again x h = ap (of_bits binary64) (of_bytes_lem 8 (to_bits binary64 x) (to_bits-lt binary64 x h)) ∙ of_bits-to_bits binary64 x h

table_count_lem : (ws : List Window) → length ws ≤ most_windows → table_count (table_of ws) ≡ done (length ws)
unfolding table_count table_of
table_count_lem ws h =
    let n = length ws in
    let a = to_bytes 4 n in
    let b = to_bytes 4 (table_size n) in
    let columns-are = column_bytes (λ w. w.start) ws ++ (column_bytes (λ w. w.end) ws ++ []) in
    let first : word_at 4 (a ++ (b ++ columns-are)) 0 ≡ n = word_in 4 [] a (b ++ columns-are) 0 refl (bytes_length 4 n) ∙ of_bytes_lem 4 n (omega arith) in
    let second : word_at 4 (a ++ (b ++ columns-are)) 4 ≡ table_size n = word_in 4 a b columns-are 4 (bytes_length 4 n) (bytes_length 4 (table_size n)) ∙ of_bytes_lem 4 (table_size n) (omega arith) in
    let size : length (a ++ (b ++ columns-are)) ≡ table_size n = table_length ws in
    rw (first, second, size, le-ltb (table_size n) 8 (omega arith), le-ltb most_windows n h, eq-eqb (table_size n) (table_size n) refl)

-- ---- row i of it, where i windows stand before
module _ (pre : List Window) (w : Window) (ws : List Window) (good : Good w) where
  abbrev all : List Window
  all = pre ++ (w ∷ ws)

  abbrev head : List ℕ
  head = to_bytes 4 (length all) ++ to_bytes 4 (table_size (length all))

  head_length : length head ≡ 8
  head_length = omega (arith, length-append (to_bytes 4 (length all)) (to_bytes 4 (table_size (length all))), bytes_length 4 (length all), bytes_length 4 (table_size (length all)))

  column_again : (c : Column) (front rest : List ℕ) (base : ℕ) → T (fits binary64 (c w)) → table_of all ≡ front ++ (column_bytes c all ++ rest) → length front ≡ base → float_at (table_of all) (base + 8 * length pre) ≡ c w
  column_again c front rest base h e l =
      let b = to_bytes 8 (to_bits binary64 (c w)) in
      let whole : table_of all ≡ (front ++ column_bytes c pre) ++ (b ++ (column_bytes c ws ++ rest)) =
      e ∙ ap (λ (k : List ℕ). front ++ (k ++ rest)) (column_split c pre w ws)
      ∙ ap (λ (k : List ℕ). front ++ k) (append_assoc (column_bytes c pre) (b ++ column_bytes c ws) rest ∙ ap (λ (k : List ℕ). column_bytes c pre ++ k) (append_assoc b (column_bytes c ws) rest))
      ∙ sym (append_assoc front (column_bytes c pre) (b ++ (column_bytes c ws ++ rest))) in
      let size : length (front ++ column_bytes c pre) ≡ base + 8 * length pre = omega (arith, length-append front (column_bytes c pre), column_length c pre) in
      ap (λ (k : List ℕ). float_at k (base + 8 * length pre)) whole
      ∙ ap (of_bits binary64) (word_in 8 (front ++ column_bytes c pre) b (column_bytes c ws ++ rest) (base + 8 * length pre) size (bytes_length 8 (to_bits binary64 (c w))))
      ∙ float_again (c w) h

  table_parts : table_of all ≡ head ++ (column_bytes (λ v. v.start) all ++ (column_bytes (λ v. v.end) all ++ []))
  unfolding table_of
  table_parts = sym (append_assoc (to_bytes 4 (length all)) (to_bytes 4 (table_size (length all))) (column_bytes (λ v. v.start) all ++ (column_bytes (λ v. v.end) all ++ [])))

  table_ends : table_of all ≡ (head ++ column_bytes (λ v. v.start) all) ++ (column_bytes (λ v. v.end) all ++ [])
  table_ends = table_parts ∙ sym (append_assoc head (column_bytes (λ v. v.start) all) (column_bytes (λ v. v.end) all ++ []))

  row_again : row_at (table_of all) (length all) (length pre) ≡ done w
  row_again =
      let start = column_again (λ v. v.start) head (column_bytes (λ v. v.end) all ++ []) 8 good.sound.start_fits table_parts head_length in
      let size : length (head ++ column_bytes (λ v. v.start) all) ≡ 8 + 8 * length all = omega (arith, length-append head (column_bytes (λ v. v.start) all), head_length, column_length (λ v. v.start) all) in
      let end = column_again (λ v. v.end) (head ++ column_bytes (λ v. v.start) all) [] (8 + 8 * length all) good.sound.end_fits table_ends size in
      rw (start, end, is_true (finite w.start) good.start_finite, is_true (finite w.end) good.end_finite, good.sound.ordered)

rows_again : (ws pre : List Window) → All Good ws → rows_from (table_of (pre ++ ws)) (length (pre ++ ws)) (length pre) (length ws) ≡ done ws
unfolding rows_from
rows_again [] pre h = refl
rows_again (w ∷ ws) pre h =
    let same : pre ++ (w ∷ []) ++ ws ≡ pre ++ (w ∷ ws) = append_snoc pre w ws in
    let one : length (pre ++ (w ∷ [])) ≡ suc (length pre) = length-append pre (w ∷ []) ∙ (let z : length pre + 1 ≡ suc (length pre) = omega arith in z) in
    let ih : rows_from (table_of (pre ++ (w ∷ ws))) (length (pre ++ (w ∷ ws))) (suc (length pre)) (length ws) ≡ done ws =
    subst (λ (k : ℕ). rows_from (table_of (pre ++ (w ∷ ws))) (length (pre ++ (w ∷ ws))) k (length ws) ≡ done ws) one
    (subst (λ (l : List Window). rows_from (table_of l) (length l) (length (pre ++ (w ∷ []))) (length ws) ≡ done ws) same (rows_again ws (pre ++ (w ∷ [])) h.1)) in
    rw (row_again pre w ws h.0, ih)

windows_again : (ws : List Window) → All Good ws → length ws ≤ most_windows → table_windows (table_of ws) ≡ done ws
unfolding table_windows
windows_again ws h few = rw (table_count_lem ws few) (rows_again ws [] h)

-- ---- their texts
rows_text_lem : (F : NumberFormat) (o : Options) (row : Pair) → writing_format F o ≡ done row → (ws : List Window) → All Good ws → (t : List ℕ) × (rows_text F o ws ≡ done t)
unfolding rows_text
rows_text_lem F o row w [] h = ([], refl)
rows_text_lem F o row w (v ∷ vs) h =
    let s = finite_text F o row v.start w h.0.start_finite in
    let e = finite_text F o row v.end w h.0.end_finite in
    let r = rows_text_lem F o row w vs h.1 in
    ((s.0 ++ (32 ∷ (e.0 ++ (10 ∷ [])))) ++ r.0, rw (s.1, e.1, r.1))

windows_sheet : (G : NumberFormat) (q : Options) (row : Pair) → sheet_format G q ≡ done row → (ws : List Window) → All Good ws → length ws ≤ most_windows → (text : List ℕ) × (table_sheet G q (table_of ws) ≡ done text)
unfolding table_sheet sheet_of
windows_sheet G q row f ws good few =
    let texts = rows_text_lem G q row (taken G q row f).writes ws good in
    (numeral 10 1 (length ws) ++ (10 ∷ texts.0), rw (f, windows_again ws good few, texts.1))

-- a table that came from a sheet has a sheet in every format that is taken
pub sheet_again : (F : NumberFormat) (o : Options) (s : List ℕ) (room : ℕ) (t : List ℕ) → sheet_table F o s room ≡ done t
    → (G : NumberFormat) (q : Options) (row : Pair) → sheet_format G q ≡ done row → (text : List ℕ) × (table_sheet G q t ≡ done text)
sheet_again F o s room t e G q row f =
    let k = stored F o s room t e in
    let p = length (before 10 s) + 1 in
    let good : All Good k.windows = subst OfRows k.are_rows (lines_good F o k.count p (drop p s)) in
    subst (λ (l : List ℕ). (text : List ℕ) × (table_sheet G q l ≡ done text)) k.is_table (windows_sheet G q row f k.windows good k.few)
