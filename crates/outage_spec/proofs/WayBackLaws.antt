-- A sheet turns back into the same table: `WayBack` of what table to sheet answers and leaves. Assumes nothing.
use Prim.Native.Nat.{ℕ, suc, ◌+◌, ◌≤◌}
use mathlib.Core.Path.{◌≡◌, refl, sym, ap, ◌∙◌}
use mathlib.Core.Bool.{Bool, true, false, cond}
use mathlib.Core.List.{List, ◌∷◌, ◌++◌, map}
use native.Mathlib.Omega.{arith}
use borrow.Author.Tests.{le-leb, ne_eqb, le-ltb}
use lib.Dec.{leb}
use lib.ListN.{length, take, drop, length-append}
use lib.Seq.{drop-append-add, take-append_seam}
use Rattle.lexical_util.specs.Answer.{Answer, done, refused, and_then, written, held}
use Rattle.lexical_util.proofs.AnswerLaws.{refused_done, done_same}
use Rattle.lexical_util.specs.Digit.{digit_byte}
use Rattle.lexical_write_integer_spec.specs.Digits.{digits, numeral}
use Rattle.lexical_write_integer_spec.proofs.NumeralLaws.{numeral_one}
use Rattle.lexical_format.specs.declared.format.NumberFormat.{NumberFormat}
use Rattle.lexical_format.specs.declared.format.Pair.{Pair}
use Rattle.lexical_format.specs.declared.options.Options.{Options}
use Rattle.outage_spec.specs.declared.window.Window.{Window}
use Rattle.outage_spec.specs.Table.{table_size, table_of, table_count, rows_from, table_windows, most_windows}
use Rattle.outage_spec.specs.Sheet.{before, rows_text, sheet_of, sheet_count}
use Rattle.outage_spec.specs.Calls.{sheet_format, table_sheet, counted_table, sheet_table, WayBack}
use Rattle.outage_spec.proofs.WordLaws.{AreBytes}
use Rattle.outage_spec.proofs.BeforeLaws.{before_at}
use Rattle.outage_spec.proofs.NumberLaws.{number_numeral}
use Rattle.outage_spec.proofs.TextLaws.{digits_lack}
use Rattle.outage_spec.proofs.FormatLaws.{taken}
use Rattle.outage_spec.proofs.RowLaws.{rows_back}
use Rattle.outage_spec.proofs.TableLaws.{header, rows_count, rows_sound, table_back}

-- ---- a table that has a sheet
pub record Printed (F : NumberFormat) (o : Options) (t text : List ℕ) : Type 0 where
  pub row : Pair
  pub count : ℕ
  pub windows : List Window
  pub rows : List ℕ
  pub is_format : sheet_format F o ≡ done row
  pub is_count : table_count t ≡ done count
  pub are_windows : rows_from t count 0 count ≡ done windows
  pub are_rows : rows_text F o windows ≡ done rows
  pub is_text : text ≡ numeral 10 1 (length windows) ++ (10 ∷ rows)

pub printed : (F : NumberFormat) (o : Options) (t text : List ℕ) → table_sheet F o t ≡ done text → Printed F o t text
unfolding table_sheet table_windows sheet_of
printed F o t text e = by_format (sheet_format F o) refl e
  where
    by_rows : (row : Pair) → sheet_format F o ≡ done row → (n : ℕ) → table_count t ≡ done n → (ws : List Window) → rows_from t n 0 n ≡ done ws
        → (a : Answer (List ℕ)) → rows_text F o ws ≡ a → and_then a (λ r. done (numeral 10 1 (length ws) ++ (10 ∷ r))) ≡ done text → Printed F o t text
    by_rows row f n c ws w (refused k p) q e = absurd (refused_done k p text e)
    by_rows row f n c ws w (done r) q e =
        record {
          row = row;
          count = n;
          windows = ws;
          rows = r;
          is_format = f;
          is_count = c;
          are_windows = w;
          are_rows = q;
          is_text = sym (done_same (numeral 10 1 (length ws) ++ (10 ∷ r)) text e);
        }

    by_windows : (row : Pair) → sheet_format F o ≡ done row → (n : ℕ) → table_count t ≡ done n → (a : Answer (List Window)) → rows_from t n 0 n ≡ a → and_then a (sheet_of F o) ≡ done text → Printed F o t text
    by_windows row f n c (refused k p) w e = absurd (refused_done k p text e)
    by_windows row f n c (done ws) w e = by_rows row f n c ws w (rows_text F o ws) refl e

    by_count : (row : Pair) → sheet_format F o ≡ done row → (a : Answer ℕ) → table_count t ≡ a → and_then (and_then a (λ n. rows_from t n 0 n)) (sheet_of F o) ≡ done text → Printed F o t text
    by_count row f (refused k p) c e = absurd (refused_done k p text e)
    by_count row f (done n) c e = by_windows row f n c (rows_from t n 0 n) refl e

    by_format : (a : Answer Pair) → sheet_format F o ≡ a → and_then a (λ row. and_then (table_windows t) (sheet_of F o)) ≡ done text → Printed F o t text
    by_format (refused k p) f e = absurd (refused_done k p text e)
    by_format (done row) f e = by_count row f (table_count t) refl e

-- ---- its sheet, read
module _ (n : ℕ) (rows : List ℕ) where
  count_line : before 10 (numeral 10 1 n ++ (10 ∷ rows)) ≡ numeral 10 1 n
  count_line = rw (numeral_one 10 n) (before_at 10 (map digit_byte (digits 10 n)) rows (digits_lack 10 (omega arith) (digits 10 n)))

  count_back : n ≤ most_windows → sheet_count (numeral 10 1 n ++ (10 ∷ rows)) ≡ done n
  unfolding sheet_count
  count_back h =
      let size : length (numeral 10 1 n ++ (10 ∷ rows)) ≡ length (numeral 10 1 n) + suc (length rows) = length-append (numeral 10 1 n) (10 ∷ rows) in
      rw (count_line, ne_eqb (length (numeral 10 1 n)) (length (numeral 10 1 n ++ (10 ∷ rows))) (omega arith), number_numeral most_windows n h)

pub table_again : (F : NumberFormat) (o : Options) (t text : List ℕ) → AreBytes t → table_sheet F o t ≡ done text → (room : ℕ) → length t ≤ room → sheet_table F o text room ≡ done t
unfolding sheet_table counted_table
table_again F o t text bytes e room enough =
    let k = printed F o t text e in
    let ws = k.windows in
    let n = k.count in
    let h = header t n k.is_count in
    let many : length ws ≡ n = rows_count t n 0 n ws k.are_windows in
    let format = taken F o k.row k.is_format in
    let same : table_of ws ≡ t = table_back t bytes n h.size ws h k.are_windows in
    let rows_again = rows_back F o k.row format ws (rows_sound t n 0 n ws k.are_windows) k.rows k.are_rows (length (numeral 10 1 (length ws)) + 1) in
    rw (
      k.is_text,
      format.reads,
      count_back (length ws) k.rows (omega (arith, h.few)),
      le-ltb room (table_size (length ws)) (omega (arith, h.size)),
      count_line (length ws) k.rows,
      drop-append-add (numeral 10 1 (length ws)) (10 ∷ k.rows) 1,
      rows_again,
      same,
    )

-- ---- the claim
pub way_back : (F : NumberFormat) (o : Options) (t out : List ℕ) → AreBytes t → WayBack F o t (written (table_sheet F o t) out) (held (table_sheet F o t) out)
way_back F o t out bytes m e d enough = by_sheet (table_sheet F o t) refl e
  where
    by_room : (text : List ℕ) → table_sheet F o t ≡ done text → (fit : Bool) → cond fit (done (length text)) (refused 8 0) ≡ done m
        → (written (sheet_table F o (take m (cond fit (text ++ drop (length text) out) out)) (length d)) d ≡ done (length t))
        × (held (sheet_table F o (take m (cond fit (text ++ drop (length text) out) out)) (length d)) d ≡ t ++ drop (length t) d)
    by_room text q false e = absurd (refused_done 8 0 m e)
    by_room text q true e =
        let front : take m (text ++ drop (length text) out) ≡ text = ap (λ (k : ℕ). take k (text ++ drop (length text) out)) (sym (done_same (length text) m e)) ∙ take-append_seam text (drop (length text) out) in
        let again = table_again F o t text bytes q (length d) enough in
        (rw (front, again, le-leb (length t) (length d) enough), rw (front, again, le-leb (length t) (length d) enough))

    by_sheet : (a : Answer (List ℕ)) → table_sheet F o t ≡ a → written a out ≡ done m
        → (written (sheet_table F o (take m (held a out)) (length d)) d ≡ done (length t)) × (held (sheet_table F o (take m (held a out)) (length d)) d ≡ t ++ drop (length t) d)
    by_sheet (refused k p) q e = absurd (refused_done k p m e)
    by_sheet (done text) q e = by_room text q (leb (length text) (length out)) e
