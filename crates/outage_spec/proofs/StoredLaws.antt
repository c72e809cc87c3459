-- A table that a sheet turns into is made of bytes, and has no more of them than the longest table. Assumes nothing.
use Prim.Native.Nat.{ℕ, zero, suc, ◌+◌, ◌*◌, ◌/◌, ◌≤◌}
use mathlib.Core.Path.{◌≡◌, refl, ap, ◌∙◌, subst}
use mathlib.Core.Bool.{Bool, true, false, cond}
use mathlib.Core.List.{List, [], ◌∷◌, ◌++◌}
use Rattle.std.specs.Prelude.{Option, None, Some}
use native.Mathlib.Omega.{arith}
use lib.Dec.{ltb}
use lib.ListN.{length, drop, length-append}
use lib.Ieee.{binary64, to_bits}
use Rattle.lexical_util.specs.Answer.{Answer, done, refused, and_then, checked}
use Rattle.lexical_util.proofs.AnswerLaws.{refused_done, done_same}
use Rattle.lexical_format.specs.declared.format.NumberFormat.{NumberFormat}
use Rattle.lexical_format.specs.declared.format.Pair.{Pair}
use Rattle.lexical_format.specs.declared.options.Options.{Options}
use Rattle.lexical_format.specs.Format.{reading_format}
use Rattle.outage_spec.specs.declared.window.Window.{Window}
use Rattle.outage_spec.specs.Words.{to_bytes}
use Rattle.outage_spec.specs.Window.{Column, from}
use Rattle.outage_spec.specs.Table.{table_size, column_bytes, table_of, most_windows}
use Rattle.outage_spec.specs.Sheet.{before, lacks, number_in, or_wrong, sheet_count, row_in, lines_from, sheet_rows}
use Rattle.outage_spec.specs.Calls.{counted_table, sheet_table}
use Rattle.outage_spec.proofs.WordLaws.{AreBytes, bytes_length}
use Rattle.outage_spec.proofs.NumberLaws.{number_le}

-- ---- a count is at most `most_windows`
pub count_few : (s : List ℕ) (n : ℕ) → sheet_count s ≡ done n → n ≤ most_windows
unfolding sheet_count
count_few s n e = go (lacks 10 s) e
  where
    by_number : (v : Option ℕ) → number_in most_windows (before 10 s) ≡ v → or_wrong v ≡ done n → n ≤ most_windows
    by_number None q e = absurd (refused_done 15 0 n e)
    by_number (Some m) q e = number_le most_windows (before 10 s) n (q ∙ ap Some (done_same m n e))

    go : (b : Bool) → cond b (refused 15 0) (or_wrong (number_in most_windows (before 10 s))) ≡ done n → n ≤ most_windows
    go true e = absurd (refused_done 15 0 n e)
    go false e = by_number (number_in most_windows (before 10 s)) refl e

-- ---- as many windows as rows
abbrev pub Counted : ℕ → Answer (List Window) → Type 0
Counted n (done ws) = length ws ≡ n
Counted n (refused k p) = Unit {0}

counted_row : (k p : ℕ) (row : Answer Window) (rows : Answer (List Window)) → Counted k rows → Counted (suc k) (and_then (from p row) (λ w. and_then rows (λ ws. done (w ∷ ws))))
counted_row k p (refused j q) rows c = tt
counted_row k p (done w) (refused j q) c = tt
counted_row k p (done w) (done ws) c = ap suc c

pub lines_counted : (F : NumberFormat) (o : Options) (k p : ℕ) (l : List ℕ) → Counted k (lines_from F o k p l)
unfolding lines_from
lines_counted F o zero p [] = refl
lines_counted F o zero p (x ∷ xs) = tt
lines_counted F o (suc k) p l =
    let u = length (before 10 l) + 1 in
    counted_row k p (row_in F o l) (lines_from F o k (p + u) (drop u l)) (lines_counted F o k (p + u) (drop u l))

-- ---- the table of windows
pub column_length : (c : Column) (ws : List Window) → length (column_bytes c ws) ≡ 8 * length ws
unfolding column_bytes
column_length c [] = refl
column_length c (w ∷ ws) =
    let first = bytes_length 8 (to_bits binary64 (c w)) in
    omega (arith, first, column_length c ws, length-append (to_bytes 8 (to_bits binary64 (c w))) (column_bytes c ws))

pub table_length : (ws : List Window) → length (table_of ws) ≡ table_size (length ws)
unfolding table_of
table_length ws =
    let n = length ws in
    let starts = column_bytes (λ w. w.start) ws in
    let ends = column_bytes (λ w. w.end) ws in
    omega (
      arith,
      bytes_length 4 n,
      bytes_length 4 (table_size n),
      column_length (λ w. w.start) ws,
      column_length (λ w. w.end) ws,
      length-append (to_bytes 4 n) (to_bytes 4 (table_size n) ++ (starts ++ (ends ++ []))),
      length-append (to_bytes 4 (table_size n)) (starts ++ (ends ++ [])),
      length-append starts (ends ++ []),
      length-append ends [],
    )

all_append : (s t : List ℕ) → AreBytes s → AreBytes t → AreBytes (s ++ t)
all_append [] t h k = k
all_append (x ∷ s) t h k = (h.0, all_append s t h.1 k)

to_bytes_lem : (k n : ℕ) → AreBytes (to_bytes k n)
unfolding to_bytes
to_bytes_lem zero n = tt
to_bytes_lem (suc k) n = (omega arith, to_bytes_lem k (n / 256))

column_bytes_lem : (c : Column) (ws : List Window) → AreBytes (column_bytes c ws)
unfolding column_bytes
column_bytes_lem c [] = tt
column_bytes_lem c (w ∷ ws) = all_append (to_bytes 8 (to_bits binary64 (c w))) (column_bytes c ws) (to_bytes_lem 8 (to_bits binary64 (c w))) (column_bytes_lem c ws)

table_bytes : (ws : List Window) → AreBytes (table_of ws)
unfolding table_of
table_bytes ws =
    let starts = column_bytes (λ w. w.start) ws in
    let ends = column_bytes (λ w. w.end) ws in
    let columns-are : AreBytes (starts ++ (ends ++ [])) = all_append starts (ends ++ []) (column_bytes_lem (λ w. w.start) ws) (all_append ends [] (column_bytes_lem (λ w. w.end) ws) tt) in
    all_append (to_bytes 4 (length ws)) (to_bytes 4 (table_size (length ws)) ++ (starts ++ (ends ++ []))) (to_bytes_lem 4 (length ws))
    (all_append (to_bytes 4 (table_size (length ws))) (starts ++ (ends ++ [])) (to_bytes_lem 4 (table_size (length ws))) columns-are)

-- ---- a sheet's table
pub record Stored (F : NumberFormat) (o : Options) (s t : List ℕ) : Type 0 where
  pub count : ℕ
  pub windows : List Window
  pub are_rows : sheet_rows F o s count ≡ done windows
  pub is_table : table_of windows ≡ t
  pub few : length windows ≤ most_windows
  pub are_bytes : AreBytes t
  pub short : length t ≤ (table_size most_windows)

pub stored : (F : NumberFormat) (o : Options) (s : List ℕ) (room : ℕ) (t : List ℕ) → sheet_table F o s room ≡ done t → Stored F o s t
unfolding sheet_table counted_table
stored F o s room t e = by_format (reading_format F o) e
  where
    by_rows : (n : ℕ) → sheet_count s ≡ done n → (a : Answer (List Window)) → sheet_rows F o s n ≡ a → and_then a (λ ws. done (table_of ws)) ≡ done t → Stored F o s t
    by_rows n c (refused k p) f e = absurd (refused_done k p t e)
    by_rows n c (done ws) f e =
        let same = done_same (table_of ws) t e in
        let many : length ws ≡ n = subst (Counted n) f (lines_counted F o n (length (before 10 s) + 1) (drop (length (before 10 s) + 1) s)) in
        let few = count_few s n c in
        record {
          count = n;
          windows = ws;
          are_rows = f;
          is_table = same;
          few = omega arith;
          are_bytes = subst AreBytes same (table_bytes ws);
          short = omega (arith, ap length same, table_length ws);
        }

    by_room : (n : ℕ) → sheet_count s ≡ done n → (b : Bool) → cond b (refused 8 0) (and_then (sheet_rows F o s n) (λ ws. done (table_of ws))) ≡ done t → Stored F o s t
    by_room n c true e = absurd (refused_done 8 0 t e)
    by_room n c false e = by_rows n c (sheet_rows F o s n) refl e

    by_count : (a : Answer ℕ) → sheet_count s ≡ a → and_then a (λ n. checked ((8, ltb room (table_size n)) ∷ []) (and_then (sheet_rows F o s n) (λ ws. done (table_of ws)))) ≡ done t → Stored F o s t
    by_count (refused k p) c e = absurd (refused_done k p t e)
    by_count (done n) c e = by_room n c (ltb room (table_size n)) e

    by_format : (a : Answer Pair) → and_then a (λ row. and_then (sheet_count s) (λ n. checked ((8, ltb room (table_size n)) ∷ []) (and_then (sheet_rows F o s n) (λ ws. done (table_of ws))))) ≡ done t → Stored F o s t
    by_format (refused k p) e = absurd (refused_done k p t e)
    by_format (done row) e = by_count (sheet_count s) refl e
