-- A table filled row by row: a row more, and that it makes the table. Assumes nothing.
use Prim.Native.Nat.{ℕ, ◌+◌, ◌*◌, ◌≤◌}
use mathlib.Core.Path.{◌≡◌, refl, sym, ap, ◌∙◌}
use mathlib.Core.List.{List, [], ◌∷◌, ◌++◌, append_assoc, append-nil}
use native.Mathlib.Nat.{zero-add}
use native.Mathlib.Omega.{arith}
use lib.ListN.{length, take, drop, length-append}
use lib.Seq.{take_at}
use lib.Ieee.{binary64, to_bits}
use Rattle.lexical_util.specs.Answer.{Answer, done, refused, and_then, written, held}
use Rattle.lexical_util.proofs.AnswerLaws.{refused_done, done_same, text_fits}
use Rattle.lexical_buffer.specs.Put.{place_behind, next_place, held_from, put}
use Rattle.lexical_buffer.proofs.PutLaws.{put_nil, put_front}
use Rattle.outage_spec.specs.declared.window.Window.{Window}
use Rattle.outage_spec.specs.Words.{to_bytes}
use Rattle.outage_spec.specs.Table.{table_size, column_bytes, table_of}
use Rattle.outage_spec.proofs.StoredLaws.{Counted, column_length, table_length}
use Rattle.outage_spec.proofs.WordLaws.{bytes_length}
use Rattle.outage_sheet.specs.Fill.{put_header, put_window, fill, FilledTable}
use Rattle.outage_sheet.proofs.StoreLaws.{put_more, put_behind, put_length, put_swap}

-- ---- the columns
abbrev starts : List Window → List ℕ
starts ws = column_bytes (λ (w : Window). w.start) ws

abbrev ends : List Window → List ℕ
ends ws = column_bytes (λ (w : Window). w.end) ws

-- ---- filling them
-- a window more, in both columns
both : (o s e S E : List ℕ) (a b : ℕ) → a + length s + length S ≤ b → b + length e + length E ≤ length o
    → put (put (put (put o a s) b e) (a + length s) S) (b + length e) E ≡ put (put o a (s ++ S)) b (e ++ E)
both o s e S E a b h k =
    let d = put o a s in
    let dl : length d ≡ length o = put_length o a s (omega arith) in
    let m = put o a (s ++ S) in
    let ml : length m ≡ length o = put_length o a (s ++ S) (omega (arith, length-append s S)) in
    ap (λ (l : List ℕ). put l (b + length e) E) (put_swap d (a + length s) S b e (omega arith) (omega arith))
    ∙ ap (λ (l : List ℕ). put (put l b e) (b + length e) E) (put_more o a s S (omega arith))
    ∙ put_more m b e E (omega arith)

fill_is : (ws : List Window) (o : List ℕ) (n i : ℕ) → i + length ws ≤ n → table_size n ≤ length o
    → fill n i ws o ≡ put (put o (8 + 8 * i) (starts ws)) (8 + 8 * n + 8 * i) (ends ws)
unfolding fill column_bytes
fill_is [] o n i h k = sym (ap (λ (l : List ℕ). put l (8 + 8 * n + 8 * i) []) (put_nil o (8 + 8 * i)) ∙ put_nil o (8 + 8 * n + 8 * i))
fill_is (w ∷ ws) o n i h k =
    let s = to_bytes 8 (to_bits binary64 w.start) in
    let e = to_bytes 8 (to_bits binary64 w.end) in
    let sl : length s ≡ 8 = bytes_length 8 (to_bits binary64 w.start) in
    let el : length e ≡ 8 = bytes_length 8 (to_bits binary64 w.end) in
    let a = 8 + 8 * i in
    let b = 8 + 8 * n + 8 * i in
    let o1 = put o a s in
    let l1 : length o1 ≡ length o = put_length o a s (omega arith) in
    let l2 : length (put o1 b e) ≡ length o1 = put_length o1 b e (omega arith) in
    let x : 8 + 8 * (i + 1) ≡ a + length s = omega arith in
    let y : 8 + 8 * n + 8 * (i + 1) ≡ b + length e = omega arith in
    fill_is ws (put_window o n i w) n (i + 1) (omega arith) (omega arith)
    ∙ rw (x, y) (both o s e (starts ws) (ends ws) a b (omega (arith, column_length (λ (w : Window). w.start) ws)) (omega (arith, column_length (λ (w : Window). w.end) ws)))

-- header and columns are the table
table_made : (ws : List Window) (d : List ℕ) (n : ℕ) → length ws ≡ n → table_size n ≤ length d → fill n 0 ws (put_header d n) ≡ put d 0 (table_of ws)
unfolding table_of
table_made ws d n e h =
    let u = to_bytes 4 n in
    let v = to_bytes 4 (table_size n) in
    let ul : length u ≡ 4 = bytes_length 4 n in
    let vl : length v ≡ 4 = bytes_length 4 (table_size n) in
    let S = starts ws in
    let sl : length S ≡ 8 * n = column_length (λ (w : Window). w.start) ws ∙ ap (λ (k : ℕ). 8 * k) e in
    let l1 : length (put d 0 u) ≡ length d = put_length d 0 u (omega arith) in
    let l2 : length (put (put d 0 u) 4 v) ≡ length d = put_length (put d 0 u) 4 v (omega arith) ∙ l1 in
    let uv : length (u ++ v) ≡ 8 = length-append u v ∙ (let z : length u + length v ≡ 8 = omega arith in z) in
    let uvs : length (u ++ v ++ S) ≡ 8 + 8 * n + 8 * 0 = length-append (u ++ v) S ∙ (let z : length (u ++ v) + length S ≡ 8 + 8 * n + 8 * 0 = omega arith in z) in
    fill_is ws (put_header d n) n 0 (omega arith) (omega arith)
    ∙ ap (λ (l : List ℕ). put (put l 8 S) (8 + 8 * n + 8 * 0) (ends ws)) (put_behind d u v 4 ul)
    ∙ ap (λ (l : List ℕ). put l (8 + 8 * n + 8 * 0) (ends ws)) (put_behind d (u ++ v) S 8 uv)
    ∙ put_behind d (u ++ v ++ S) (ends ws) (8 + 8 * n + 8 * 0) uvs
    ∙ ap (put d 0) (simp (e, append_assoc, append-nil))

-- ---- where the rows of n have been read, or one was refused
abbrev pub size_of : ℕ → Answer (List Window) → Answer ℕ
size_of n rows = and_then rows (λ ws. done (table_size n))

abbrev pub table_from : Answer (List Window) → Answer (List ℕ)
table_from rows = and_then rows (λ ws. done (table_of ws))

-- a row more in front
abbrev pub with_row : Window → Answer (List Window) → Answer (List Window)
with_row w rows = and_then rows (λ ws. done (w ∷ ws))

pub size_more : (n : ℕ) (w : Window) (rows : Answer (List Window)) → size_of n (with_row w rows) ≡ size_of n rows
size_more n w (done ws) = refl
size_more n w (refused k p) = refl

pub fill_more : (n i : ℕ) (w : Window) (rows : Answer (List Window)) (t t' : List ℕ) → t' ≡ put_window t n i w → length t' ≡ length t
    → (o : List ℕ) → FilledTable n (i + 1) t' rows o → FilledTable n i t (with_row w rows) o
unfolding fill
fill_more n i w (done ws) t t' e l o f = f ∙ ap (fill n (i + 1) ws) e
fill_more n i w (refused k p) t t' e l o f = f ∙ l

pub fill_end : (n i : ℕ) (t : List ℕ) → FilledTable n i t (done []) t
unfolding fill
fill_end n i t = refl

-- ---- the table, copied once all rows have been read
module _ (n : ℕ) (d table : List ℕ) (room : table_size n ≤ length d) (enough : table_size n ≤ length table) where
  pub table_read : (rows : Answer (List Window)) → Counted n rows → (size : ℕ) → done size ≡ size_of n rows → (h t : List ℕ) → h ≡ put_header d n → FilledTable n 0 h rows t
      → (count : ℕ) (out : List ℕ) → (count ≡ next_place 0 (done (take size t)) table) × (out ≡ held_from 0 (done (take size t)) table)
      → (done count ≡ written (table_from rows) table) × (out ≡ held (table_from rows) table)
  table_read (refused k p) counted size e h t g f count out o = absurd (refused_done k p size (sym e))
  table_read (done ws) counted size e h t g f count out o =
      let T = table_of ws in
      let long : length T ≡ table_size n = table_length ws ∙ ap table_size counted in
      let same : size ≡ table_size n = done_same size (table_size n) e in
      let all : t ≡ T ++ drop (length T) d = f ∙ ap (fill n 0 ws) g ∙ table_made ws d n counted room ∙ put_front d T in
      let part : take size t ≡ T = ap (take size) all ∙ take_at T (drop (length T) d) size (long ∙ sym same) in
      let fits : written (done T) table ≡ done (table_size n) = (text_fits T table (table_size n) long enough).0 in
      let whole : count ≡ table_size n = o.0 ∙ ap (λ (l : List ℕ). next_place 0 (done l) table) part ∙ ap (place_behind 0) fits ∙ zero-add (table_size n) in
      (ap (λ (k : ℕ). done k) whole ∙ sym fits, o.1 ∙ ap (λ (l : List ℕ). held_from 0 (done l) table) part)

pub table_refused : (rows : Answer (List Window)) (n k p : ℕ) (table : List ℕ) → refused k p ≡ size_of n rows
    → (refused k p ≡ written (table_from rows) table) × (table ≡ held (table_from rows) table)
table_refused (done ws) n k p table e = absurd (refused_done k p (table_size n) e)
table_refused (refused j q) n k p table e = (e, refl)

-- all rows read
pub size_done : (rows : Answer (List Window)) (n size : ℕ) → done size ≡ size_of n rows → size ≡ table_size n
size_done (done ws) n size e = done_same size (table_size n) e
size_done (refused k p) n size e = absurd (refused_done k p size (sym e))
