-- What a table that passed holds: its header, its rows, and the table of its windows, which is itself. Assumes nothing.
use Prim.Native.Nat.{ℕ, zero, suc, ◌+◌, ◌*◌, ◌^◌, ◌≤◌, ◌<◌}
use mathlib.Core.Path.{◌≡◌, refl, sym, ap, ◌∙◌, subst}
use mathlib.Core.Bool.{true, false, not}
use mathlib.Core.List.{List, [], ◌∷◌, ◌++◌, append-nil}
use native.Mathlib.Omega.{arith}
use borrow.Author.Tests.{not-false, eqb-true, ltb-false}
use lib.Dec.{T, ltb, eqb}
use lib.ListN.{length, take, drop, length-drop, take-append-drop}
use lib.Seq.{take-add, drop-drop, take_all}
use lib.Ieee.{Float, nan, inf, fin, binary64, to_bits, is_nan, lt}
use lib.Ieee.Bits.{of_bits-fits, to_bits-of_bits}
use lib.Ieee.Scale.{finite}
use Rattle.lexical_util.specs.Answer.{Answer, done, refused, and_then}
use Rattle.lexical_util.specs.Digit.{All}
use Rattle.lexical_util.proofs.AnswerLaws.{refused_done, done_same, passed}
use Rattle.outage_spec.specs.declared.window.Window.{Window}
use Rattle.outage_spec.specs.Words.{of_bytes, to_bytes, word_at}
use Rattle.outage_spec.specs.Window.{Column, columns, float_checks, window_checks, table_row, from}
use Rattle.outage_spec.specs.Table.{table_size, column_bytes, table_of, table_count, float_at, window_at, row_at, rows_from, most_windows}
use Rattle.outage_spec.proofs.WordLaws.{AreBytes, bytes_lt, bytes_of, all_take, all_drop, part_length}
use Rattle.outage_spec.proofs.RowLaws.{Sound}

-- ---- the header
pub record Header (t : List ℕ) (n : ℕ) : Type 0 where
  pub is_count : word_at 4 t 0 ≡ n
  pub is_length : word_at 4 t 4 ≡ table_size n
  pub size : length t ≡ table_size n
  pub few : n ≤ most_windows

pub header : (t : List ℕ) (n : ℕ) → table_count t ≡ done n → Header t n
unfolding table_count
header t n e =
    let n' = word_at 4 t 0 in
    let k = passed ((13, ltb (length t) 8) ∷ (13, ltb most_windows n') ∷ (13, not (eqb (word_at 4 t 4) (table_size n'))) ∷ (13, not (eqb (length t) (table_size n'))) ∷ []) n' n e in
    let is = k.1 in
    let field = eqb-true (word_at 4 t 4) (table_size n') (not-false (eqb (word_at 4 t 4) (table_size n')) k.0.1.1.0) in
    let bytes = eqb-true (length t) (table_size n') (not-false (eqb (length t) (table_size n')) k.0.1.1.1.0) in
    let few = ltb-false most_windows n' k.0.1.0 in
    record { is_count = is; is_length = omega arith; size = omega arith; few = omega arith }

-- ---- one row
pub record Passes (w v : Window) : Type 0 where
  pub same : w ≡ v
  pub start_finite : finite w.start ≡ true
  pub end_finite : finite w.end ≡ true
  pub ordered : lt w.end w.start ≡ false

from_done : {A : Type 0} (p : ℕ) (a : Answer A) (v : A) → from p a ≡ done v → a ≡ done v
from_done p (done a) v e = e
from_done p (refused n q) v e = absurd (refused_done n (p + q) v e)

pub row_passes : (t : List ℕ) (n i : ℕ) (v : Window) → row_at t n i ≡ done v → Passes (window_at t n i) v
row_passes t n i v e =
    let w = window_at t n i in
    let k = passed (float_checks columns w ++ window_checks w) w v (from_done _ (table_row w) v e) in
    record {
      same = k.1;
      start_finite = not-false (finite w.start) k.0.0;
      end_finite = not-false (finite w.end) k.0.1.0;
      ordered = k.0.1.1.0;
    }

finite_no_nan : (x : Float) → finite x ≡ true → T (not (is_nan x))
unfolding is_nan
finite_no_nan nan e = subst T (sym e) tt
finite_no_nan (inf s) e = tt
finite_no_nan (fin s m d) e = tt

-- ---- all rows
pub record Split (t : List ℕ) (n i k : ℕ) (ws : List Window) : Type 0 where
  pub first : Window
  pub others : List Window
  pub is_first : row_at t n i ≡ done first
  pub is_others : rows_from t n (suc i) k ≡ done others
  pub is_all : ws ≡ first ∷ others

pub split : (t : List ℕ) (n i k : ℕ) (ws : List Window) → rows_from t n i (suc k) ≡ done ws → Split t n i k ws
unfolding rows_from
split t n i k ws e = go (row_at t n i) refl (rows_from t n (suc i) k) refl e
  where
    go : (a : Answer Window) → row_at t n i ≡ a → (b : Answer (List Window)) → rows_from t n (suc i) k ≡ b → and_then a (λ w. and_then b (λ ws. done (w ∷ ws))) ≡ done ws → Split t n i k ws
    go (refused m p) f b g e = absurd (refused_done m p ws e)
    go (done w) f (refused m p) g e = absurd (refused_done m p ws e)
    go (done w) f (done vs) g e = record { first = w; others = vs; is_first = f; is_others = g; is_all = sym (done_same (w ∷ vs) ws e) }

pub none_left : (t : List ℕ) (n i : ℕ) (ws : List Window) → rows_from t n i 0 ≡ done ws → ws ≡ []
unfolding rows_from
none_left t n i ws e = sym (done_same [] ws e)

pub rows_count : (t : List ℕ) (n i k : ℕ) (ws : List Window) → rows_from t n i k ≡ done ws → length ws ≡ k
rows_count t n i zero ws e = ap length (none_left t n i ws e)
rows_count t n i (suc k) ws e =
    let s = split t n i k ws e in
    ap length s.is_all ∙ ap suc (rows_count t n (suc i) k s.others s.is_others)

pub rows_sound : (t : List ℕ) (n i k : ℕ) (ws : List Window) → rows_from t n i k ≡ done ws → All Sound ws
rows_sound t n i zero ws e = subst (All Sound) (sym (none_left t n i ws e)) tt
rows_sound t n i (suc k) ws e =
    let s = split t n i k ws e in
    let p = row_passes t n i s.first s.is_first in
    let sound : Sound (window_at t n i) = record {
      start_fits = of_bits-fits binary64 (word_at 8 t (8 + 8 * i));
      end_fits = of_bits-fits binary64 (word_at 8 t (8 + 8 * n + 8 * i));
      ordered = p.ordered;
    } in
    subst (All Sound) (sym s.is_all) (subst Sound p.same sound, rows_sound t n (suc i) k s.others s.is_others)

-- ---- the table of those windows
module _ (t : List ℕ) (bytes : AreBytes t) where
  -- the bytes of the number that bytes make
  word_back : (k at : ℕ) → at + k ≤ length t → to_bytes k (word_at k t at) ≡ take k (drop at t)
  word_back k at h = rw (part_length t at k h) at (bytes_of (take k (drop at t)) (all_take k (drop at t) (all_drop at t bytes)))

  float_back : (at : ℕ) → at + 8 ≤ length t → finite (float_at t at) ≡ true → to_bytes 8 (to_bits binary64 (float_at t at)) ≡ take 8 (drop at t)
  float_back at h p =
      let l = take 8 (drop at t) in
      let small : of_bytes l < 256 ^ 8 = rw (part_length t at 8 h) at (bytes_lt l (all_take 8 (drop at t) (all_drop at t bytes))) in
      ap (to_bytes 8) (to_bits-of_bits binary64 (of_bytes l) small (finite_no_nan (float_at t at) p)) ∙ word_back 8 at h

  -- eight bytes more
  take_more : (at k : ℕ) → take (8 * suc k) (drop at t) ≡ take 8 (drop at t) ++ take (8 * k) (drop (at + 8) t)
  take_more at k =
      let e : 8 * suc k ≡ 8 + 8 * k = omega arith in
      rw (e, take-add 8 (8 * k) (drop at t), drop-drop 8 at t)

  module _ (n : ℕ) (size : length t ≡ table_size n) where
    -- k rows of a column that begins at a place: in each row its float stands there and is finite
    column_back : (c : Column) (base : ℕ) → 8 * n + base ≤ length t
        → ((i : ℕ) (v : Window) → row_at t n i ≡ done v → (c v ≡ float_at t (base + 8 * i)) × (finite (float_at t (base + 8 * i)) ≡ true))
        → (k i : ℕ) (ws : List Window) → i + k ≤ n → rows_from t n i k ≡ done ws → column_bytes c ws ≡ take (8 * k) (drop (base + 8 * i) t)
    unfolding column_bytes
    column_back c base room row zero i ws h e = ap (column_bytes c) (none_left t n i ws e)
    column_back c base room row (suc k) i ws h e =
        let s = split t n i k ws e in
        let r = row i s.first s.is_first in
        let ih = column_back c base room row k (suc i) s.others (omega arith) s.is_others in
        let next : base + 8 * i + 8 ≡ base + 8 * suc i = omega arith in
        rw (s.is_all, r.0, take_more (base + 8 * i) k, next, float_back (base + 8 * i) (omega arith) r.1, ih)

    pub table_back : (ws : List Window) → Header t n → rows_from t n 0 n ≡ done ws → table_of ws ≡ t
    unfolding table_of
    table_back ws h e =
        let starts = column_back (λ w. w.start) 8 (omega arith) (λ i v q. let p = row_passes t n i v q in (ap (λ (w : Window). w.start) (sym p.same), p.start_finite)) n 0 ws (omega arith) e in
        let ends = column_back (λ w. w.end) (8 + 8 * n) (omega arith) (λ i v q. let p = row_passes t n i v q in (ap (λ (w : Window). w.end) (sym p.same), p.end_finite)) n 0 ws (omega arith) e in
        let count : to_bytes 4 n ≡ take 4 (drop 0 t) = ap (to_bytes 4) (sym h.is_count) ∙ word_back 4 0 (omega arith) in
        let field : to_bytes 4 (table_size n) ≡ take 4 (drop 4 t) = ap (to_bytes 4) (sym h.is_length) ∙ word_back 4 4 (omega arith) in
        let place : 8 + 8 * n + 8 * 0 ≡ 8 + 8 * n = omega arith in
        let last : take (8 * n) (drop (8 + 8 * n) t) ≡ drop (8 + 8 * n) t = take_all (8 * n) (drop (8 + 8 * n) t) (simp length-drop (omega arith)) in
        rw (rows_count t n 0 n ws e, count, field, starts, ends, place, last, append-nil (drop (8 + 8 * n) t))
        (ap (λ (l : List ℕ). take 4 t ++ (take 4 (drop 4 t) ++ (take (8 * n) (drop 8 t) ++ l))) (sym (drop-drop (8 * n) 8 t))
        ∙ ap (λ (l : List ℕ). take 4 t ++ (take 4 (drop 4 t) ++ l)) (take-append-drop (8 * n) (drop 8 t))
        ∙ ap (λ (l : List ℕ). take 4 t ++ (take 4 (drop 4 t) ++ l)) (sym (drop-drop 4 4 t))
        ∙ ap (λ (l : List ℕ). take 4 t ++ l) (take-append-drop 4 (drop 4 t)) ∙ take-append-drop 4 t)
