-- The rows of a sheet: a row more, a row refused, extra bytes, and none left. Assumes nothing.
use Prim.Native.Nat.{ℕ, suc, ◌+◌, ◌-◌, ◌≤◌, ◌<◌}
use mathlib.Core.Path.{◌≡◌, refl, sym, ap, ◌∙◌}
use mathlib.Core.List.{List, []}
use native.Mathlib.Omega.{arith}
use lib.ListN.{length, drop, drop_of_length-le}
use lib.Seq.{drop-cons, drop-drop}
use Rattle.lexical_util.specs.Answer.{done, refused}
use Rattle.lexical_format.specs.declared.format.NumberFormat.{NumberFormat}
use Rattle.lexical_format.specs.declared.options.Options.{Options}
use Rattle.outage_spec.specs.declared.window.Window.{Window}
use Rattle.outage_spec.specs.Table.{table_size}
use Rattle.outage_spec.specs.Sheet.{before, row_in, lines_from}
use Rattle.outage_sheet.specs.Fill.{put_window, FilledTable}
use Rattle.outage_sheet.proofs.FillLaws.{size_of, with_row, size_more, fill_more, fill_end}

module _ (F : NumberFormat) (o : Options) where
  -- ---- row i of n, which stands at p in the sheet and whose LF stands m bytes on
  module _ (s : List ℕ) (n i p : ℕ) where
    lines_more : (w : Window) (m : ℕ) → i < n → m ≡ length (before 10 (drop p s)) → row_in F o (drop p s) ≡ done w
        → lines_from F o (n - i) p (drop p s) ≡ with_row w (lines_from F o (n - (i + 1)) (p + (m + 1)) (drop (p + (m + 1)) s))
    unfolding lines_from
    lines_more w m h f e =
        let z : n - i ≡ suc (n - (i + 1)) = omega arith in
        rw (z, e, ← f, drop-drop (m + 1) p s)

    lines_stop : (k q : ℕ) → i < n → row_in F o (drop p s) ≡ refused k q → lines_from F o (n - i) p (drop p s) ≡ refused k (p + q)
    unfolding lines_from
    lines_stop k q h e =
        let z : n - i ≡ suc (n - (i + 1)) = omega arith in
        rw (z, e)

    lines_extra : n ≤ i → p < length s → lines_from F o (n - i) p (drop p s) ≡ refused 15 p
    unfolding lines_from
    lines_extra h k =
        let z : n - i ≡ 0 = omega arith in
        rw (z, drop-cons s p 0 k)

    lines_end : n ≤ i → length s ≤ p → lines_from F o (n - i) p (drop p s) ≡ done []
    unfolding lines_from
    lines_end h k =
        let z : n - i ≡ 0 = omega arith in
        rw (z, drop_of_length-le s {i = p} k)

-- ---- the loop that reads: what is left of the n rows from row i on, at p in the sheet, with the table so far, against all of them, which stand from start on
pub record Left (F : NumberFormat) (o : Options) (s : List ℕ) (start n : ℕ) (t₀ : List ℕ) (i p : ℕ) (t : List ℕ) : Type 0 where
  pub size : size_of n (lines_from F o (n - i) p (drop p s)) ≡ size_of n (lines_from F o n start (drop start s))
  pub bytes : (out : List ℕ) → FilledTable n i t (lines_from F o (n - i) p (drop p s)) out → FilledTable n 0 t₀ (lines_from F o n start (drop start s)) out
  pub same : length t ≡ length t₀

module _ (F : NumberFormat) (o : Options) (s : List ℕ) (start n : ℕ) (t₀ : List ℕ) where
  pub left_all : Left F o s start n t₀ 0 start t₀
  left_all = let z : n - 0 ≡ n = omega arith in record { size = rw z; bytes = rw z (λ out f. f); same = refl }

  module _ (i p : ℕ) (t : List ℕ) (left : Left F o s start n t₀ i p t) where
    pub left_more : (w : Window) (m : ℕ) → i < n → m ≡ length (before 10 (drop p s)) → row_in F o (drop p s) ≡ done w
        → (t' : List ℕ) → t' ≡ put_window t n i w → length t' ≡ length t → Left F o s start n t₀ (i + 1) (p + (m + 1)) t'
    left_more w m h f e t' g l =
        let rest = lines_from F o (n - (i + 1)) (p + (m + 1)) (drop (p + (m + 1)) s) in
        let z = lines_more F o s n i p w m h f e in
        record {
          size = sym (size_more n w rest) ∙ sym (ap (size_of n) z) ∙ left.size;
          bytes = λ out k. left.bytes out (rw z (fill_more n i w rest t t' g l out k));
          same = l ∙ left.same;
        }

    left_refused : (k q : ℕ) → lines_from F o (n - i) p (drop p s) ≡ refused k q
        → (refused k q ≡ size_of n (lines_from F o n start (drop start s))) × FilledTable n 0 t₀ (lines_from F o n start (drop start s)) t
    left_refused k q e = (sym (ap (size_of n) e) ∙ left.size, left.bytes t (rw e refl))

    pub left_stop : (k q : ℕ) → i < n → row_in F o (drop p s) ≡ refused k q
        → (refused k (p + q) ≡ size_of n (lines_from F o n start (drop start s))) × FilledTable n 0 t₀ (lines_from F o n start (drop start s)) t
    left_stop k q h e = left_refused k (p + q) (lines_stop F o s n i p k q h e)

    pub left_extra : n ≤ i → p < length s → (refused 15 p ≡ size_of n (lines_from F o n start (drop start s))) × FilledTable n 0 t₀ (lines_from F o n start (drop start s)) t
    left_extra h k = left_refused 15 p (lines_extra F o s n i p h k)

    pub left_none : n ≤ i → length s ≤ p → (done (table_size n) ≡ size_of n (lines_from F o n start (drop start s))) × FilledTable n 0 t₀ (lines_from F o n start (drop start s)) t
    left_none h k =
        let e = lines_end F o s n i p h k in
        (sym (ap (size_of n) e) ∙ left.size, left.bytes t (rw e (fill_end n i t)))
