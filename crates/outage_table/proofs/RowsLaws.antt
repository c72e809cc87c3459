-- The rows of a table, one at a time: each that passed has its texts, and the passes over them. Assumes nothing.
use Rattle.std.specs.Prelude.{Result, Ok, Err}
use Prim.Native.Nat.{ℕ, suc, ◌+◌, ◌-◌, ◌≤◌, ◌<◌}
use mathlib.Core.Path.{◌≡◌, refl, ap, ◌∙◌, subst}
use mathlib.Core.List.{List, [], ◌∷◌, ◌++◌}
use native.Mathlib.Nat.{add_assoc, add-zero}
use native.Mathlib.Numerals.{add-one}
use native.Mathlib.Omega.{arith}
use lib.ListN.{length, length-append}
use Rattle.lexical_util.specs.Answer.{Answer, done, refused, and_then}
use Rattle.lexical_util.proofs.AnswerLaws.{refused_done}
use Rattle.lexical_format.specs.declared.format.NumberFormat.{NumberFormat}
use Rattle.lexical_format.specs.declared.options.Options.{Options}
use Rattle.lexical_buffer.specs.Put.{Puts}
use Rattle.lexical_buffer.proofs.PutLaws.{puts_none, puts_more}
use Rattle.outage_spec.specs.declared.window.Window.{Window}
use Rattle.outage_spec.specs.Table.{row_at, rows_from}
use Rattle.outage_spec.proofs.FormatLaws.{taken}
use Rattle.outage_spec.proofs.TableLaws.{row_passes}
use Rattle.lexical_util.specs.declared.answer.Refusal.{Refusal}
use Rattle.outage_table.specs.Rows.{AreRows}
use Rattle.outage_table.specs.Text.{contents, row_of, rows_of, HasTexts, Admitted}
use Rattle.outage_table.proofs.TextLaws.{has_text}

-- ---- a row that passed
pub row_texts : (F : NumberFormat) (o : Options) → Admitted F o → (t : List ℕ) (n i : ℕ) (v : Window) → row_at t n i ≡ done v → HasTexts F o v
row_texts F o A t n i v e =
    let p = row_passes t n i v e in
    let w = (taken F o A.0 A.1).writes in
    subst (HasTexts F o) p.same (has_text F o A.0 w _ p.start_finite, has_text F o A.0 w _ p.end_finite)

-- ---- one row more
module _ (t : List ℕ) (n i : ℕ) where
  pub rows_more : (v : Window) → i < n → row_at t n i ≡ done v → rows_from t n i (n - i) ≡ and_then (rows_from t n (i + 1) (n - (i + 1))) (λ ws. done (v ∷ ws))
  unfolding rows_from
  rows_more v h e =
      let z : n - i ≡ suc (n - (i + 1)) = omega arith in
      rw (z, add-one i) (ap (λ (a : Answer Window). and_then a (λ w. and_then (rows_from t n (suc i) (n - suc i)) (λ ws. done (w ∷ ws)))) e)

  pub rows_stop : (r p : ℕ) → i < n → row_at t n i ≡ refused r p → rows_from t n i (n - i) ≡ refused r p
  unfolding rows_from
  rows_stop r p h e =
      let z : n - i ≡ suc (n - (i + 1)) = omega arith in
      rw z (ap (λ (a : Answer Window). and_then a (λ w. and_then (rows_from t n (suc i) (n - (i + 1))) (λ ws. done (w ∷ ws)))) e)

  pub rows_end : n ≤ i → rows_from t n i (n - i) ≡ done []
  unfolding rows_from
  rows_end h =
      let z : n - i ≡ 0 = omega arith in
      rw z

-- ---- what is said of the rows behind a row that passed is said of it and them
pub checked_more : {A : Type 0} (c : Result A Refusal) (v : Window) (r : Answer (List Window)) → AreRows c r → AreRows c (and_then r (λ ws. done (v ∷ ws)))
checked_more (Ok a) v r e = rw e
checked_more (Err k) v r e = rw e

module _ (F : NumberFormat) (o : Options) where
  -- ---- measured: the length of the rows, behind others that are so long
  abbrev pub length_after : ℕ → Answer (List Window) → Answer ℕ
  length_after sum r = and_then r (λ ws. done (sum + length (rows_of F o ws)))

  pub length_more : (sum : ℕ) (v : Window) (r : Answer (List Window)) → length_after sum (and_then r (λ ws. done (v ∷ ws))) ≡ length_after (sum + length (row_of F o v)) r
  unfolding rows_of
  length_more sum v (done ws) = rw (length-append (row_of F o v) (rows_of F o ws), ← add_assoc sum (length (row_of F o v)) (length (rows_of F o ws)))
  length_more sum v (refused r p) = refl

  pub length_none : (sum : ℕ) → length_after sum (done []) ≡ done sum
  unfolding rows_of
  length_none sum = rw add-zero

  pub length_all : (r : Answer (List Window)) → length_after 0 r ≡ and_then r (λ ws. done (length (rows_of F o ws)))
  length_all (done ws) = ap done (omega arith)
  length_all (refused k p) = refl

-- ---- put: the rows of `rest` have yet to be put at a place; then all of `ws` are put where the pass began
pub record Going (F : NumberFormat) (o : Options) (ws : List Window) (held : List ℕ) (from : ℕ) (rest : Answer (List Window)) (out : List ℕ) (at : ℕ) : Type 0 where
  pub whole : rest ≡ done (contents rest)
  pub size : length out ≡ length held
  pub room : at + length (rows_of F o (contents rest)) ≤ length out
  pub all : (next : ℕ) (last : List ℕ) → Puts out at (rows_of F o (contents rest)) next last → Puts held from (rows_of F o ws) next last

module _ (F : NumberFormat) (o : Options) {held : List ℕ} {start : ℕ} where
  pub going_start : {r : Answer (List Window)} → r ≡ done (contents r) → start + length (rows_of F o (contents r)) ≤ length held → Going F o (contents r) held start r held start
  going_start e h = record { whole = e; size = refl; room = h; all = λ next last p. p }

  module _ {ws : List Window} {out : List ℕ} {at : ℕ} where
    pub going_dead : {r p : ℕ} → Going F o ws held start (refused r p) out at → ⊥
    going_dead {r = r} {p = p} g = refused_done r p [] g.whole

    pub going_end : Going F o ws held start (done []) out at → Puts held start (rows_of F o ws) at out
    unfolding rows_of
    going_end g = g.all at out (puts_none out at)

    module _ (v : Window) (r : Answer (List Window)) (g : Going F o ws held start (and_then r (λ vs. done (v ∷ vs))) out at) where
      -- where all rows passed, those after the first did
      more : (r ≡ done (contents r)) × (rows_of F o (contents (and_then r (λ vs. done (v ∷ vs)))) ≡ row_of F o v ++ rows_of F o (contents r))
      unfolding rows_of
      more = go r g.whole
        where
          go : (r : Answer (List Window)) → and_then r (λ vs. done (v ∷ vs)) ≡ done (contents (and_then r (λ vs. done (v ∷ vs))))
              → (r ≡ done (contents r)) × (rows_of F o (contents (and_then r (λ vs. done (v ∷ vs)))) ≡ row_of F o v ++ rows_of F o (contents r))
          go (done vs) e = (refl, refl)
          go (refused k p) e = absurd (refused_done k p [] e)

      more_length : length (rows_of F o (contents (and_then r (λ vs. done (v ∷ vs))))) ≡ length (row_of F o v) + length (rows_of F o (contents r))
      more_length = ap length more.1 ∙ length-append (row_of F o v) (rows_of F o (contents r))

      pub going_room : at + length (row_of F o v) ≤ length out
      going_room = omega (arith, g.room, more_length)

      pub going_more : (out' : List ℕ) (at' : ℕ) → length out' ≡ length out → Puts out at (row_of F o v) at' out' → Going F o ws held start r out' at'
      going_more out' at' e q =
          record {
            whole = more.0;
            size = e ∙ g.size;
            room = omega (arith, g.room, more_length, q.next_is);
            all = λ next last p. g.all next last (rw more.1 (puts_more _ _ _ (omega (arith, going_room)) q p));
          }
