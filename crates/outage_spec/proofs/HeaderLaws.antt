-- What a header's check tells, by whatever number it refuses: the count and the size of what passes, and back. Assumes nothing.
use Prim.Native.Nat.{ℕ}
use mathlib.Core.Path.{◌≡◌, refl}
use mathlib.Core.Bool.{not}
use mathlib.Core.List.{List, [], ◌∷◌}
use native.Mathlib.Omega.{arith}
use borrow.Author.Tests.{not-false, eqb-true, eq-eqb, ltb-false, le-ltb}
use lib.Dec.{ltb, eqb}
use lib.ListN.{length}
use Rattle.lexical_util.specs.Answer.{done}
use Rattle.lexical_util.proofs.AnswerLaws.{passed}
use Rattle.outage_spec.specs.Words.{word_at}
use Rattle.outage_spec.specs.Table.{table_size, header_count, table_count, most_windows}
use Rattle.outage_spec.proofs.TableLaws.{Header}

-- a table's header is checked by 13
pub table_header : (t : List ℕ) → table_count t ≡ header_count 13 t
unfolding table_count header_count
table_header t = refl

pub header_is : (k : ℕ) (t : List ℕ) (n : ℕ) → header_count k t ≡ done n → Header t n
unfolding header_count
header_is k t n e =
    let n' = word_at 4 t 0 in
    let p = passed ((k, ltb (length t) 8) ∷ (k, ltb most_windows n') ∷ (k, not (eqb (word_at 4 t 4) (table_size n'))) ∷ (k, not (eqb (length t) (table_size n'))) ∷ []) n' n e in
    let is = p.1 in
    let field = eqb-true (word_at 4 t 4) (table_size n') (not-false (eqb (word_at 4 t 4) (table_size n')) p.0.1.1.0) in
    let bytes = eqb-true (length t) (table_size n') (not-false (eqb (length t) (table_size n')) p.0.1.1.1.0) in
    let few = ltb-false most_windows n' p.0.1.0 in
    record { is_count = is; is_length = omega arith; size = omega arith; few = omega arith }

pub header_count_lem : (k : ℕ) (t : List ℕ) (n : ℕ) → Header t n → header_count k t ≡ done n
unfolding header_count
header_count_lem k t n h = rw (h.is_count, h.is_length, h.size, le-ltb (table_size n) 8 (omega arith), le-ltb most_windows n h.few, eq-eqb (table_size n) (table_size n) refl)
