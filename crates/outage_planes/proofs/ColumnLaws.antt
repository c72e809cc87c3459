-- What a call leaves that puts a table's header, and then something made of each column in its place. Assumes nothing.
use Prim.Native.Nat.{ℕ, ◌+◌, ◌*◌, ◌≤◌, ◌<◌}
use mathlib.Core.Path.{◌≡◌, refl, sym, ap, ◌∙◌}
use mathlib.Core.List.{List, append_assoc}
use native.Mathlib.Nat.{zero-add}
use native.Mathlib.Omega.{arith}
use lib.ListN.{length, take, length-append}
use lib.Seq.{length-take-le}
use Rattle.lexical_util.specs.Answer.{done, refused, written, held}
use Rattle.lexical_util.proofs.AnswerLaws.{text_short}
use Rattle.lexical_buffer.specs.Put.{Puts}
use Rattle.lexical_buffer.proofs.PutLaws.{puts_more, answered, kept}
use Rattle.outage_spec.specs.Table.{table_size}
use Rattle.outage_planes_spec.specs.Planes.{by_column}

module _ (make : ℕ → ℕ → List ℕ → List ℕ) (sized : (n at : ℕ) (t : List ℕ) → length (make n at t) ≡ 8 * n) (t d : List ℕ) (n : ℕ) (size : length t ≡ table_size n) where
  made_length : length (by_column make n t) ≡ length t
  unfolding by_column
  made_length = simp length-append (omega (arith, length-take-le 8 t (omega arith), sized n 8 t, sized n (8 + 8 * n) t))

  -- no room
  pub columns_short : length d < length t → (refused 8 0 ≡ written (done (by_column make n t)) d) × (d ≡ held (done (by_column make n t)) d)
  columns_short h =
      let s = text_short (by_column make n t) d (length t) made_length h in
      (sym s.0, sym s.1)

  -- the header, which ends where the starts begin
  pub header_ends : (r : ℕ) (o : List ℕ) → Puts d 0 (take 8 t) r o → r ≡ 8
  header_ends r o p = p.next_is ∙ rw (length-take-le 8 t (omega arith)) refl

  -- the starts, which end where the ends begin
  pub starts_end : (r r' : ℕ) (o o' : List ℕ) → Puts d 0 (take 8 t) r o → Puts o r (make n r t) r' o' → r' ≡ 8 + 8 * n
  starts_end r r' o o' p q = omega (arith, header_ends r o p, q.next_is, sized n r t)

  pub columns_put : length t ≤ length d → (r r' r'' : ℕ) (o o' o'' : List ℕ) → Puts d 0 (take 8 t) r o → Puts o r (make n r t) r' o' → Puts o' r' (make n r' t) r'' o''
      → (done r'' ≡ written (done (by_column make n t)) d) × (o'' ≡ held (done (by_column make n t)) d)
  unfolding by_column
  columns_put h r r' r'' o o' o'' p q s =
      let all = puts_more (make n r' t) o'' r'' (omega arith) (puts_more (make n r t) o' r' (omega arith) p q) s in
      let is = rw (header_ends r o p, starts_end r r' o o' p q, append_assoc (take 8 t) (make n 8 t) (make n (8 + 8 * n) t)) at all in
      let text = by_column make n t in
      let room : length text ≤ length d = rw made_length h in
      (ap done (is.next_is ∙ zero-add (length text)) ∙ answered text d room, kept text d o'' room is.out_is)
