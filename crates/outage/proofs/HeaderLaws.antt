-- What a table's header says: its count, and the refusals in their order. Assumes nothing.
use Prim.Native.Nat.{ℕ, ◌≤◌, ◌<◌}
use mathlib.Core.Path.{◌≡◌, sym, ◌∙◌}
use mathlib.Core.List.{List}
use borrow.Author.Tests.{lt-ltb, le-ltb, eq-eqb, ne_eqb}
use lib.ListN.{length}
use Rattle.lexical_util.specs.Answer.{done, refused}
use Rattle.outage_spec.specs.Words.{word_at}
use Rattle.outage_spec.specs.Table.{header_size, table_size, header_count, most_windows}
use Rattle.outage_spec.proofs.HeaderLaws.{header_count_lem}

-- k is the refusal's number, n the count and m the length field
module _ (k : ℕ) (t : List ℕ) where
  pub count_short : length t < header_size → refused k 0 ≡ header_count k t
  unfolding header_count
  count_short h = rw (lt-ltb (length t) header_size h)

  module _ (n : ℕ) (e : n ≡ word_at 4 t 0) (h : header_size ≤ length t) where
    pub count_many : most_windows < n → refused k 0 ≡ header_count k t
    unfolding header_count
    count_many many = rw (le-ltb (length t) header_size h, ← e, lt-ltb most_windows n many)

    module _ (m : ℕ) (f : m ≡ word_at 4 t 4) (few : n ≤ most_windows) where
      pub count_field : (m ≡ table_size n → ⊥) → refused k 0 ≡ header_count k t
      unfolding header_count
      count_field d = rw (le-ltb (length t) header_size h, ← e, le-ltb most_windows n few, ← f, ne_eqb m (table_size n) d)

      pub count_lent : m ≡ table_size n → (length t ≡ table_size n → ⊥) → refused k 0 ≡ header_count k t
      unfolding header_count
      count_lent d g = rw (le-ltb (length t) header_size h, ← e, le-ltb most_windows n few, ← f, eq-eqb m (table_size n) d, ne_eqb (length t) (table_size n) g)

      pub count_is : m ≡ table_size n → length t ≡ table_size n → done n ≡ header_count k t
      count_is d g = sym (header_count_lem k t n (record { is_count = sym e; is_length = sym f ∙ d; size = g; few = few }))
