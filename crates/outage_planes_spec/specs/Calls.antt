-- What packing and unpacking are asked for: document 02, 2.5. Their answers and the lent bytes are `written` and `held` of it. Definitions only.
use Rattle.std.specs.Prelude.{ℕ, List}
use Rattle.lexical_util.specs.Answer.{Answer, done, and_then}
use Rattle.outage_spec.specs.Table.{header_count, table_count}
use Rattle.outage_planes_spec.specs.Planes.{planes_of, floats_of, by_column}

-- packing: 13, as in table to sheet. Row contents are not judged
unfoldable pub packed_table : List ℕ → Answer (List ℕ)
packed_table t = and_then (table_count t) (λ n. done (by_column planes_of n t))

-- unpacking: 17, packed length not the header's or header wrong as in 13
abbrev pub packed_count : List ℕ → Answer ℕ
packed_count p = header_count 17 p

unfoldable pub unpacked_table : List ℕ → Answer (List ℕ)
unpacked_table p = and_then (packed_count p) (λ n. done (by_column floats_of n p))
