-- Packing and unpacking are inverse: document 02, 2.5, "on every table that 13 admits". Statements only; `InverseLaws` proves them.
use Rattle.std.specs.Prelude.{ℕ, ◌≤◌, ◌≡◌, List, ◌++◌, length, take, drop}
use Rattle.lexical_util.specs.Answer.{Answer, done, and_then, written, held}
use Rattle.outage_spec.specs.Table.{table_count}
use Rattle.outage_planes_spec.specs.Calls.{packed_table, packed_count, unpacked_table}

-- ---- of what is asked for
-- unpacking what packing gave is the table, for every table that 13 admits
abbrev pub PackedIsUnpacked : Type 0
PackedIsUnpacked = (t : List ℕ) (n : ℕ) → table_count t ≡ done n → and_then (packed_table t) unpacked_table ≡ done t

-- packing what unpacking gave is the packed table, for every one that 17 admits
abbrev pub UnpackedIsPacked : Type 0
UnpackedIsPacked = (p : List ℕ) (n : ℕ) → packed_count p ≡ done n → and_then (unpacked_table p) packed_table ≡ done p

-- ---- of the calls
-- a call that was lent the bytes s for reading answered their length; of what it left, up to that length, the other call makes s's very bytes again, in any buffer that has room for them
pub record Undone (other : List ℕ → Answer (List ℕ)) (s : List ℕ) (answer : Answer ℕ) (left : List ℕ) : Type 0 where
  pub served : answer ≡ done (length s)
  pub answered : (out : List ℕ) → length s ≤ length out → written (other (take (length s) left)) out ≡ done (length s)
  pub returned : (out : List ℕ) → length s ≤ length out → held (other (take (length s) left)) out ≡ s ++ drop (length s) out

-- of packing: every table that 13 admits, lent bytes that have room
abbrev pub UnpacksBack : List ℕ → List ℕ → Answer ℕ → List ℕ → Type 0
UnpacksBack t lent answer left = (n : ℕ) → table_count t ≡ done n → length t ≤ length lent → Undone unpacked_table t answer left

-- of unpacking: every packed table that 17 admits
abbrev pub PacksBack : List ℕ → List ℕ → Answer ℕ → List ℕ → Type 0
PacksBack p lent answer left = (n : ℕ) → packed_count p ≡ done n → length p ≤ length lent → Undone packed_table p answer left
