-- The packed table: document 02, 2.5, "the same eight header bytes. Then come eight planes of one byte each for all starts, lowest byte first, and eight for all ends". Definitions only.
use Rattle.std.specs.Prelude.{ℕ, zero, suc, ◌+◌, ◌*◌, List, [], ◌∷◌, ◌++◌, take, get_or}
use Rattle.outage_spec.specs.Table.{header_size, float_size}

-- where k groups of w bytes stand one behind the other: the byte at a place in the first, and the one w bytes on in each further one
unfoldable pub byte_of_each : (w k at : ℕ) → List ℕ → List ℕ
byte_of_each w zero at l = []
byte_of_each w (suc k) at l = get_or l at 0 ∷ byte_of_each w k (at + w) l

-- then the next byte of each, and so on, m bytes of each in all
unfoldable pub bytes_of_each : (w k m at : ℕ) → List ℕ → List ℕ
bytes_of_each w k zero at l = []
bytes_of_each w k (suc m) at l = byte_of_each w k at l ++ bytes_of_each w k m (at + 1) l

-- the planes of a column of n floats at a place: plane j is byte j of each of its floats; eight planes, lowest byte first
abbrev pub planes_of : (n at : ℕ) → List ℕ → List ℕ
planes_of n at t = bytes_of_each float_size n float_size at t

-- the floats of a column's eight planes of n bytes at a place: float i is byte i of each of its planes; n floats
abbrev pub floats_of : (n at : ℕ) → List ℕ → List ℕ
floats_of n at p = bytes_of_each n float_size n at p

-- of a table of n windows, or of a packed one: its own eight header bytes, what is made of its starts, then what is made of its ends
unfoldable pub by_column : (ℕ → ℕ → List ℕ → List ℕ) → ℕ → List ℕ → List ℕ
by_column make n t = take header_size t ++ (make n header_size t ++ make n (header_size + float_size * n) t)
