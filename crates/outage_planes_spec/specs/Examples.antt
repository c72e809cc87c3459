-- Packed tables worked out by hand, and settled points of packing and unpacking, as a list against the definitions that the contracts cite. Definitions only.
use Rattle.std.specs.Prelude.{ℕ, ◌&&◌, List, [], ◌∷◌, ◌++◌, eqb, replicate}
use Prim.Native.String.{String}
use Rattle.lexical_util.specs.Answer.{Answer, done, refused, written, held}
use Rattle.lexical_util.specs.Examples.{same_bytes, same_answer, Example}
use Rattle.outage_spec.specs.Words.{to_bytes}
use Rattle.outage_planes_spec.specs.Calls.{packed_table, unpacked_table}

-- a count, a length field, and bytes behind them
abbrev headed : ℕ → ℕ → List ℕ → List ℕ
headed n size bytes = to_bytes 4 n ++ (to_bytes 4 size ++ bytes)

-- two windows whose bytes all differ: starts 01 .. 08 and 11 .. 18, ends 21 .. 28 and 31 .. 38
abbrev table : List ℕ
table = headed 2 40 (0x01 ∷ 0x02 ∷ 0x03 ∷ 0x04 ∷ 0x05 ∷ 0x06 ∷ 0x07 ∷ 0x08 ∷ 0x11 ∷ 0x12 ∷ 0x13 ∷ 0x14 ∷ 0x15 ∷ 0x16 ∷ 0x17 ∷ 0x18
    ∷ 0x21 ∷ 0x22 ∷ 0x23 ∷ 0x24 ∷ 0x25 ∷ 0x26 ∷ 0x27 ∷ 0x28 ∷ 0x31 ∷ 0x32 ∷ 0x33 ∷ 0x34 ∷ 0x35 ∷ 0x36 ∷ 0x37 ∷ 0x38 ∷ [])

abbrev packed : List ℕ
packed = headed 2 40 (0x01 ∷ 0x11 ∷ 0x02 ∷ 0x12 ∷ 0x03 ∷ 0x13 ∷ 0x04 ∷ 0x14 ∷ 0x05 ∷ 0x15 ∷ 0x06 ∷ 0x16 ∷ 0x07 ∷ 0x17 ∷ 0x08 ∷ 0x18
    ∷ 0x21 ∷ 0x31 ∷ 0x22 ∷ 0x32 ∷ 0x23 ∷ 0x33 ∷ 0x24 ∷ 0x34 ∷ 0x25 ∷ 0x35 ∷ 0x26 ∷ 0x36 ∷ 0x27 ∷ 0x37 ∷ 0x28 ∷ 0x38 ∷ [])

-- 1.0 to 1.5, whose planes have a byte each; and a NaN to 1.0, which no sheet has
abbrev one : List ℕ
one = headed 1 24 (0 ∷ 0 ∷ 0 ∷ 0 ∷ 0 ∷ 0 ∷ 0xf0 ∷ 0x3f ∷ 0 ∷ 0 ∷ 0 ∷ 0 ∷ 0 ∷ 0 ∷ 0xf8 ∷ 0x3f ∷ [])

abbrev unjudged : List ℕ
unjudged = headed 1 24 (0 ∷ 0 ∷ 0 ∷ 0 ∷ 0 ∷ 0 ∷ 0xf8 ∷ 0xff ∷ 0 ∷ 0 ∷ 0 ∷ 0 ∷ 0 ∷ 0 ∷ 0xf0 ∷ 0x3f ∷ [])

-- what a call is asked for
abbrev asks : String → Answer (List ℕ) → Answer (List ℕ) → Example
asks name asked answer = record { name = name; holds = same_answer same_bytes asked answer }

-- what it answers and leaves in the bytes lent
abbrev leaves : String → Answer (List ℕ) → List ℕ → Answer ℕ → List ℕ → Example
leaves name asked lent answer left = record { name = name; holds = same_answer eqb (written asked lent) answer && same_bytes (held asked lent) left }

unfoldable pub planes : List Example
planes =
    asks "two windows packed" (packed_table table) (done packed)
    ∷ asks "two windows unpacked" (unpacked_table packed) (done table)
    ∷ asks "1.0 to 1.5 packed" (packed_table one) (done one)
    ∷ asks "1.0 to 1.5 unpacked" (unpacked_table one) (done one)
    ∷ asks "no window packed" (packed_table (headed 0 8 [])) (done (headed 0 8 []))
    ∷ asks "no window unpacked" (unpacked_table (headed 0 8 [])) (done (headed 0 8 []))
    ∷ asks "a NaN packed" (packed_table unjudged) (done unjudged)
    ∷ asks "a NaN unpacked" (unpacked_table unjudged) (done unjudged)
    ∷ asks "7 bytes packed" (packed_table (0 ∷ 0 ∷ 0 ∷ 0 ∷ 8 ∷ 0 ∷ 0 ∷ [])) (refused 13 0)
    ∷ asks "7 bytes unpacked" (unpacked_table (0 ∷ 0 ∷ 0 ∷ 0 ∷ 8 ∷ 0 ∷ 0 ∷ [])) (refused 17 0)
    ∷ asks "a byte too many packed" (packed_table (table ++ (0 ∷ []))) (refused 13 0)
    ∷ asks "a byte too many unpacked" (unpacked_table (packed ++ (0 ∷ []))) (refused 17 0)
    ∷ asks "the length field one off, packed" (packed_table (headed 0 9 [])) (refused 13 0)
    ∷ asks "the length field one off, unpacked" (unpacked_table (headed 0 9 [])) (refused 17 0)
    ∷ asks "401 windows packed" (packed_table (headed 401 6424 (replicate {A = ℕ} 6416 0))) (refused 13 0)
    ∷ asks "401 windows unpacked" (unpacked_table (headed 401 6424 (replicate {A = ℕ} 6416 0))) (refused 17 0)
    ∷ leaves "packed, a byte lent more" (packed_table one) (replicate {A = ℕ} 25 7) (done 24) (one ++ (7 ∷ []))
    ∷ leaves "packed, a byte lent less" (packed_table one) (replicate {A = ℕ} 23 7) (refused 8 0) (replicate {A = ℕ} 23 7)
    ∷ leaves "unpacked, a byte lent more" (unpacked_table one) (replicate {A = ℕ} 25 7) (done 24) (one ++ (7 ∷ []))
    ∷ leaves "unpacked, a byte lent less" (unpacked_table one) (replicate {A = ℕ} 23 7) (refused 8 0) (replicate {A = ℕ} 23 7)
    ∷ leaves "13 before 8" (packed_table (headed 1 24 [])) [] (refused 13 0) []
    ∷ leaves "17 before 8" (unpacked_table (headed 1 24 [])) [] (refused 17 0) []
    ∷ []
