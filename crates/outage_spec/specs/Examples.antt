-- Document 01's printed table, and settled points of tables and sheets, as lists against the definitions that the contracts cite. Definitions only.
use Rattle.std.specs.Prelude.{ℕ, List, [], ◌∷◌, ◌++◌, ℤ, pos, replicate}
use Prim.Native.String.{String}
use Rattle.lexical_util.specs.Answer.{Answer, done, refused}
use Rattle.lexical_util.specs.Examples.{bytes, same_bytes, same_answer, Example}
use Rattle.lexical_format.specs.declared.options.Options.{Options}
use Rattle.outage_spec.specs.Words.{to_bytes}
use Rattle.outage_spec.specs.Format.{printed}
use Rattle.outage_spec.specs.Calls.{table_sheet, sheet_table}

-- each line with its LF
abbrev lines : List String → List ℕ
lines [] = []
lines (s ∷ ss) = bytes s ++ (10 ∷ lines ss)

-- bits, eight bytes each
abbrev words : List ℕ → List ℕ
words [] = []
words (b ∷ bs) = to_bytes 8 b ++ words bs

-- a count, a length field, and the bits of starts and ends
abbrev table : ℕ → ℕ → List ℕ → List ℕ
table n size bits = to_bytes 4 n ++ (to_bytes 4 size ++ words bits)

-- 1.0, 1.5, -0, -1.0, -1.5, the infinities and a NaN with its sign bit set
abbrev one : ℕ
one = 0x3ff0000000000000

abbrev one_and_half : ℕ
one_and_half = 0x3ff8000000000000

abbrev minus_zero : ℕ
minus_zero = 0x8000000000000000

abbrev minus_one : ℕ
minus_one = 0xbff0000000000000

abbrev minus_one_and_half : ℕ
minus_one_and_half = 0xbff8000000000000

abbrev infinity : ℕ
infinity = 0x7ff0000000000000

abbrev minus_infinity : ℕ
minus_infinity = 0xfff0000000000000

abbrev not_a_number : ℕ
not_a_number = 0xfff8000000000000

-- 16/2, exponent radix 10, mark "p", exponent required
abbrev prints : String → List ℕ → Answer (List ℕ) → Example
prints name t answer = record { name = name; holds = same_answer same_bytes (table_sheet printed.format printed.options t) answer }

-- with a digit limit, a low break and a width
abbrev printed_with : ℕ → ℤ → ℕ → Options
printed_with most low width = record {
  max_significant_digits = most;
  min_significant_digits = printed.options.min_significant_digits;
  positive_exponent_break = printed.options.positive_exponent_break;
  negative_exponent_break = low;
  exponent_width = width;
  round_mode = printed.options.round_mode;
  trim_floats = printed.options.trim_floats;
  exponent = printed.options.exponent;
  decimal_point = printed.options.decimal_point;
}

abbrev prints_with : String → ℕ → ℤ → ℕ → List ℕ → Answer (List ℕ) → Example
prints_with name most low width t answer = record { name = name; holds = same_answer same_bytes (table_sheet printed.format (printed_with most low width) t) answer }

unfoldable pub tables : List Example
tables =
    prints "1.0 to 1.5" (1 ∷ 0 ∷ 0 ∷ 0 ∷ 24 ∷ 0 ∷ 0 ∷ 0 ∷ 0 ∷ 0 ∷ 0 ∷ 0 ∷ 0 ∷ 0 ∷ 0xf0 ∷ 0x3f ∷ 0 ∷ 0 ∷ 0 ∷ 0 ∷ 0 ∷ 0 ∷ 0xf8 ∷ 0x3f ∷ []) (done (lines ("1" ∷ "1.0p0 1.8p0" ∷ [])))
    ∷ prints "no window" (table 0 8 []) (done (lines ("0" ∷ [])))
    ∷ prints "two windows, starts before ends" (table 2 40 (0 ∷ one ∷ one_and_half ∷ one ∷ [])) (done (lines ("2" ∷ "0.0p0 1.8p0" ∷ "1.0p0 1.0p0" ∷ [])))
    ∷ prints "no byte" [] (refused 13 0)
    ∷ prints "7 bytes" (0 ∷ 0 ∷ 0 ∷ 0 ∷ 8 ∷ 0 ∷ 0 ∷ []) (refused 13 0)
    ∷ prints "a byte too many" (table 0 8 [] ++ (0 ∷ [])) (refused 13 0)
    ∷ prints "the length field one off" (table 0 9 []) (refused 13 0)
    ∷ prints "401 windows" (table 401 6424 (replicate {A = ℕ} 802 one)) (refused 13 0)
    ∷ prints "-0 as a start" (table 1 24 (minus_zero ∷ one ∷ [])) (done (lines ("1" ∷ "-0.0p0 1.0p0" ∷ [])))
    ∷ prints "+0 to -0, and -0 to +0" (table 2 40 (0 ∷ minus_zero ∷ minus_zero ∷ 0 ∷ [])) (done (lines ("2" ∷ "0.0p0 -0.0p0" ∷ "-0.0p0 0.0p0" ∷ [])))
    ∷ prints "a window before second zero" (table 1 24 (minus_one_and_half ∷ minus_one ∷ [])) (done (lines ("1" ∷ "-1.8p0 -1.0p0" ∷ [])))
    ∷ prints "an end below its start, before second zero" (table 1 24 (minus_one ∷ minus_one_and_half ∷ [])) (refused 14 0)
    ∷ prints "-infinity as a start" (table 1 24 (minus_infinity ∷ one ∷ [])) (refused 7 0)
    ∷ prints "an infinity as an end of row 1" (table 2 40 (one ∷ one ∷ one ∷ infinity ∷ [])) (refused 7 1)
    ∷ prints "a NaN as a start of row 1" (table 2 40 (one ∷ not_a_number ∷ one ∷ one ∷ [])) (refused 7 1)
    ∷ prints "an end below its start" (table 1 24 (one_and_half ∷ one ∷ [])) (refused 14 0)
    ∷ prints "row 0's 14 before row 1's 7" (table 2 40 (one_and_half ∷ infinity ∷ one ∷ one ∷ [])) (refused 14 0)
    ∷ prints_with "no digit limit" 0 (pos 0) 1 (table 0 8 []) (done (lines ("0" ∷ [])))
    ∷ prints_with "a digit limit" 5 (pos 0) 1 (table 0 8 []) (refused 5 0)
    ∷ prints_with "a break out of range" 0 (pos 1) 1 (table 0 8 []) (refused 6 0)
    ∷ prints_with "5 before 6" 5 (pos 1) 1 (table 0 8 []) (refused 5 0)
    ∷ prints_with "width 2, the count as it was" 0 (pos 0) 2 (table 1 24 (one ∷ one_and_half ∷ [])) (done (lines ("1" ∷ "1.0p00 1.8p00" ∷ [])))
    ∷ prints_with "width 0" 0 (pos 0) 0 (table 0 8 []) (refused 16 0)
    ∷ prints_with "width 5" 0 (pos 0) 5 (table 0 8 []) (refused 16 0)
    ∷ prints_with "6 before 16" 0 (pos 1) 0 (table 0 8 []) (refused 6 0)
    ∷ prints_with "16 before 13" 0 (pos 0) 0 [] (refused 16 0)
    ∷ []

-- sheet to table, with so many bytes lent
abbrev stores : String → List ℕ → ℕ → Answer (List ℕ) → Example
stores name s room answer = record { name = name; holds = same_answer same_bytes (sheet_table printed.format printed.options s room) answer }

-- under a format of width 0, which no writer has
abbrev stores_unwritten : String → List ℕ → ℕ → Answer (List ℕ) → Example
stores_unwritten name s room answer = record { name = name; holds = same_answer same_bytes (sheet_table printed.format (printed_with 0 (pos 0) 0) s room) answer }

-- refused, with bytes enough
abbrev wrong : String → List ℕ → ℕ → ℕ → Example
wrong name s number place = stores name s 100 (refused number place)

unfoldable pub sheets : List Example
sheets =
    stores "1.0 to 1.5" (lines ("1" ∷ "1.0p0 1.8p0" ∷ [])) 24 (done (table 1 24 (one ∷ one_and_half ∷ [])))
    ∷ stores "no window" (lines ("0" ∷ [])) 8 (done (table 0 8 []))
    ∷ stores "exponents of any width" (lines ("1" ∷ "1.0p000 1.8p00" ∷ [])) 24 (done (table 1 24 (one ∷ one_and_half ∷ [])))
    ∷ stores_unwritten "no 16 in reading" (lines ("1" ∷ "1.0p0 1.8p0" ∷ [])) 24 (done (table 1 24 (one ∷ one_and_half ∷ [])))
    ∷ stores "two windows" (lines ("2" ∷ "0 1.8" ∷ "10p-4 1" ∷ [])) 40 (done (table 2 40 (0 ∷ one ∷ one_and_half ∷ one ∷ [])))
    ∷ stores "an end above the largest float by less than half a step" (lines ("1" ∷ "1.0p0 F.FFFFFFFFFFFF8Fp1020" ∷ [])) 24 (done (table 1 24 (one ∷ 0x7fefffffffffffff ∷ [])))
    ∷ stores "before second zero, and both zeros" (lines ("2" ∷ "-1.8 -10p-4" ∷ "-0 0" ∷ [])) 40 (done (table 2 40 (minus_one_and_half ∷ minus_zero ∷ minus_one ∷ 0 ∷ [])))
    ∷ stores "+0 to -0, rounded to it" (lines ("1" ∷ "0 -1p-2000" ∷ [])) 24 (done (table 1 24 (0 ∷ minus_zero ∷ [])))
    ∷ wrong "an end below its start, before second zero" (lines ("1" ∷ "-1 -1.8" ∷ [])) 14 2
    ∷ wrong "a start that is a sign" (lines ("1" ∷ "- 1" ∷ [])) 9 3
    ∷ wrong "an end with two signs" (lines ("1" ∷ "-1 --1" ∷ [])) 9 6
    ∷ wrong "an end with a plus" (lines ("1" ∷ "-1 +1" ∷ [])) 9 5
    ∷ wrong "an end half a step above the largest float" (lines ("1" ∷ "1.0p0 F.FFFFFFFFFFFFCp1020" ∷ [])) 11 8
    ∷ wrong "no byte" [] 15 0
    ∷ wrong "a count line without LF" (bytes "0") 15 0
    ∷ wrong "an empty count line" (lines ("" ∷ [])) 15 0
    ∷ wrong "00" (lines ("00" ∷ [])) 15 0
    ∷ wrong "01" (lines ("01" ∷ "1 1" ∷ [])) 15 0
    ∷ wrong "+1" (lines ("+1" ∷ "1 1" ∷ [])) 15 0
    ∷ wrong "+" (lines ("+" ∷ [])) 15 0
    ∷ wrong "401" (lines ("401" ∷ [])) 15 0
    ∷ wrong "thirty digits" (lines ("100000000000000000000000000000" ∷ [])) 15 0
    ∷ stores "8 behind the count line, before a row" (lines ("1" ∷ "x" ∷ [])) 23 (refused 8 0)
    ∷ stores "15 of the count line before 8" (lines ("401" ∷ [])) 0 (refused 15 0)
    ∷ wrong "a missing row" (lines ("1" ∷ [])) 15 2
    ∷ wrong "a row without LF" (lines ("1" ∷ []) ++ bytes "1 1") 15 2
    ∷ wrong "a row without a space" (lines ("1" ∷ "1.0" ∷ [])) 15 2
    ∷ wrong "a row with two spaces" (lines ("2" ∷ "1 1" ∷ "1  1" ∷ [])) 15 6
    ∷ wrong "a row with a space in front" (lines ("1" ∷ " 1 1" ∷ [])) 15 2
    ∷ wrong "a row with a space behind" (lines ("1" ∷ "1 1 " ∷ [])) 15 2
    ∷ wrong "a CR before the LF" (lines ("1" ∷ []) ++ (bytes "1 1" ++ (13 ∷ 10 ∷ []))) 9 5
    ∷ wrong "a space alone" (lines ("1" ∷ " " ∷ [])) 9 2
    ∷ wrong "a start that is none" (lines ("1" ∷ "1x 1" ∷ [])) 9 3
    ∷ wrong "an end that is none" (lines ("1" ∷ "1.0p0 1x" ∷ [])) 9 9
    ∷ wrong "an end that is not there" (lines ("1" ∷ "1.0p0 " ∷ [])) 9 8
    ∷ wrong "the start's refusal before the end's" (lines ("1" ∷ "1p99999 x" ∷ [])) 10 4
    ∷ wrong "an end below its start" (lines ("2" ∷ "1 1" ∷ "1 0.8" ∷ [])) 14 6
    ∷ wrong "a byte behind the last row" (lines ("1" ∷ "1 1" ∷ []) ++ bytes "1") 15 6
    ∷ wrong "an LF behind the last row" (lines ("0" ∷ "" ∷ [])) 15 2
    ∷ []
