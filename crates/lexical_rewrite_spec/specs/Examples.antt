-- Chains worked out by hand, as one list against the definition that the contracts cite; and records. Definitions only.
use Rattle.std.specs.Prelude.{ℕ, ◌-◌, Bool, true, false, ◌&&◌, List, [], ◌∷◌, ◌++◌, eqb, pos, negsuc, take, replicate}
use Prim.Native.String.{String}
use Rattle.std.specs.Float.{Format, binary32, binary64}
use Rattle.lexical_util.specs.Examples.{bytes, same_bytes, Example}
use Rattle.lexical_format.specs.declared.options.RoundMode.TheVariants.{Truncate}
use Rattle.lexical_read_float_spec.specs.Examples.{format, options}
use Rattle.lexical_rewrite_spec.specs.declared.text_format.TextFormat.{TextFormat}
use Rattle.lexical_rewrite_spec.specs.Chain.{Chained, arrived, reading_refused_at, writing_refused_at, Outcome, chain_of}
use Rattle.lexical_rewrite_spec.specs.Record.{record_size, format_of_record, formats_of, record_of}

-- exponent radix 10, point ".", all else default
abbrev in_pair : ℕ → ℕ → ℕ → TextFormat
in_pair radix base mark = record { format = format radix base 10; options = options 46 mark }

abbrev same_chained : Chained → Chained → Bool
same_chained (arrived n) (arrived m) = eqb n m
same_chained (arrived n) (reading_refused_at i m p) = false
same_chained (arrived n) (writing_refused_at i m p) = false
same_chained (reading_refused_at i n p) (arrived m) = false
same_chained (reading_refused_at i n p) (reading_refused_at j m q) = eqb i j && (eqb n m && eqb p q)
same_chained (reading_refused_at i n p) (writing_refused_at j m q) = false
same_chained (writing_refused_at i n p) (arrived m) = false
same_chained (writing_refused_at i n p) (reading_refused_at j m q) = false
same_chained (writing_refused_at i n p) (writing_refused_at j m q) = eqb i j && (eqb n m && eqb p q)

-- the outcome has this answer and these bytes
abbrev same_outcome : Outcome → Chained → List ℕ → Bool
same_outcome o answer held = same_chained o.answer answer && same_bytes o.bytes held

-- a record: radix, base, exponent radix; six flags; four numbers of two bytes; width, point, mark
abbrev record_in : ℕ → ℕ → ℕ → ℕ → List ℕ
record_in radix base width mark = radix ∷ base ∷ 10 ∷ (replicate {A = ℕ} 14 0 ++ width ∷ 46 ∷ mark ∷ [])

-- that of 2/2, mark "e"
abbrev record2 : List ℕ
record2 = record_in 2 2 1 101

-- so many bytes of 7, which no text has
abbrev lent : ℕ → List ℕ
lent n = replicate {A = ℕ} n 7

-- from 16/2, mark "p", to 32/32, mark "^", and to the stations of the records, with so many bytes lent
abbrev sent : String → Format → String → List ℕ → ℕ → Chained → List ℕ → Example
sent name f t records n answer held = record { name = name; holds = same_outcome (chain_of f (in_pair 16 2 112) (bytes t) (in_pair 32 32 94) (formats_of records) (lent n)) answer held }

-- 1,024 under 16/2, mark "p" and a width that no writer has, to 32/32 in width 4, mark "^", and to the stations of the records
abbrev sent_wide : String → List ℕ → Chained → List ℕ → Example
sent_wide name records answer held = record { name = name; holds = same_outcome (chain_of binary64 (format_of_record (record_in 16 2 0 112)) (bytes "4.0p8") (format_of_record (record_in 32 32 4 94)) (formats_of records) (lent 9)) answer held }

unfoldable pub chains : List Example
chains =
    sent "one station" binary64 "1.8p0" [] 8 (arrived 3) (bytes "1.G" ++ lent 5)
    ∷ sent "two stations" binary64 "1.8p0" record2 8 (arrived 3) (bytes "1.1" ++ lent 5)
    ∷ sent "just enough bytes" binary64 "1.8p0" record2 3 (arrived 3) (bytes "1.1")
    ∷ sent "a byte too few" binary64 "1.8p0" record2 2 (writing_refused_at 1 8 0) (lent 2)
    ∷ sent "a byte that no text has there" binary64 "1.8q0" record2 8 (reading_refused_at 0 9 3) (lent 8)
    ∷ sent "a record cut off before its mark" binary64 "1.8p0" (take (record_size - 1) record2) 8 (writing_refused_at 1 3 0) (lent 8)
    ∷ sent "2 ^ -24 above 1, kept in 64 bits" binary64 "1.000001p0" record2 30 (arrived 26) (bytes "1.000000000000000000000001" ++ lent 4)
    ∷ sent "and a tie in 32 bits, to the even float" binary32 "1.000001p0" record2 30 (arrived 3) (bytes "1.0" ++ lent 27)
    ∷ sent "the largest float and a digit more" binary64 "F.FFFFFFFFFFFF8Fp1020" [] 18 (arrived 16) (bytes "F.VVVVVVVVVU^204" ++ lent 2)
    ∷ sent "the same in 32 bits" binary32 "F.FFFFF7p124" record2 30 (arrived 29) (bytes "1.11111111111111111111111e127" ++ lent 1)
    ∷ sent "half a step above the largest float" binary64 "F.FFFFFFFFFFFFCp1020" [] 18 (reading_refused_at 0 11 0) (lent 18)
    ∷ sent "minus zero" binary64 "-0.0p0" record2 8 (arrived 4) (bytes "-0.0" ++ lent 4)
    ∷ sent "zero" binary64 "0.0p0" record2 8 (arrived 3) (bytes "0.0" ++ lent 5)
    ∷ sent "-1.5" binary64 "-1.8p0" record2 8 (arrived 4) (bytes "-1.1" ++ lent 4)
    ∷ sent "a byte too few for the sign" binary64 "-1.8p0" record2 3 (writing_refused_at 1 8 0) (lent 3)
    ∷ sent "rounded to minus zero" binary32 "-1.0p-151" record2 8 (arrived 4) (bytes "-0.0" ++ lent 4)
    ∷ sent "two signs" binary64 "--1" record2 8 (reading_refused_at 0 9 1) (lent 8)
    ∷ sent_wide "width 4" [] (arrived 8) (bytes "1.0^0002" ++ lent 1)
    ∷ sent_wide "widths 4 and 1" record2 (arrived 6) (bytes "1.0e10" ++ lent 3)
    ∷ sent_wide "widths 4, 1 and 3" (record2 ++ record_in 32 32 3 94) (arrived 7) (bytes "1.0^002" ++ lent 2)
    ∷ sent_wide "widths 4, 1 and 0" (record2 ++ record_in 32 32 0 94) (writing_refused_at 2 16 0) (lent 9)
    ∷ []

-- ---- records
-- 32/2, exponent radix 16, point ",", mark "^"; every flag on, Truncate, most and least 1,200, breaks 2,000 and -2,000, width 4
abbrev fullest : TextFormat
fullest = record {
  format = record {
    mantissa_radix = 32;
    exponent_base = 2;
    exponent_radix = 16;
    required_exponent_notation = true;
    no_exponent_notation = true;
    required_exponent_sign = true;
    no_exponent_without_fraction = true;
  };
  options = record {
    max_significant_digits = 1200;
    min_significant_digits = 1200;
    positive_exponent_break = pos 2000;
    negative_exponent_break = negsuc 1999;
    exponent_width = 4;
    round_mode = Truncate;
    trim_floats = true;
    exponent = 94;
    decimal_point = 44;
  };
}

abbrev recorded : String → TextFormat → List ℕ → Example
recorded name G bytes = record { name = name; holds = same_bytes (record_of G) bytes }

unfoldable pub records : List Example
records =
    recorded "2/2, mark e" (in_pair 2 2 101) record2
    ∷ recorded "every field at its end" fullest (32 ∷ 2 ∷ 16 ∷ 1 ∷ 1 ∷ 1 ∷ 1 ∷ 1 ∷ 1 ∷ 176 ∷ 4 ∷ 176 ∷ 4 ∷ 208 ∷ 7 ∷ 48 ∷ 248 ∷ 4 ∷ 44 ∷ 94 ∷ [])
    ∷ []
