-- Document 01's starred examples, as one list against the definitions that the contracts cite: the answer and every lent byte. Definitions only.
use Rattle.std.specs.Prelude.{ℕ, ◌^◌, ◌-◌, Bool, true, false, ◌&&◌, List, [], ◌∷◌, ◌++◌, eqb, ℤ, pos, length, drop, replicate, Float}
use Prim.Native.String.{String}
use Rattle.std.specs.Float.{nan, inf, binary32, binary64}
use Rattle.std.specs.Float.Ieee.{round}
use Rattle.lexical_util.specs.Answer.{Answer, done, refused, written, held}
use Rattle.lexical_util.specs.Examples.{bytes, same_bytes, same_answer, Example}
use Rattle.lexical_format.specs.declared.format.NumberFormat.{NumberFormat}
use Rattle.lexical_format.specs.declared.options.Options.{Options}
use Rattle.lexical_format.specs.declared.options.RoundMode.{RoundMode}
use Rattle.lexical_format.specs.declared.options.RoundMode.TheVariants.{Round, Truncate}
use Rattle.lexical_write_float_spec.specs.Write.{write_text, longest_text}

-- r/base/exponent radix; mark "^", all else default
abbrev format_with : ℕ → ℕ → ℕ → Bool → Bool → Bool → Bool → NumberFormat
format_with radix base power required forbidden signed fraction = record {
  mantissa_radix = radix;
  exponent_base = base;
  exponent_radix = power;
  required_exponent_notation = required;
  no_exponent_notation = forbidden;
  required_exponent_sign = signed;
  no_exponent_without_fraction = fraction;
}

abbrev pub format : ℕ → ℕ → ℕ → Bool → Bool → NumberFormat
format radix base power required signed = format_with radix base power required false signed false

abbrev options_with : ℕ → ℕ → ℤ → ℕ → RoundMode → Bool → Options
options_with least most low width mode trim = record {
  max_significant_digits = most;
  min_significant_digits = least;
  positive_exponent_break = pos 0;
  negative_exponent_break = low;
  exponent_width = width;
  round_mode = mode;
  trim_floats = trim;
  exponent = 94;
  decimal_point = 46;
}

abbrev pub options : ℕ → ℕ → RoundMode → Bool → Options
options least most mode trim = options_with least most (pos 0) 1 mode trim

-- with an exponent's least width
abbrev wide : ℕ → Options
wide width = options_with 0 0 (pos 0) width Round false

abbrev plain : ℕ → ℕ → ℕ → NumberFormat
plain radix base power = format radix base power false false

abbrev default : Options
default = options 0 0 Round false

abbrev trimmed : Options
trimmed = options 0 0 Round true

-- the float of num / den, and that of -num / den
abbrev double : ℕ → ℕ → Float
double num den = round binary64 false num den

abbrev minus : ℕ → ℕ → Float
minus num den = round binary64 true num den

-- ---- what an example asks for
-- the answer and the lent bytes: a text in front of what they held, or a refusal and what they held
abbrev writes : NumberFormat → Options → Float → List ℕ → List ℕ → Bool
writes F o x out t =
    same_answer eqb (written (write_text F o x) out) (done (length t)) && same_bytes (held (write_text F o x) out) (t ++ drop (length t) out)

abbrev refuses : NumberFormat → Options → Float → List ℕ → ℕ → Bool
refuses F o x out n = same_answer eqb (written (write_text F o x) out) (refused n 0) && same_bytes (held (write_text F o x) out) out

-- bytes as lent, that no text has
abbrev lent : ℕ → List ℕ
lent n = replicate n 7

abbrev is : String → NumberFormat → Options → Float → String → Example
is name F o x t = record { name = name; holds = writes F o x (lent 20) (bytes t) }

unfoldable pub starred : List Example
starred =
    is "2/2/2: 0" (plain 2 2 2) default (double 0 1) "0.0"
    ∷ is "2/2/2: 0, exponent required" (format 2 2 2 true false) default (double 0 1) "0.0^0"
    ∷ is "2/2/2: 2^-5" (plain 2 2 2) default (double 1 (2 ^ 5)) "0.00001"
    ∷ is "2/2/2: 2^-6" (plain 2 2 2) default (double 1 (2 ^ 6)) "1.0^-110"
    ∷ is "16/16/16: 0.5" (plain 16 16 16) default (double 1 2) "0.8"
    ∷ record { name = "16/16/16: 0.5, 2 bytes refused"; holds = refuses (plain 16 16 16) default (double 1 2) (lent 2) 8 }
    ∷ record { name = "16/16/16: 0.5, 3 enough"; holds = writes (plain 16 16 16) default (double 1 2) (lent 3) (bytes "0.8") }
    ∷ is "16/16/16: 512" (plain 16 16 16) default (double 512 1) "200.0"
    ∷ is "16/16/16: 1,024" (plain 16 16 16) default (double 1024 1) "4.0^2"
    ∷ is "16/16/16: 1,024, trim" (plain 16 16 16) trimmed (double 1024 1) "4^2"
    ∷ is "16/16/16: 1,024, sign" (format 16 16 16 false true) default (double 1024 1) "4.0^+2"
    ∷ is "16/2/10: 1,024" (plain 16 2 10) default (double 1024 1) "4.0^8"
    ∷ is "16/2/10: 2^-6" (plain 16 2 10) default (double 1 (2 ^ 6)) "4.0^-8"
    ∷ is "16/4/10: 1,024" (plain 16 4 10) default (double 1024 1) "4.0^4"
    ∷ is "32/32/10: 2^-1074" (plain 32 32 10) default (double 1 (2 ^ 1074)) "2.0^-215"
    ∷ is "32/32/10: 512, trim" (plain 32 32 10) trimmed (double 512 1) "G0"
    ∷ is "2/2/2: 8, least 5" (plain 2 2 2) (options 5 0 Round false) (double 8 1) "1000.0000"
    ∷ is "2/2/2: 8, least 5, trim" (plain 2 2 2) (options 5 0 Round true) (double 8 1) "1000"
    ∷ is "limit, 16/16/16: 1.5, one digit, Round" (plain 16 16 16) (options 0 1 Round false) (double 3 2) "2.0"
    ∷ is "limit, 16/16/16: 1.5, one digit, Truncate" (plain 16 16 16) (options 0 1 Truncate false) (double 3 2) "1.0"
    ∷ is "limit, 2/2/2: 1.75, two" (plain 2 2 2) (options 0 2 Round false) (double 7 4) "10.0"
    ∷ []

-- document 01's examples of writing that have no star, and the settled ones of zero under a least count and of a limit that passes the range
unfoldable pub unstarred : List Example
unstarred =
    is "16/2/10: 32-bit largest" (plain 16 2 10) default (round binary32 false (2 ^ 128 - 2 ^ 104) 1) "F.FFFFF^124"
    ∷ is "2/2/2: 0, least 5" (plain 2 2 2) (options 5 0 Round false) (double 0 1) "0.00000"
    ∷ is "2/2/2: 0, least 5, exponent required" (format 2 2 2 true false) (options 5 0 Round false) (double 0 1) "0.0000^0"
    ∷ is "limit, 16/16/16: 2.5, one digit, a tie to the even one" (plain 16 16 16) (options 0 1 Round false) (double 5 2) "2.0"
    ∷ is "limit, 16/2/10: 64-bit largest, one digit" (plain 16 2 10) (options 0 1 Round false) (double (2 ^ 1024 - 2 ^ 971) 1) "1.0^1024"
    ∷ record { name = "least 1,201"; holds = refuses (plain 2 2 2) (options 1201 0 Round false) (double 0 1) (lent 20) 5 }
    ∷ []

-- the examples of docs/FORMAT.md that stand in neither list
unfoldable pub further : List Example
further =
    is "2/2/2: 0, exponent required, sign" (format 2 2 2 true true) default (double 0 1) "0.0^+0"
    ∷ is "2/2/2: 0, trim" (plain 2 2 2) trimmed (double 0 1) "0"
    ∷ is "2/2/2: 0, trim, exponent required" (format 2 2 2 true false) trimmed (double 0 1) "0^0"
    ∷ is "2/2/2: 0, trim, exponent required, least 5" (format 2 2 2 true false) (options 5 0 Round true) (double 0 1) "0^0"
    ∷ is "16/16/16: 2^-5" (plain 16 16 16) default (double 1 (2 ^ 5)) "0.08"
    ∷ is "16/16/16: 1,024, trim, least 3" (plain 16 16 16) (options 3 0 Round true) (double 1024 1) "4^2"
    ∷ is "16/16/16: 1,024, trim, no exponent without fraction" (format_with 16 16 16 false false false true) trimmed (double 1024 1) "4.0^2"
    ∷ is "16/16/16: 1,024, trim, no exponent without fraction, least 3" (format_with 16 16 16 false false false true) (options 3 0 Round true) (double 1024 1) "4.00^2"
    ∷ is "16/16/16: 1,024, least 3" (plain 16 16 16) (options 3 0 Round false) (double 1024 1) "4.00^2"
    ∷ is "16/2/10: 6,144" (plain 16 2 10) default (double 6144 1) "1.8^12"
    ∷ is "16/2/10: 6,144, least 4" (plain 16 2 10) (options 4 0 Round false) (double 6144 1) "1.800^12"
    ∷ is "16/2/10: 6,144, least 4, trim" (plain 16 2 10) (options 4 0 Round true) (double 6144 1) "1.800^12"
    ∷ is "16/16/16: 1.5, least 4" (plain 16 16 16) (options 4 0 Round false) (double 3 2) "1.800"
    ∷ is "16/16/16: 2^-5, least 4" (plain 16 16 16) (options 4 0 Round false) (double 1 (2 ^ 5)) "0.08000"
    ∷ is "limit, 16/16/16: 2.5, one digit, Truncate" (plain 16 16 16) (options 0 1 Truncate false) (double 5 2) "2.0"
    ∷ []

-- document 02, 2.2: an exponent's least width. It changes no exponent of as many digits, and no digits but an exponent's; 16 after 6 and before 7
unfoldable pub widths : List Example
widths =
    is "16/2/10: 1,024, width 2" (plain 16 2 10) (wide 2) (double 1024 1) "4.0^08"
    ∷ is "16/2/10: 2^-6, width 3" (plain 16 2 10) (wide 3) (double 1 (2 ^ 6)) "4.0^-008"
    ∷ is "16/2/10: 6,144, width 2" (plain 16 2 10) (wide 2) (double 6144 1) "1.8^12"
    ∷ is "16/16/16: 1,024, sign, width 4" (format 16 16 16 false true) (wide 4) (double 1024 1) "4.0^+0002"
    ∷ is "2/2/2: 0, exponent required, width 4" (format 2 2 2 true false) (wide 4) (double 0 1) "0.0^0000"
    ∷ is "32/32/10: 2^-1074, width 2" (plain 32 32 10) (wide 2) (double 1 (2 ^ 1074)) "2.0^-215"
    ∷ is "16/16/16: 0.5, width 4" (plain 16 16 16) (wide 4) (double 1 2) "0.8"
    ∷ record { name = "width 0"; holds = refuses (plain 2 2 2) (wide 0) (double 0 1) (lent 20) 16 }
    ∷ record { name = "width 5"; holds = refuses (plain 2 2 2) (wide 5) (double 0 1) (lent 20) 16 }
    ∷ record { name = "6 before 16"; holds = refuses (plain 2 2 2) (options_with 0 0 (pos 1) 0 Round false) (double 0 1) (lent 20) 6 }
    ∷ record { name = "16 before 7"; holds = refuses (plain 2 2 2) (wide 0) (inf true) (lent 20) 16 }
    ∷ []

-- document 02, 2.3: "-" for a set sign bit, minus zero's too, and the digit limit on the magnitude; 8 counts the sign, and 7 means not finite
unfoldable pub signs : List Example
signs =
    is "2/2/2: -0" (plain 2 2 2) default (minus 0 1) "-0.0"
    ∷ is "2/2/2: -0, exponent required" (format 2 2 2 true false) default (minus 0 1) "-0.0^0"
    ∷ is "2/2/2: -0, trim" (plain 2 2 2) trimmed (minus 0 1) "-0"
    ∷ is "2/2/2: -0, least 5" (plain 2 2 2) (options 5 0 Round false) (minus 0 1) "-0.00000"
    ∷ is "16/16/16: -512" (plain 16 16 16) default (minus 512 1) "-200.0"
    ∷ is "16/16/16: -1,024, sign" (format 16 16 16 false true) default (minus 1024 1) "-4.0^+2"
    ∷ is "16/16/16: -2^-5" (plain 16 16 16) default (minus 1 (2 ^ 5)) "-0.08"
    ∷ is "16/2/10: -2^-6, width 3" (plain 16 2 10) (wide 3) (minus 1 (2 ^ 6)) "-4.0^-008"
    ∷ is "32/32/10: -2^-1074" (plain 32 32 10) default (minus 1 (2 ^ 1074)) "-2.0^-215"
    ∷ is "limit, 16/16/16: -1.5, one digit, Round" (plain 16 16 16) (options 0 1 Round false) (minus 3 2) "-2.0"
    ∷ is "limit, 16/16/16: -1.5, one digit, Truncate" (plain 16 16 16) (options 0 1 Truncate false) (minus 3 2) "-1.0"
    ∷ record { name = "16/16/16: -0.5, 3 bytes refused"; holds = refuses (plain 16 16 16) default (minus 1 2) (lent 3) 8 }
    ∷ record { name = "16/16/16: -0.5, 4 enough"; holds = writes (plain 16 16 16) default (minus 1 2) (lent 4) (bytes "-0.8") }
    ∷ record { name = "-0, no byte"; holds = refuses (plain 2 2 2) trimmed (minus 0 1) [] 8 }
    ∷ record { name = "infinity"; holds = refuses (plain 2 2 2) default (inf false) (lent 20) 7 }
    ∷ record { name = "-infinity"; holds = refuses (plain 2 2 2) default (inf true) (lent 20) 7 }
    ∷ record { name = "NaN"; holds = refuses (plain 2 2 2) default nan (lent 20) 7 }
    ∷ []

-- the longest text, with a digit limit and without: so many bytes are enough, and one less is refused
abbrev longest_in : String → ℕ → ℕ → Answer ℕ → Example
longest_in name most n wanted =
    let t = write_text (format_with 2 2 2 false true false false) (options 1200 most Round false) (minus 1 (2 ^ 1074)) in
    record { name = name; holds = same_answer eqb (written t (lent n)) wanted }

unfoldable pub longest : List Example
longest =
    longest_in "the longest text" 0 longest_text (done longest_text)
    ∷ longest_in "a byte less" 0 (longest_text - 1) (refused 8 0)
    ∷ longest_in "the longest text, limit 1,200" 1200 longest_text (done longest_text)
    ∷ longest_in "a byte less, limit 1,200" 1200 (longest_text - 1) (refused 8 0)
    ∷ []
