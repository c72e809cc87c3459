-- A format as a record of bytes, in which a chain is given its stations. Document 01 has no such form; docs/DECISIONS.md says why it is this one. Definitions only.
use Rattle.std.specs.Prelude.{ℕ, zero, suc, ◌+◌, ◌-◌, ◌*◌, ◌/◌, ◌%◌, ◌<◌, Bool, cond, not, List, [], ◌∷◌, ◌++◌, ltb, eqb, ℤ, pos, negsuc, length, drop, get_or}
use Rattle.lexical_format.specs.declared.format.NumberFormat.{NumberFormat}
use Rattle.lexical_format.specs.declared.options.Options.{Options}
use Rattle.lexical_format.specs.declared.options.RoundMode.{RoundMode}
use Rattle.lexical_format.specs.declared.options.RoundMode.TheVariants.{Round, Truncate}
use Rattle.lexical_rewrite_spec.specs.declared.text_format.TextFormat.{TextFormat}

-- how many bytes a record has
abbrev pub record_size : ℕ
record_size = 20

-- bytes that are missing count as 0: a record that is cut off has no mark, and is refused
abbrev pub byte_at : List ℕ → ℕ → ℕ
byte_at bytes k = get_or bytes k 0

-- 0 is off
abbrev pub flag_at : List ℕ → ℕ → Bool
flag_at bytes k = not (eqb (byte_at bytes k) 0)

-- 0 rounds, any other byte truncates
abbrev pub mode_at : List ℕ → ℕ → RoundMode
mode_at bytes k = cond (flag_at bytes k) Truncate Round

-- two bytes, little endian
abbrev pub two_bytes_at : List ℕ → ℕ → ℕ
two_bytes_at bytes k = byte_at bytes k + 256 * byte_at bytes (k + 1)

-- and as a signed number, two's complement
abbrev pub twos_complement : ℕ → ℤ
twos_complement n = cond (ltb n 32768) (pos n) (negsuc (65535 - n))

-- the format of the record in front
unfoldable pub number_format_of_record : List ℕ → NumberFormat
number_format_of_record bytes = record {
  mantissa_radix = byte_at bytes 0;
  exponent_base = byte_at bytes 1;
  exponent_radix = byte_at bytes 2;
  required_exponent_notation = flag_at bytes 3;
  no_exponent_notation = flag_at bytes 4;
  required_exponent_sign = flag_at bytes 5;
  no_exponent_without_fraction = flag_at bytes 6;
}

unfoldable pub options_of_record : List ℕ → Options
options_of_record bytes = record {
  max_significant_digits = two_bytes_at bytes 9;
  min_significant_digits = two_bytes_at bytes 11;
  positive_exponent_break = twos_complement (two_bytes_at bytes 13);
  negative_exponent_break = twos_complement (two_bytes_at bytes 15);
  exponent_width = byte_at bytes 17;
  round_mode = mode_at bytes 8;
  trim_floats = flag_at bytes 7;
  exponent = byte_at bytes 19;
  decimal_point = byte_at bytes 18;
}

abbrev pub format_of_record : List ℕ → TextFormat
format_of_record bytes = record { format = number_format_of_record bytes; options = options_of_record bytes }

-- n records, one behind the other
unfoldable pub records_of : ℕ → List ℕ → List TextFormat
records_of zero bytes = []
records_of (suc n) bytes = format_of_record bytes ∷ records_of n (drop record_size bytes)

-- all of them, the last one perhaps cut off
unfoldable pub formats_of : List ℕ → List TextFormat
formats_of bytes = records_of ((length bytes + (record_size - 1)) / record_size) bytes

-- ---- the record of a format
-- 1 is on
abbrev pub flag_byte : Bool → ℕ
flag_byte on = cond on 1 0

abbrev pub mode_byte : RoundMode → ℕ
mode_byte Round = 0
mode_byte Truncate = 1

-- a signed number as two bytes hold it, two's complement
abbrev pub word_of : ℤ → ℕ
word_of (pos n) = n
word_of (negsuc n) = 65535 - n

-- radix, base, exponent radix; six flags; four numbers of two bytes, little endian; the exponent's width; point, mark
unfoldable pub record_of : TextFormat → List ℕ
record_of G =
    let F = G.format in
    let o = G.options in
    let most = o.max_significant_digits in
    let least = o.min_significant_digits in
    let high = word_of o.positive_exponent_break in
    let low = word_of o.negative_exponent_break in
    F.mantissa_radix ∷ F.exponent_base ∷ F.exponent_radix
    ∷ flag_byte F.required_exponent_notation ∷ flag_byte F.no_exponent_notation ∷ flag_byte F.required_exponent_sign
    ∷ flag_byte F.no_exponent_without_fraction ∷ flag_byte o.trim_floats ∷ mode_byte o.round_mode
    ∷ most % 256 ∷ most / 256 ∷ least % 256 ∷ least / 256 ∷ high % 256 ∷ high / 256 ∷ low % 256 ∷ low / 256
    ∷ o.exponent_width ∷ o.decimal_point ∷ o.exponent ∷ []

-- one behind the other
unfoldable pub joined : List TextFormat → List ℕ
joined [] = []
joined (G ∷ Gs) = record_of G ++ joined Gs

-- from -32,768 to 32,767
abbrev pub FitsWord : ℤ → Type 0
FitsWord (pos n) = n < 32768
FitsWord (negsuc n) = n < 32768

-- each field fits the bytes that it has in a record
pub record FitsRecord (G : TextFormat) : Type 0 where
  pub radix : G.format.mantissa_radix < 256
  pub base : G.format.exponent_base < 256
  pub exponent_radix : G.format.exponent_radix < 256
  pub most : G.options.max_significant_digits < 65536
  pub least : G.options.min_significant_digits < 65536
  pub high_break : FitsWord G.options.positive_exponent_break
  pub low_break : FitsWord G.options.negative_exponent_break
  pub width : G.options.exponent_width < 256
  pub point : G.options.decimal_point < 256
  pub mark : G.options.exponent < 256
