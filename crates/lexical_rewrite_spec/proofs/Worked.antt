-- The chains and records worked out by hand hold, by evaluation: a failing one's name would stand in the list. Assumes nothing.
use mathlib.Core.Path.{◌≡◌, refl}
use mathlib.Core.List.{[]}
use lib.Count.{count_trailing_zeros}
use lib.Ieee.{size, span, climb, odd, units, round}
use Rattle.lexical_util.specs.Digit.{digit_byte, digit_value, digit_in, is_digit, is_radix, is_width, read_on}
use Rattle.lexical_util.specs.Examples.{failing}
use Rattle.lexical_write_integer_spec.specs.Digits.{digits_up_to, digits, widened, numeral}
use Rattle.lexical_format.specs.Format.{pairs, find_pair, pair_of, bad_byte, bad_bytes, bad_counts, bad_breaks, reading_format, writing_format}
use Rattle.lexical_write_float_spec.specs.Value.{normal, exact_digits}
use Rattle.lexical_write_float_spec.specs.Limit.{multiple_of, limited}
use Rattle.lexical_write_float_spec.specs.Text.{is_scientific, layout_of, scientific, exponent_text, negative, positive, text}
use Rattle.lexical_write_float_spec.specs.Write.{limited_text, float_text, write_text}
use Rattle.lexical_read_float_spec.specs.Parse.{run, signed_exponent, parse_tail, after_whole, parse_unsigned, parse, shape_of}
use Rattle.lexical_read_float_spec.specs.Round.{too_large}
use Rattle.lexical_read_float_spec.specs.Read.{numerator, denominator, float_of, exponent_too_large, exponent_place, value_of, read_text, read_float}
use Rattle.lexical_rewrite_spec.specs.Chain.{chain_from}
use Rattle.lexical_rewrite_spec.specs.Record.{number_format_of_record, options_of_record, records_of, formats_of, record_of}
use Rattle.lexical_rewrite_spec.specs.Examples.{chains, records}

pub chains_hold : failing chains ≡ []
unfolding failing chains chain_from formats_of records_of number_format_of_record options_of_record read_float read_text value_of exponent_too_large exponent_place float_of numerator denominator too_large shape_of parse parse_unsigned after_whole parse_tail signed_exponent run reading_format read_on write_text float_text limited_text text positive negative exponent_text scientific layout_of is_scientific limited multiple_of exact_digits normal writing_format bad_breaks bad_counts bad_bytes bad_byte pair_of find_pair pairs numeral widened digits digits_up_to is_width is_radix is_digit digit_in digit_value digit_byte round units odd size span climb count_trailing_zeros
chains_hold = refl

pub records_hold : failing records ≡ []
unfolding failing records record_of
records_hold = refl
