-- The examples of reading hold, by evaluation: a failing one's name would stand in the list. Assumes nothing.
use mathlib.Core.Path.{◌≡◌, refl}
use mathlib.Core.List.{[]}
use lib.Count.{count_trailing_zeros}
use lib.Ieee.{size, span, climb, odd, units, round, to_bits}
use Rattle.lexical_util.specs.Digit.{digit_byte, digit_value, digit_in, is_digit, is_radix, read_on}
use Rattle.lexical_util.specs.Examples.{failing}
use Rattle.lexical_format.specs.Format.{pairs, find_pair, pair_of, bad_byte, bad_bytes, reading_format}
use Rattle.lexical_read_float_spec.specs.Parse.{run, signed_exponent, parse_tail, after_whole, parse_unsigned, parse, shape_of}
use Rattle.lexical_read_float_spec.specs.Round.{too_large}
use Rattle.lexical_read_float_spec.specs.Read.{numerator, denominator, float_of, exponent_too_large, exponent_place, value_of, read_text, read_float}
use Rattle.lexical_read_float_spec.specs.Examples.{range_ends, reading, signs, long}

pub range_ends_hold : failing range_ends ≡ []
unfolding failing range_ends
range_ends_hold = refl

pub reading_holds : failing reading ≡ []
unfolding failing reading read_float read_text value_of exponent_too_large exponent_place float_of numerator denominator too_large shape_of parse parse_unsigned after_whole parse_tail signed_exponent run reading_format bad_bytes bad_byte pair_of find_pair pairs read_on is_radix is_digit digit_in digit_value digit_byte round units odd size span climb count_trailing_zeros to_bits
reading_holds = refl

pub signs_hold : failing signs ≡ []
unfolding failing signs read_float read_text value_of exponent_too_large exponent_place float_of numerator denominator too_large shape_of parse parse_unsigned after_whole parse_tail signed_exponent run reading_format bad_bytes bad_byte pair_of find_pair pairs read_on is_radix is_digit digit_in digit_value digit_byte round units odd size span climb count_trailing_zeros to_bits
signs_hold = refl

pub long_hold : failing long ≡ []
unfolding failing long read_float read_text value_of exponent_too_large exponent_place float_of numerator denominator too_large shape_of parse parse_unsigned after_whole parse_tail signed_exponent run reading_format bad_bytes bad_byte pair_of find_pair pairs read_on is_radix is_digit digit_in digit_value digit_byte round units odd size span climb count_trailing_zeros to_bits
long_hold = refl
