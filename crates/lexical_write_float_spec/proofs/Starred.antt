-- The documents' examples hold, by evaluation: a failing one's name would stand in the list. Assumes nothing.
use mathlib.Core.Path.{◌≡◌, refl}
use mathlib.Core.List.{[]}
use lib.Count.{count_trailing_zeros}
use lib.Ieee.{size, span, climb, odd, units, round}
use Rattle.lexical_util.specs.Digit.{digit_byte, digit_value, digit_in, is_digit, is_radix, is_width}
use Rattle.lexical_util.specs.Examples.{failing}
use Rattle.lexical_write_integer_spec.specs.Digits.{digits_up_to, digits, widened, numeral}
use Rattle.lexical_format.specs.Format.{pairs, find_pair, pair_of, bad_byte, bad_bytes, bad_counts, bad_breaks, writing_format}
use Rattle.lexical_write_float_spec.specs.Value.{normal, exact_digits}
use Rattle.lexical_write_float_spec.specs.Limit.{multiple_of, limited}
use Rattle.lexical_write_float_spec.specs.Text.{is_scientific, layout_of, scientific, exponent_text, negative, positive, text}
use Rattle.lexical_write_float_spec.specs.Write.{limited_text, float_text, write_text}
use Rattle.lexical_write_float_spec.specs.Examples.{starred, unstarred, further, widths, signs, longest}

pub starred_hold : failing starred ≡ []
unfolding failing starred write_text float_text limited_text text positive negative exponent_text scientific layout_of is_scientific limited multiple_of exact_digits normal writing_format bad_breaks bad_counts bad_bytes bad_byte pair_of find_pair pairs numeral widened digits digits_up_to is_width is_radix is_digit digit_in digit_value digit_byte round units odd size span climb count_trailing_zeros
starred_hold = refl

pub unstarred_hold : failing unstarred ≡ []
unfolding failing unstarred write_text float_text limited_text text positive negative exponent_text scientific layout_of is_scientific limited multiple_of exact_digits normal writing_format bad_breaks bad_counts bad_bytes bad_byte pair_of find_pair pairs numeral widened digits digits_up_to is_width is_radix is_digit digit_in digit_value digit_byte round units odd size span climb count_trailing_zeros
unstarred_hold = refl

pub further_hold : failing further ≡ []
unfolding failing further write_text float_text limited_text text positive negative exponent_text scientific layout_of is_scientific limited multiple_of exact_digits normal writing_format bad_breaks bad_counts bad_bytes bad_byte pair_of find_pair pairs numeral widened digits digits_up_to is_width is_radix is_digit digit_in digit_value digit_byte round units odd size span climb count_trailing_zeros
further_hold = refl

pub widths_hold : failing widths ≡ []
unfolding failing widths write_text float_text limited_text text positive negative exponent_text scientific layout_of is_scientific limited multiple_of exact_digits normal writing_format bad_breaks bad_counts bad_bytes bad_byte pair_of find_pair pairs numeral widened digits digits_up_to is_width is_radix is_digit digit_in digit_value digit_byte round units odd size span climb count_trailing_zeros
widths_hold = refl

pub signs_hold : failing signs ≡ []
unfolding failing signs write_text float_text limited_text text positive negative exponent_text scientific layout_of is_scientific limited multiple_of exact_digits normal writing_format bad_breaks bad_counts bad_bytes bad_byte pair_of find_pair pairs numeral widened digits digits_up_to is_width is_radix is_digit digit_in digit_value digit_byte round units odd size span climb count_trailing_zeros
signs_hold = refl

pub longest_hold : failing longest ≡ []
unfolding failing longest write_text float_text limited_text text positive negative exponent_text scientific layout_of is_scientific limited multiple_of exact_digits normal writing_format bad_breaks bad_counts bad_bytes bad_byte pair_of find_pair pairs numeral widened digits digits_up_to is_width is_radix is_digit digit_in digit_value digit_byte round units odd size span climb count_trailing_zeros
longest_hold = refl
