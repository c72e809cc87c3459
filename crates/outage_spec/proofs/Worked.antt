-- The tables and sheets worked out by hand hold, by evaluation: a failing one's name would stand in the list. Assumes nothing.
use mathlib.Core.Path.{◌≡◌, refl}
use mathlib.Core.List.{[]}
use lib.Count.{count_trailing_zeros}
use lib.Ieee.{size, span, climb, odd, units, round, of_bits, of_fields, to_bits, lt}
use Rattle.lexical_util.specs.Digit.{digit_byte, digit_value, digit_in, is_digit, is_radix, is_width, read_on}
use Rattle.lexical_util.specs.Examples.{failing}
use Rattle.lexical_write_integer_spec.specs.Digits.{digits_up_to, digits, widened, numeral}
use Rattle.lexical_format.specs.Format.{pairs, find_pair, pair_of, bad_byte, bad_bytes, bad_counts, bad_breaks, reading_format, writing_format}
use Rattle.lexical_write_float_spec.specs.Value.{normal, exact_digits}
use Rattle.lexical_write_float_spec.specs.Limit.{multiple_of, limited}
use Rattle.lexical_write_float_spec.specs.Text.{is_scientific, layout_of, scientific, exponent_text, negative, positive, text}
use Rattle.lexical_write_float_spec.specs.Write.{limited_text, float_text, write_text}
use Rattle.lexical_read_float_spec.specs.Parse.{run, signed_exponent, parse_tail, after_whole, parse_unsigned, parse, shape_of}
use Rattle.lexical_read_float_spec.specs.Round.{too_large}
use Rattle.lexical_read_float_spec.specs.Read.{numerator, denominator, float_of, exponent_too_large, exponent_place, value_of, read_text, read_float}
use Rattle.outage_spec.specs.Words.{of_bytes, to_bytes}
use Rattle.outage_spec.specs.Table.{column_bytes, table_of, table_count, rows_from, table_windows}
use Rattle.outage_spec.specs.Sheet.{before, number_in, rows_text, sheet_of, sheet_count, fields_window, line_window, row_in, lines_from}
use Rattle.outage_spec.specs.Calls.{sheet_format, table_sheet, counted_table, sheet_table}
use Rattle.outage_spec.specs.Examples.{tables, sheets}

pub tables_hold : failing tables ≡ []
unfolding failing tables table_sheet sheet_format table_windows table_count rows_from sheet_of rows_text of_bytes to_bytes of_bits of_fields to_bits lt write_text float_text limited_text text positive negative exponent_text scientific layout_of is_scientific limited multiple_of exact_digits normal writing_format bad_breaks bad_counts bad_bytes bad_byte pair_of find_pair pairs numeral widened digits digits_up_to is_width is_radix is_digit digit_in digit_value digit_byte odd size span climb count_trailing_zeros
tables_hold = refl

pub sheets_hold : failing sheets ≡ []
unfolding failing sheets sheet_table counted_table sheet_count number_in digits digits_up_to before lines_from row_in line_window fields_window table_of column_bytes to_bytes to_bits lt read_float read_text value_of exponent_too_large exponent_place float_of numerator denominator too_large shape_of parse parse_unsigned after_whole parse_tail signed_exponent run reading_format read_on bad_bytes bad_byte pair_of find_pair pairs is_radix is_digit digit_in digit_value round units odd size span climb
sheets_hold = refl
