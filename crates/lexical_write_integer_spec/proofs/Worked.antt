-- The examples of filling from the front hold, by evaluation: a failing one's name would stand in the list. Assumes nothing.
use mathlib.Core.Path.{◌≡◌, refl}
use mathlib.Core.List.{[]}
use Rattle.lexical_util.specs.Digit.{is_radix, is_width, digit_byte}
use Rattle.lexical_util.specs.Examples.{failing}
use Rattle.lexical_write_integer_spec.specs.Digits.{digits_up_to, digits, widened, numeral}
use Rattle.lexical_write_integer_spec.specs.Front.{begun, step_length, steps_text}
use Rattle.lexical_write_integer_spec.specs.Examples.{from_the_front}

pub steps_hold : failing from_the_front ≡ []
unfolding failing from_the_front steps_text begun step_length numeral widened digits digits_up_to digit_byte is_radix is_width
steps_hold = refl
