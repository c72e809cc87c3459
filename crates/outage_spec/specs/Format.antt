-- The format of a program's sheets: document 01, "16/2, exponent radix 10, mark "p", exponent required, all else absent or default"; and the same in another pair or exponent radix. Definitions only.
use Rattle.std.specs.Prelude.{ℕ, true, false, pos}
use Rattle.lexical_format.specs.declared.options.RoundMode.TheVariants.{Round}
use Rattle.lexical_rewrite_spec.specs.declared.text_format.TextFormat.{TextFormat}

-- point ".", mark "p", exponents in width 1
abbrev pub sheet_in : ℕ → ℕ → ℕ → TextFormat
sheet_in radix base exponent_radix = record {
  format = record {
    mantissa_radix = radix;
    exponent_base = base;
    exponent_radix = exponent_radix;
    required_exponent_notation = true;
    no_exponent_notation = false;
    required_exponent_sign = false;
    no_exponent_without_fraction = false;
  };
  options = record {
    max_significant_digits = 0;
    min_significant_digits = 0;
    positive_exponent_break = pos 0;
    negative_exponent_break = pos 0;
    exponent_width = 1;
    round_mode = Round;
    trim_floats = false;
    exponent = 112;
    decimal_point = 46;
  };
}

abbrev pub printed : TextFormat
printed = sheet_in 16 2 10
