-- What the structs for C and Rust stand for. No enum crosses: the round mode is a flag, and an answer is a struct of numbers. Definitions only.
use Rattle.std.specs.Prelude.{ℕ, Bool, true, false, pos, Float}
use Rattle.std.specs.Float.{fin}
use Rattle.lexical_util.specs.Answer as called
use Rattle.lexical_format.specs.declared.format.NumberFormat.{NumberFormat}
use Rattle.lexical_format.specs.declared.options.Options.{Options}
use Rattle.lexical_format.specs.declared.options.RoundMode.{RoundMode}
use Rattle.lexical_format.specs.declared.options.RoundMode.TheVariants.{Round, Truncate}
use Rattle.lexical_rewrite_spec.specs.declared.text_format.TextFormat.{TextFormat}
use Rattle.lexical_rewrite_spec.specs.Chain.{Chained, arrived, reading_refused_at, writing_refused_at}
use Rattle.export_structs.specs.declared.answer.Answer.{Answer}
use Rattle.export_structs.specs.declared.answer.AnswerF64.{AnswerF64}
use Rattle.export_structs.specs.declared.answer.AnswerF32.{AnswerF32}
use Rattle.export_structs.specs.declared.answer.StationAnswer.{StationAnswer}
use Rattle.export_structs.specs.declared.format.Format.{Format}

-- radix, base, exponent radix and flags
abbrev pub number_format_of : Format → NumberFormat
number_format_of f =
    record {
      mantissa_radix = f.mantissa_radix;
      exponent_base = f.exponent_base;
      exponent_radix = f.exponent_radix;
      required_exponent_notation = f.required_exponent_notation;
      no_exponent_notation = f.no_exponent_notation;
      required_exponent_sign = f.required_exponent_sign;
      no_exponent_without_fraction = f.no_exponent_without_fraction;
    }

-- the round mode is Round unless the flag says Truncate
abbrev pub mode_of : Bool → RoundMode
mode_of true = Truncate
mode_of false = Round

abbrev pub options_of : Format → Options
options_of f =
    record {
      max_significant_digits = f.max_significant_digits;
      min_significant_digits = f.min_significant_digits;
      positive_exponent_break = f.positive_exponent_break;
      negative_exponent_break = f.negative_exponent_break;
      exponent_width = f.exponent_width;
      round_mode = mode_of f.truncate;
      trim_floats = f.trim_floats;
      exponent = f.exponent;
      decimal_point = f.decimal_point;
    }

abbrev pub text_format_of : Format → TextFormat
text_format_of f = record { format = number_format_of f; options = options_of f }

-- a length with number and place 0, or a refusal's number and place with value 0
abbrev pub answer_of : called.Answer ℕ → Answer
answer_of (called.done n) = record { number = 0; place = 0; value = n }
answer_of (called.refused n p) = record { number = n; place = p; value = 0 }

-- what stands in a float's place where none was read
abbrev pub zero_float : Float
zero_float = fin false 0 (pos 0)

-- a float with number and place 0, or a refusal's number and place with value 0
abbrev pub answer_f64_of : called.Answer Float → AnswerF64
answer_f64_of (called.done x) = record { number = 0; place = 0; value = x }
answer_f64_of (called.refused n p) = record { number = n; place = p; value = zero_float }

abbrev pub answer_f32_of : called.Answer Float → AnswerF32
answer_f32_of (called.done x) = record { number = 0; place = 0; value = x }
answer_f32_of (called.refused n p) = record { number = n; place = p; value = zero_float }

-- the last text's length and all else 0, or a refusal's number and place, its station, and whether the writing refused
abbrev pub station_answer_of : Chained → StationAnswer
station_answer_of (arrived n) = record { number = 0; writing = false; station = 0; place = 0; value = n }
station_answer_of (reading_refused_at i n p) = record { number = n; writing = false; station = i; place = p; value = 0 }
station_answer_of (writing_refused_at i n p) = record { number = n; writing = true; station = i; place = p; value = 0 }
