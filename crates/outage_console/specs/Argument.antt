-- A format as a program's argument, RADIX/BASE/EXPONENT-RADIX: 16/2/10 is that of document 01's program. Definitions only.
use Rattle.std.specs.Prelude.{ℕ, ◌+◌, List, length, drop, Option, None, Some}
use Rattle.lexical_util.specs.Answer.{Answer, done, refused}
use Rattle.lexical_format.specs.declared.format.Pair.{Pair}
use Rattle.lexical_format.specs.Format.{writing_format}
use Rattle.lexical_rewrite_spec.specs.declared.text_format.TextFormat.{TextFormat}
use Rattle.outage_spec.specs.Sheet.{before, number_in}
use Rattle.outage_spec.specs.Format.{sheet_in}

-- a format that the writer admits
abbrev pub if_admitted : TextFormat → Answer Pair → Option TextFormat
if_admitted F (done row) = Some F
if_admitted F (refused n p) = None

abbrev pub admitted : TextFormat → Option TextFormat
admitted F = if_admitted F (writing_format F.format F.options)

-- three numbers, none of which a radix is above
abbrev pub of_numbers : Option ℕ → Option ℕ → Option ℕ → Option TextFormat
of_numbers None base power = None
of_numbers (Some radix) None power = None
of_numbers (Some radix) (Some base) None = None
of_numbers (Some radix) (Some base) (Some power) = admitted (sheet_in radix base power)

-- with "/" between them: what is missing is no number
unfoldable pub format_named : List ℕ → Option TextFormat
format_named text =
    let radix = before 47 text in
    let rest = drop (length radix + 1) text in
    let base = before 47 rest in
    let power = drop (length base + 1) rest in
    of_numbers (number_in 32 radix) (number_in 32 base) (number_in 32 power)
