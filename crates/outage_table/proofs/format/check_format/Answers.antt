-- `outage_table::format::check_format` meets its contract: with any digit limit the writer's check refuses a count above 1,200. Assumes nothing.
use mathlib.Core.Path.{◌≡◌, ◌∙◌}
use mathlib.Core.Bool.{◌||◌}
use Rattle.lexical_exponent.proofs.DifferenceLaws.{read_back}
use Rattle.lexical_format.specs.Format.{bad_counts, given}
use Rattle.outage_table.proofs.FormatLaws.{limited_to, counts_none, counts_some, checked_limited}
use Rattle.outage_table.proofs.format.check_format.Goals.{then-options-eq0, else-options-eq0}
use Rattle.outage_table.proofs.format.check_format.Goals as goal

pub returns : goal.returns
returns c = let a = c.args in
    let told = c.struct_told-1.given in
    let high = read_back a.options.positive_exponent_break told.1.1.0.1 in
    let low = read_back a.options.negative_exponent_break told.1.1.1.0.1 in
    let counts : bad_counts (limited_to c.if-options-eq0.limit a.options) ≡ (bad_counts a.options || given a.options.max_significant_digits) = elim c.if-options-eq0.branch [
      | then-options-eq0 w ↦ rw w.limit-is (counts_none a.options w.if-options-eq0.true)
      | else-options-eq0 w ↦ rw w.limit-is (counts_some a.options w.if-options-eq0.false)
    ] in
    (simp (high, low) at c.check.ensures) ∙ checked_limited a.format a.options c.if-options-eq0.limit counts
