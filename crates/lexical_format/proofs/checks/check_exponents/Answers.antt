-- `lexical_format::checks::check_exponents` meets its contract: 16 is asked where 6 let through. Assumes nothing.
use mathlib.Core.Path.{◌≡◌, sym, ap, ◌∙◌}
use mathlib.Core.Bool.{false}
use lib.IntN.{pos, negsuc, neg_ℤ}
use Rattle.lexical_format.specs.declared.options.Options.{Options}
use Rattle.lexical_format.specs.Format.{farthest_break, or_absent, low_break, high_break, outside, bad_breaks}
use Rattle.lexical_exponent.proofs.DifferenceLaws.{read_back}
use Rattle.lexical_format.proofs.checks.check_exponents.Goals.{After-or_absent-low, After-or_absent-high, then-outside-via-then-outside, then-outside-via-else-outside+then-outside-2}
use Rattle.lexical_format.proofs.checks.check_exponents.Goals as goal

-- the breaks, none absent
low : (c : After-or_absent-low) → c.or_absent-low.result.0 ≡ low_break c.args.options
low c = c.or_absent-low.ensures ∙ ap (or_absent (negsuc 4)) (read_back c.args.options.negative_exponent_break c.struct_told-1.given.1.1.1.0.1)

high : (c : After-or_absent-high) → c.or_absent-high.result.0 ≡ high_break c.args.options
high c = c.or_absent-high.ensures ∙ ap (or_absent (pos 9)) (read_back c.args.options.positive_exponent_break c.struct_told-2-1.given.1.1.0.1)

-- 6 lets through
within : (o : Options) → outside (neg_ℤ (pos farthest_break)) (negsuc 0) (low_break o) ≡ false → outside (pos 1) (pos farthest_break) (high_break o) ≡ false → bad_breaks o ≡ false
unfolding bad_breaks
within o l h = rw (l, h)

pub returns-then-outside : goal.returns-then-outside
unfolding bad_breaks
returns-then-outside c =
    let l = low (goal.at.returns-then-outside c).After-or_absent-low in
    let h = high (goal.at.returns-then-outside c).After-or_absent-high in
    let is = c.outside.ensures ∙ ap (outside (neg_ℤ (pos farthest_break)) (negsuc 0)) l in
    elim c.then-outside.branch [
      | then-outside-via-then-outside w ↦ rw (c.at.ensures, sym is ∙ w.if-outside.true)
      | then-outside-via-else-outside+then-outside-2 w ↦ rw (c.at.ensures, sym is ∙ w.if-outside.false, sym (w.outside-else-outside.ensures ∙ ap (outside (pos 1) (pos farthest_break)) h) ∙ w.if-outside-2.true)
    ]

pub returns-then-not-is_width : goal.returns-then-not-is_width
returns-then-not-is_width c =
    let l = low (goal.at.returns-then-not-is_width c).After-or_absent-low in
    let h = high (goal.at.returns-then-not-is_width c).After-or_absent-high in
    rw (c.at-then-not-is_width.ensures, within c.args.options (rw l at (sym c.outside.ensures ∙ c.if-outside.false)) (rw h at (sym c.outside-else-outside.ensures ∙ c.if-outside-2.false)), sym c.is_width.ensures, c.if-not-is_width.true)

pub returns : goal.returns
returns c =
    let l = low (goal.at.returns c).After-or_absent-low in
    let h = high (goal.at.returns c).After-or_absent-high in
    rw (l, h, within c.args.options (rw l at (sym c.outside.ensures ∙ c.if-outside.false)) (rw h at (sym c.outside-else-outside.ensures ∙ c.if-outside-2.false)), sym c.is_width.ensures, c.if-not-is_width.false)
