-- `lexical_write_float::shared::choose_layout` meets its contract: scientific, else by the sign of s. Assumes nothing.
use Rattle.lexical_write_float_spec.specs.Text.{layout_of}
use mathlib.Core.Path.{refl, sym, ◌∙◌}
use Rattle.lexical_write_float.proofs.shared.choose_layout.Goals as goal

pub returns-then-is_scientific : goal.returns-then-is_scientific
unfolding layout_of
returns-then-is_scientific c = λ o l h. rw (sym (c.is_scientific.ensures o l h), c.if-is_scientific.true) refl

pub returns-then-is_below : goal.returns-then-is_below
unfolding layout_of
returns-then-is_below c = λ o l h.
    rw (sym (c.is_scientific.ensures o l h), c.if-is_scientific.false, sym c.is_below.ensures ∙ c.if-is_below.true) refl

pub returns : goal.returns
unfolding layout_of
returns c = λ o l h.
    rw (sym (c.is_scientific.ensures o l h), c.if-is_scientific.false, sym c.is_below.ensures ∙ c.if-is_below.false) refl
