-- `lexical_write_float::shared::is_scientific` meets its contract: by the two flags, then by the breaks. Assumes nothing.
use Rattle.lexical_write_float_spec.specs.Text.{is_scientific}
use mathlib.Core.Path.{refl, ◌∙◌}
use Rattle.lexical_write_float.proofs.shared.is_scientific.Goals as goal

pub returns-then-format : goal.returns-then-format
unfolding is_scientific
returns-then-format c = λ o l h. rw c.if-format.true refl

pub returns-then-format-2 : goal.returns-then-format-2
unfolding is_scientific
returns-then-format-2 c = λ o l h. rw (c.if-format.false, c.if-format-2.true) refl

pub returns : goal.returns
unfolding is_scientific
returns c = λ o l h.
    rw (c.if-format.false, c.if-format-2.false) (c.outside.ensures ∙ rw (l, h) refl)
