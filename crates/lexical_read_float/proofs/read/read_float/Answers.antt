-- `lexical_read_float::read::read_float` meets its contract: the check of the format, then the text, whose bits are those of the float that the definition reads. Assumes nothing.
use mathlib.Core.Path.{ap, sym, ◌∙◌}
use Rattle.std.proofs.lemmas.Result.{err_from_is_err_and}
use Rattle.lexical_float.specs.Encoding.{of_width}
use Rattle.lexical_read_float.proofs.TextLaws.{said, said_refused}
use Rattle.lexical_read_float.proofs.read.read_float.Goals as goal

pub returns-in_err-row-clause-result_value : goal.returns-in_err-row-clause-result_value
returns-in_err-row-clause-result_value g c =
    let p = err_from_is_err_and c.from_residual.result c.from_residual.ensures.1 in
    rw (p.1, p.2) (said_refused g.F.Float.format _ _ _ _ c.check_reading.ensures _ c.in_err-row.was).0

pub returns-in_err-bits : goal.returns-in_err-bits
returns-in_err-bits g c =
    let p = err_from_is_err_and c.from_residual-in_err-bits.result c.from_residual-in_err-bits.ensures.1 in
    let f = said _ _ _ _ _ c.check_reading.ensures _ c.in_ok-row.was _ c.text_bits.ensures.result_value _ c.in_err-bits.was in
    rw (g.met.F.Float.format_is ∙ ap of_width (sym c.WIDTH.ensures), p.1, p.2) (record { result_value = f.0; nearest = f.1.0; served = f.1.1 })

pub returns : goal.returns
returns g c =
    let f = said _ _ _ _ _ c.check_reading.ensures _ c.in_ok-row.was _ c.text_bits.ensures.result_value _ c.in_ok-bits.was in
    let few = rw (sym (g.met.F.Float.format_is ∙ ap of_width (sym c.WIDTH.ensures))) at c.in_ok-bits.ensures.finite.0 in
    rw (c.from_bits.ensures few, g.met.F.Float.format_is ∙ ap of_width (sym c.WIDTH.ensures)) (record { result_value = f.0; nearest = f.1.0; served = f.1.1 })
