-- `lexical_read_float::scan::scan` meets its contract: no digit in front, or a mantissa and what stands behind it. Assumes nothing.
use Rattle.std.proofs.lemmas.Result.{err_from_is_err_and}
use Rattle.lexical_read_float_spec.specs.Shape.{Grammar}
use Rattle.lexical_read_float.specs.Scan.{grammar}
use Rattle.lexical_read_float.proofs.ScanLaws.{text_empty, text_mantissa}
use Rattle.lexical_read_float.proofs.scan.scan.Goals.{Start}
use Rattle.lexical_read_float.proofs.scan.scan.Goals as goal

abbrev grammar_in : Start → Grammar
grammar_in c = grammar c.args.radix c.args.exponent_radix c.args.point c.args.mark

pub returns-then-end-sign-clause-value : goal.returns-then-end-sign-clause-value
returns-then-end-sign-clause-value c = text_empty c.args.text.now c.args.b (grammar_in (goal.at.returns-then-end-sign-clause-value c).Start) _ _ c.stands_at-negative.ensures c.minus_length-sign.ensures _ c.mantissa_digits-whole.ensures.0 c.if-end-sign.true

pub returns-in_err-exponent-clause-value : goal.returns-in_err-exponent-clause-value
returns-in_err-exponent-clause-value c =
    let p = err_from_is_err_and c.from_residual.result c.from_residual.ensures.1 in
    rw (p.1, p.2) (text_mantissa c.args.text.now c.args.b (grammar_in (goal.at.returns-in_err-exponent-clause-value c).Start) _ _ c.stands_at-negative.ensures c.minus_length-sign.ensures _ c.mantissa_digits-whole.ensures.0 _ c.if-end-sign.false c.mantissa_digits-whole.ensures.1 c.with_fraction-mantissa.result _ (c.in_err-exponent.ensures c.args.radix c.args.point) c.mantissa_digits-whole.ensures.3 c.with_fraction-mantissa.ensures.value)

pub returns-clause-value : goal.returns-clause-value
returns-clause-value c = text_mantissa c.args.text.now c.args.b (grammar_in (goal.at.returns-clause-value c).Start) _ _ c.stands_at-negative.ensures c.minus_length-sign.ensures _ c.mantissa_digits-whole.ensures.0 _ c.if-end-sign.false c.mantissa_digits-whole.ensures.1 c.with_fraction-mantissa.result _ (c.in_ok-exponent.ensures c.args.radix c.args.point) c.mantissa_digits-whole.ensures.3 c.with_fraction-mantissa.ensures.value
