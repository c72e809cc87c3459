-- `lexical_read_float::scan::scan_exponent_digits` meets its contract: no digit, a byte behind the digits, or nothing behind them. Assumes nothing.
use mathlib.Core.Path.{sym, ◌∙◌}
use native.Mathlib.Omega.{arith}
use Rattle.lexical_read_float.proofs.ScanLaws.{digits_none, digits_more, digits_all}
use Rattle.lexical_read_float.proofs.scan.scan_exponent_digits.Goals as goal

pub returns-then-end-from : goal.returns-then-end-from
returns-then-end-from c = λ s e. digits_none _ _ s _ (omega arith) (sym c.exponent_digits-digits.ensures.0 ∙ c.if-end-from.true)

pub returns-then-end-text : goal.returns-then-end-text
returns-then-end-text c = λ s e. digits_more _ _ s _ _ c.exponent_digits-digits.ensures.0 c.if-end-from.false c.if-end-text.true

pub returns : goal.returns
returns c = λ s e. let d = c.exponent_digits-digits.ensures in digits_all _ _ s _ _ d.0 c.if-end-from.false (omega arith) _ _ e d.1
