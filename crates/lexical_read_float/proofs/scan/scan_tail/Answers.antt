-- `lexical_read_float::scan::scan_tail` meets its contract: nothing, no mark, or a mark. Assumes nothing.
use mathlib.Core.Path.{sym, ap, ◌∙◌}
use native.Mathlib.Omega.{arith}
use Rattle.lexical_read_float.proofs.ScanLaws.{tail_absent, tail_wrong, tail_marked}
use Rattle.lexical_read_float.specs.Scan.{grammar, scanned_tail}
use Rattle.lexical_read_float.proofs.scan.scan_tail.Goals as goal

pub returns-then-from-text : goal.returns-then-from-text
returns-then-from-text c = λ r p. tail_absent _ (grammar r _ p _) _ c.if-from-text.true

pub returns-then-text-from : goal.returns-then-text-from
returns-then-text-from c = λ r p. let a = c.args in tail_wrong a.text.now (grammar r a.radix p a.mark) a.from (omega arith) c.if-text-from.true

pub returns : goal.returns
returns c = λ r p. let a = c.args in c.scan_exponent.ensures ∙ ap (scanned_tail a.text.now a.radix) (sym (tail_marked a.text.now (grammar r a.radix p a.mark) a.from (omega arith) c.if-text-from.false))
