-- `lexical_read_float::scan::scan_exponent` meets its contract: one law for each sign. Assumes nothing.
use Prim.Native.Nat.{◌+◌}
use mathlib.Core.Path.{refl, sym, ap, ◌∙◌}
use native.Mathlib.Omega.{arith}
use Rattle.lexical_read_float_spec.specs.Shape.{unsigned, plus, minus}
use Rattle.lexical_read_float.specs.Scan.{scanned_tail}
use Rattle.lexical_read_float.proofs.ScanLaws.{sign_missing, sign_plus, sign_minus, sign_none}
use Rattle.lexical_read_float.proofs.scan.scan_exponent.Goals as goal

pub returns-then-next-text : goal.returns-then-next-text
returns-then-next-text c = sign_missing _ _ _ c.if-next-text.true

pub returns-then-byte-eq43 : goal.returns-then-byte-eq43
returns-then-byte-eq43 c = let a = c.args in c.scan_exponent_digits.ensures plus refl ∙ ap (scanned_tail a.text.now a.radix) (sym (sign_plus a.text.now a.radix (a.at + 1) (omega arith) c.if-byte-eq43.true))

pub returns-then-byte-eq45 : goal.returns-then-byte-eq45
returns-then-byte-eq45 c = let a = c.args in c.scan_exponent_digits-then-byte-eq45.ensures minus refl ∙ ap (scanned_tail a.text.now a.radix) (sym (sign_minus a.text.now a.radix (a.at + 1) (omega arith) c.if-byte-eq45.true))

pub returns : goal.returns
returns c = let a = c.args in c.scan_exponent_digits-2.ensures unsigned refl ∙ ap (scanned_tail a.text.now a.radix) (sym (sign_none a.text.now a.radix (a.at + 1) (omega arith) c.if-byte-eq43.false c.if-byte-eq45.false))
