-- `lexical_exponent::exponent::significant_bits` meets its contract. Assumes nothing.
use native.Mathlib.Omega.{arith}
use Rattle.lexical_exponent.proofs.ExponentLaws.{bits_are}
use Rattle.lexical_exponent.proofs.exponent.significant_bits.Goals as goal

pub returns-clause-value : goal.returns-clause-value
returns-clause-value c = (bits_are c.args.value (omega arith)).0

pub returns-clause-bounds : goal.returns-clause-bounds
returns-clause-bounds c = (bits_are c.args.value (omega arith)).1
