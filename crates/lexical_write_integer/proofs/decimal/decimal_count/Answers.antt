-- `lexical_write_integer::decimal::decimal_count` meets its contract: the digits counted and those left are one more than all. Assumes nothing.
use native.Mathlib.Omega.{arith}
use Rattle.lexical_write_integer_spec.proofs.DigitsLaws.{count_lt, count_ge}
use Rattle.lexical_write_integer.proofs.decimal.decimal_count.Goals as goal

pub loop-v-preserved : goal.loop-v-preserved
loop-v-preserved c = omega (arith, count_ge 10 c.loop-v.v (omega arith) (omega arith))

pub returns : goal.returns
returns c = omega (arith, count_lt 10 c.loop-v.v (omega arith))
