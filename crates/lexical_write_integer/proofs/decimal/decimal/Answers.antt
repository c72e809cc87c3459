-- `lexical_write_integer::decimal::decimal` meets its contract: the digits left and the bytes stored are the whole. Assumes nothing.
use native.Mathlib.Omega.{arith}
use lib.ListN.{length-set}
use Rattle.lexical_write_integer.proofs.FillLaws.{back_step, back_end}
use Rattle.lexical_write_integer.proofs.decimal.decimal.Goals as goal

pub loop-i-preserved : goal.loop-i-preserved
loop-i-preserved c = let l = c.loop-i in (
  back_step 10 l.v _ l.buffer l.i _ (omega arith) (omega arith) c.digit_to_char.ensures l.invariant.0,
  simp length-set l.invariant.1,
  omega arith,
)

pub returns : goal.returns
returns c = let l = c.loop-i in back_end 10 l.v _ l.buffer l.i (omega arith) l.invariant.0
