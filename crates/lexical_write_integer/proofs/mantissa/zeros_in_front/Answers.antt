-- `lexical_write_integer::mantissa::zeros_in_front` meets its contract: a digit that no u64 reaches is 0. Assumes nothing.
use native.Mathlib.Omega.{arith}
use lib.ListN.{length-set}
use Rattle.lexical_write_integer_spec.proofs.FrontLaws.{grows_more}
use Rattle.lexical_write_integer.proofs.StepLaws.{zero_stored}
use Rattle.lexical_write_integer.proofs.mantissa.zeros_in_front.Goals as goal

pub loop-at-preserved : goal.loop-at-preserved
loop-at-preserved c = let l = c.loop-at in
    let a = c.args in (
      (λ value h. grows_more (l.invariant.0 value h) (zero_stored a.b value a.count l.at l.buffer (omega arith) h (omega (arith, l.invariant.3)) (omega (arith, l.invariant.1))).1),
      simp length-set l.invariant.1,
      omega arith,
      l.invariant.3,
    )
