-- `lexical_write_integer::front::last_pair` meets its contract: the mask keeps the remainder. Assumes nothing.
use Prim.Native.Nat.{◌+◌}
use native.Mathlib.Omega.{arith}
use Rattle.lexical_write_integer.proofs.FillLaws.{mask_is, masked}
use Rattle.lexical_write_integer.proofs.front.last_pair.Goals as goal

pub returns : goal.returns
returns c = let b = c.args.b + c.args.b in masked b c.args.value _ (mask_is b (omega arith))
