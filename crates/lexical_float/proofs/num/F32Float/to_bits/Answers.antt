-- `to_bits` of `f32` meets the contract of the trait `lexical_float::num::Float`: 32 bits are no more than 64. Assumes nothing.
use mathlib.Core.Path.{sym, subst}
use native.Mathlib.Omega.{arith}
use lib.Dec.{T}
use lib.Ieee.{binary32, fits}
use lib.Ieee.Bits.{to_bits-lt}
use Rattle.lexical_float.proofs.num.F32Float.to_bits.Goals as goal

pub overflow_cast-result : goal.overflow_cast-result
overflow_cast-result c = let held : T (fits binary32 c.args.self) = subst T (sym c.well_formed.0.1) tt in omega (arith, to_bits-lt binary32 c.args.self held)
