-- `lexical_float::order::less_f64` meets its contract: a NaN has no bits, and any two other floats are ordered as their bits are. Assumes nothing.
use mathlib.Core.Path.{sym, subst}
use lib.Dec.{T}
use lib.Ieee.{binary64, fits}
use lib.Ieee.Bits.{to_bits-lt}
use Rattle.lexical_float.proofs.PartsLaws.{no_nan}
use Rattle.lexical_float.proofs.OrderLaws.{number_bits, less_floats, nan_left, nan_right}
use Rattle.lexical_float.proofs.order.less_f64.Goals.{Start}
use Rattle.lexical_float.proofs.order.less_f64.Goals as goal

held_x : (c : Start) → T (fits binary64 c.args.x)
held_x c = subst T (sym c.well_formed.0.1) tt

held_y : (c : Start) → T (fits binary64 c.args.y)
held_y c = subst T (sym c.well_formed.1.0.1) tt

pub returns-then-x : goal.returns-then-x
returns-then-x c = nan_left c.args.x c.args.y c.if-x.true

pub returns-then-y : goal.returns-then-y
returns-then-y c = nan_right c.args.x c.args.y c.if-y.true

pub float_to_bits-x : goal.float_to_bits-x
float_to_bits-x c = no_nan c.args.x c.if-x.false

pub float_to_bits-y : goal.float_to_bits-y
float_to_bits-y c = no_nan c.args.y c.if-y.false

pub less_bits-requires : goal.less_bits-requires
less_bits-requires c = (
  to_bits-lt binary64 c.args.x (held_x (goal.at.less_bits-requires c).Start),
  to_bits-lt binary64 c.args.y (held_y (goal.at.less_bits-requires c).Start),
  number_bits binary64 c.args.x (held_x (goal.at.less_bits-requires c).Start) c.if-x.false,
  number_bits binary64 c.args.y (held_y (goal.at.less_bits-requires c).Start) c.if-y.false,
)

pub returns : goal.returns
returns c = less_floats binary64 c.args.x c.args.y _ (held_x (goal.at.returns c).Start) (held_y (goal.at.returns c).Start) c.less_bits.ensures
