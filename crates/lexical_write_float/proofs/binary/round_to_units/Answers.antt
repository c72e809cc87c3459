-- `lexical_write_float::binary::round_to_units` meets its contract: its tests tell how a rest compares with half a unit. Assumes nothing.
use native.Mathlib.Omega.{arith}
use Rattle.lexical_write_float_spec.proofs.LimitLaws.{rounds_down, rounds_tie, rounds_up}
use Rattle.lexical_write_float.proofs.StoredLaws.{unit_is, rest_is}
use Rattle.lexical_write_float.proofs.binary.round_to_units.Goals as goal

pub returns-then-twice-unit : goal.returns-then-twice-unit
returns-then-twice-unit c = let a = c.args in
    rounds_down a.mode a.mantissa _ c.in-Round.is (omega (arith, unit_is a.mantissa a.cut (omega arith), rest_is a.mantissa a.cut (omega arith)))

pub returns-then-twice-unit-2 : goal.returns-then-twice-unit-2
returns-then-twice-unit-2 c = let a = c.args in
    rounds_tie a.mode a.mantissa _ c.in-Round.is (omega (arith, unit_is a.mantissa a.cut (omega arith), rest_is a.mantissa a.cut (omega arith)))

pub returns-else-twice-unit-2 : goal.returns-else-twice-unit-2
returns-else-twice-unit-2 c = let a = c.args in
    rounds_up a.mode a.mantissa _ c.in-Round.is (omega (arith, unit_is a.mantissa a.cut (omega arith), rest_is a.mantissa a.cut (omega arith)))
