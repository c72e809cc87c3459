-- `lexical_read_float::round::to_nearest` meets its contract, case by case. Assumes nothing.
use Rattle.lexical_read_float.proofs.RoundLaws.{nearest_down, nearest_even, nearest_up}
use Rattle.lexical_read_float.proofs.round.to_nearest.Goals as goal

pub returns-then-bits-eq0-clause-value : goal.returns-then-bits-eq0-clause-value
returns-then-bits-eq0-clause-value c = nearest_down _ _ c.if-bits-eq0.true

pub returns-then-clear-clause-value : goal.returns-then-clear-clause-value
returns-then-clear-clause-value c = nearest_even _ _ c.if-bits-eq0.false c.if-clear.true

pub returns-clause-value : goal.returns-clause-value
returns-clause-value c = nearest_up _ _ c.if-bits-eq0.false c.if-clear.false
