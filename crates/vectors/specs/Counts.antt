-- A list's counts. Assumes nothing.
use Rattle.std.specs.Prelude.{◌≤◌}
use Rattle.vectors.specs.declared.tally.Tally.{Tally}

-- lines that agree and malformed lines are lines
pub record Counts (t : Tally) : Type 0 where
  pub agreeing : t.agree ≤ t.lines
  pub malformed : t.malformed ≤ t.lines
