-- `lexical_format::format::find_pair` meets its contract: the search of the rows from i on answers what the search of all of them does. Assumes nothing.
use mathlib.Core.Path.{◌≡◌}
use lib.ListN.{drop}
use Rattle.lexical_format.specs.Format.{pairs, find_pair}
use Rattle.lexical_format.proofs.format.find_pair.Given as goal

abbrev pub invariant-loop-row : goal.invariant-loop-row
invariant-loop-row l = find_pair l.radix l.base pairs ≡ find_pair l.radix l.base (drop l.row-index pairs)
