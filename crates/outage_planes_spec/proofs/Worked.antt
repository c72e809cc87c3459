-- The packed tables worked out by hand hold, by evaluation: a failing one's name would stand in the list. Assumes nothing.
use mathlib.Core.Path.{◌≡◌, refl}
use mathlib.Core.List.{[]}
use Rattle.lexical_util.specs.Examples.{failing}
use Rattle.outage_spec.specs.Words.{of_bytes, to_bytes}
use Rattle.outage_spec.specs.Table.{header_count, table_count}
use Rattle.outage_planes_spec.specs.Planes.{byte_of_each, bytes_of_each, by_column}
use Rattle.outage_planes_spec.specs.Calls.{packed_table, unpacked_table}
use Rattle.outage_planes_spec.specs.Examples.{planes}

pub planes_hold : failing planes ≡ []
unfolding failing planes packed_table unpacked_table table_count header_count of_bytes to_bytes by_column bytes_of_each byte_of_each
planes_hold = refl
