-- `outage_table::table::Table::row` meets its contract: bits that are no finite float's are refused before a float is made of them, and the window of two others is checked. Assumes nothing.
use mathlib.Core.Path.{sym, ◌∙◌}
use Rattle.outage_table.proofs.TableLaws.{finite_bits}
use Rattle.outage_table.proofs.table.Table.row.Goals as goal

pub float_from_bits-window : goal.float_from_bits-window
float_from_bits-window c = finite_bits _ (sym c.is_special.ensures ∙ c.if-is_special.false)

pub float_from_bits-window-2 : goal.float_from_bits-window-2
float_from_bits-window-2 c = finite_bits _ (sym c.is_special-2.ensures ∙ c.if-is_special-2.false)
