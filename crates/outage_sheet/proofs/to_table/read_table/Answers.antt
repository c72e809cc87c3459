-- `outage_sheet::to_table::read_table` meets its contract: the rows read make the table, which is copied. Assumes nothing.
use Prim.Native.Nat.{ℕ}
use mathlib.Core.Path.{◌≡◌, sym, ap, ◌∙◌}
use mathlib.Core.List.{List}
use native.Mathlib.Omega.{arith}
use lib.ListN.{drop, replicate, length-replicate}
use Rattle.lexical_util.specs.Answer.{Answer, done, of_result}
use Rattle.outage_spec.specs.declared.window.Window.{Window}
use Rattle.outage_spec.specs.Table.{table_size, most_windows}
use Rattle.outage_spec.specs.Sheet.{lines_from}
use Rattle.outage_spec.proofs.StoredLaws.{lines_counted}
use Rattle.outage_sheet.proofs.FillLaws.{size_of, table_read}
use Rattle.outage_sheet.proofs.to_table.read_table.Goals.{After-read_rows, In_ok-size}
use Rattle.outage_sheet.proofs.to_table.read_table.Goals as goal

-- the rows of the sheet
abbrev rows : After-read_rows → Answer (List Window)
rows r = let a = r.before.before.before.before.before.before.before.args in lines_from a.format a.options a.n a.from (drop a.from a.sheet.now)

-- what came of reading them
read : (k : In_ok-size) → done k.in_ok-size.size ≡ size_of k.args.n (let a = k.before.before.before.before.before.before.before.args in lines_from a.format a.options a.n a.from (drop a.from a.sheet.now))
read k = ap of_result (sym k.in_ok-size.was) ∙ k.read_rows.ensures.result_value

pub returns : goal.returns
returns c = let a = c.args in
    let f = table_read a.n (replicate {A = ℕ} (table_size most_windows) 0) a.table.now (omega (arith, length-replicate {A = ℕ} (table_size most_windows) 0)) (omega arith) (rows (goal.at.returns c).After-read_rows)
    (lines_counted a.format a.options a.n a.from (drop a.from a.sheet.now))
    c.in_ok-size.size (read (goal.at.returns c).In_ok-size) _ _ c.put_header.ensures c.read_rows.ensures.filled_table _ _ (c.put_bytes.ensures.value, c.put_bytes.ensures.buffer_after) in
    record { result_value = f.0; table_after = f.1 }
