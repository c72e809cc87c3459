-- `outage_sheet::to_table::read_counted` meets its contract: the count line, room for the table, then the rows. Assumes nothing.
use Prim.Native.Nat.{ℕ, ◌+◌, ◌≤◌}
use mathlib.Core.Path.{◌≡◌, sym, ap}
use Rattle.std.specs.Prelude.{None, Some}
use native.Mathlib.Omega.{arith}
use lib.ListN.{length, take}
use Rattle.lexical_util.specs.Answer.{done}
use Rattle.outage_spec.specs.Sheet.{sheet_count}
use Rattle.outage_spec.proofs.NumberLaws.{number_le}
use Rattle.outage_sheet.proofs.SheetLaws.{count_open, count_read, no_count, no_room, from_rows, refused_so, answered_so}
use Rattle.outage_spec.specs.Table.{most_windows}
use Rattle.outage_sheet.proofs.to_table.read_counted.Goals.{In-Some}
use Rattle.outage_sheet.proofs.to_table.read_counted.Goals as goal

count_is : (k : In-Some) → sheet_count k.args.sheet.now ≡ done k.in-Some.count
count_is k = count_read k.args.sheet.now k.find-newline.result k.find-newline.ensures.value k.if-newline-sheet.false (Some k.in-Some.count) k.in-Some.ensures

few : (k : In-Some) → k.in-Some.count ≤ most_windows
few k = number_le most_windows (take k.find-newline.result k.args.sheet.now) k.in-Some.count (sym k.in-Some.ensures)

pub returns-then-newline-sheet : goal.returns-then-newline-sheet
returns-then-newline-sheet c = let a = c.args in
    let f = refused_so _ a.table.now 15 0 (no_count a.format a.options a.sheet.now (length a.table.now) (count_open a.sheet.now (omega (arith, c.find-newline.ensures.value)))) in
    record { result_value = rw c.at.ensures f.0; table_after = f.1 }

pub returns-in_default : goal.returns-in_default
returns-in_default c = let a = c.args in
    let f = c.find-newline in
    let e = count_read a.sheet.now f.result f.ensures.value c.if-newline-sheet.false None c.in_default.ensures in
    let f = refused_so _ a.table.now 15 0 (no_count a.format a.options a.sheet.now (length a.table.now) e) in
    record { result_value = rw c.at-in_default.ensures f.0; table_after = f.1 }

pub returns-then-table-n : goal.returns-then-table-n
returns-then-table-n c = let a = c.args in
    let f = refused_so _ a.table.now 8 0 (no_room a.format a.options a.sheet.now (length a.table.now) c.in-Some.count (count_is (goal.at.returns-then-table-n c).In-Some) (omega arith)) in
    record { result_value = rw c.at-then-table-n.ensures f.0; table_after = f.1 }

pub read_table-requires : goal.read_table-requires
read_table-requires c = let f = c.find-newline in
    (omega (arith, f.ensures.within, c.if-newline-sheet.false), few (goal.at.read_table-requires c).In-Some, omega arith)

pub returns : goal.returns
returns c = let a = c.args in
    let f = c.find-newline in
    let e = from_rows a.format a.options a.sheet.now (length a.table.now) c.in-Some.count (count_is (goal.at.returns c).In-Some) (omega arith) (f.result + 1) (ap (λ (i : ℕ). i + 1) f.ensures.value) in
    let f = answered_so _ a.table.now _ e _ _ (c.read_table.ensures.result_value, c.read_table.ensures.table_after) in
    record { result_value = f.0; table_after = f.1 }
