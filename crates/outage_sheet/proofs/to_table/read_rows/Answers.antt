-- `outage_sheet::to_table::read_rows` meets its contract. The loop's invariant: what is left, with the table so far, makes all of it. Assumes nothing.
use Rattle.lexical_util.specs.Reason.{reason_number}
use Prim.Native.Nat.{ℕ, ◌+◌, ◌-◌, ◌≤◌, ◌<◌}
use mathlib.Core.Path.{◌≡◌, refl}
use mathlib.Core.List.{List}
use native.Mathlib.Omega.{arith}
use lib.ListN.{length, drop}
use Rattle.lexical_util.specs.Answer.{done, refused}
use Rattle.outage_spec.specs.Sheet.{before, row_in}
use Rattle.outage_sheet.specs.Fill.{Stored, put_window}
use Rattle.outage_sheet.proofs.RowLaws.{Within, end_there, row_there, row_known, row_ends}
use Rattle.outage_sheet.proofs.LinesLaws.{Left, left_more, left_stop, left_extra, left_none}
use Rattle.outage_sheet.proofs.to_table.read_rows.Goals.{In-Ok, In-Err}
use Rattle.outage_sheet.proofs.to_table.read_rows.Goals as goal

-- a window that passed: its row, whether it can be stored, and where it ends
module _ (c : In-Ok) where
  row_done : row_in c.args.format c.args.options (drop c.loop-i.at c.args.sheet.now) ≡ done c.in-Ok.window
  row_done = row_there c.args.format c.args.options c.args.sheet.now c.loop-i.at (done c.in-Ok.window) (done c.in-Ok.window) c.in-Ok.ensures refl

  known : Within Stored (length c.args.sheet.now - c.loop-i.at) (done c.in-Ok.window)
  known = row_known c.args.format c.args.options c.args.sheet.now c.loop-i.at (done c.in-Ok.window) (done c.in-Ok.window) c.in-Ok.ensures refl

  end_is : c.find-newline.result ≡ length (before 10 (drop c.loop-i.at c.args.sheet.now))
  end_is = end_there c.args.sheet.now c.loop-i.at c.find-newline.result c.find-newline.ensures.value

  inside : c.loop-i.at + c.find-newline.result < length c.args.sheet.now
  inside = row_ends c.args.format c.args.options c.args.sheet.now c.loop-i.at c.find-newline.result end_is c.in-Ok.window row_done

  again : (t' : List ℕ) → t' ≡ put_window c.loop-i.table c.args.n c.loop-i.i c.in-Ok.window → length t' ≡ length c.loop-i.table
      → Left c.args.format c.args.options c.args.sheet.now c.args.from c.args.n c.args.table.now (c.loop-i.i + 1) (c.loop-i.at + (c.find-newline.result + 1)) t'
  again =
      left_more c.args.format c.args.options c.args.sheet.now c.args.from c.args.n c.args.table.now c.loop-i.i c.loop-i.at c.loop-i.table c.loop-i.invariant.0
      c.in-Ok.window c.find-newline.result (omega arith) end_is row_done

-- a refusal: its row, and that its place lies in it
module _ (c : In-Err) where
  row_refused : row_in c.args.format c.args.options (drop c.loop-i.at c.args.sheet.now) ≡ refused (reason_number c.in-Err.refusal.reason) c.in-Err.refusal.place
  row_refused = row_there c.args.format c.args.options c.args.sheet.now c.loop-i.at (refused (reason_number c.in-Err.refusal.reason) c.in-Err.refusal.place) (refused (reason_number c.in-Err.refusal.reason) c.in-Err.refusal.place) c.in-Err.ensures refl

  place_in : c.in-Err.refusal.place ≤ length c.args.sheet.now - c.loop-i.at
  place_in = row_known c.args.format c.args.options c.args.sheet.now c.loop-i.at (refused (reason_number c.in-Err.refusal.reason) c.in-Err.refusal.place) (refused (reason_number c.in-Err.refusal.reason) c.in-Err.refusal.place) c.in-Err.ensures refl

pub put_window-requires : goal.put_window-requires
put_window-requires c = (omega arith, omega arith, omega (arith, c.loop-i.invariant.0.same), known (goal.at.put_window-requires c).In-Ok)

pub overflow_add-at : goal.overflow_add-at
overflow_add-at c = omega (arith, c.loop-i.invariant.1, place_in (goal.at.overflow_add-at c).In-Err)

pub returns-in-Err : goal.returns-in-Err
returns-in-Err c =
    let a = c.args in
    let l = c.loop-i in
    let f = left_stop a.format a.options a.sheet.now a.from a.n a.table.now l.i l.at l.table l.invariant.0 (reason_number c.in-Err.refusal.reason) c.in-Err.refusal.place (omega arith) (row_refused (goal.at.returns-in-Err c).In-Err) in
    record { result_value = rw c.at.ensures f.0; filled_table = f.1 }

pub loop-i-preserved : goal.loop-i-preserved
loop-i-preserved c = let w = (goal.at.loop-i-preserved c).In-Ok in (again w _ c.put_window.ensures c.put_window.auto.table, omega (arith, inside w))

pub returns-then-at-sheet : goal.returns-then-at-sheet
returns-then-at-sheet c = let l = c.loop-i in
    let a = c.args in
    let f = left_extra a.format a.options a.sheet.now a.from a.n a.table.now l.i l.at l.table l.invariant.0 (omega arith) (omega arith) in
    record { result_value = rw c.at-then-at-sheet.ensures f.0; filled_table = f.1 }

pub returns : goal.returns
returns c = let l = c.loop-i in
    let a = c.args in
    let f = left_none a.format a.options a.sheet.now a.from a.n a.table.now l.i l.at l.table l.invariant.0 (omega arith) (omega arith) in
    record { result_value = f.0; filled_table = f.1 }
