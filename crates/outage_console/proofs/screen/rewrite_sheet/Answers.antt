-- `outage_console::screen::rewrite_sheet` meets its contract: the table that was read is printed, or the reading's refusal shown. Assumes nothing.
use Prim.Native.Nat.{ℕ, ◌-◌}
use mathlib.Core.Path.{◌≡◌, sym, ap, ◌∙◌}
use mathlib.Core.List.{List}
use native.Mathlib.Omega.{arith}
use lib.ListN.{take, replicate, length-replicate}
use Rattle.lexical_util.specs.Answer.{of_result}
use Rattle.outage_spec.specs.Calls.{table_sheet}
use Rattle.outage_spec.proofs.LengthLaws.{sheet_short}
use Rattle.outage_console.specs.Screen.{reading, rewriting}
use Rattle.outage_console.proofs.ScreenLaws.{Got, got, not_got, put_shown, line_shown, reading_within, rewriting_done, rewriting_refused, same_rows}
use Rattle.outage_console.proofs.WeekLaws.{sheet_returns}
use Rattle.outage_spec.specs.Sheet.{sheet_size}
use Rattle.outage_spec.specs.Table.{table_size, most_windows}
use Rattle.lexical_write_float_spec.specs.Write.{longest_text}
use Rattle.outage_console.proofs.screen.rewrite_sheet.Goals.{In-Ok}
use Rattle.outage_console.proofs.screen.rewrite_sheet.Goals as goal

-- bytes for the longest table
abbrev fresh : List ℕ
fresh = replicate {A = ℕ} (table_size most_windows) 0

-- the table that was read
table_got : (c : In-Ok) → let a = c.args in
    Got (reading a.from a.sheet.now) fresh (table_size most_windows) c.in-Ok.count
table_got c =
    let a = c.args in
    got (reading a.from a.sheet.now) fresh (table_size most_windows) (omega (arith, length-replicate {A = ℕ} (table_size most_windows) 0)) (reading_within a.from a.sheet.now) _ (sym c.table_of.ensures.result_value ∙ ap of_result c.in-Ok.is)

pub returns-in-Ok : goal.returns-in-Ok
returns-in-Ok c = let a = c.args in
    let s = a.sheet.now in
    let g = table_got (goal.at.returns-in-Ok c).In-Ok in
    let is = rewriting_done a.from a.to s g.bytes g.is in
    let m = c.in-Ok.count in
    let all : m - 0 ≡ m = omega arith in
    let front : take (m - 0) c.table_of.new.table ≡ g.bytes = rw all (ap (take m) c.table_of.ensures.table_after ∙ g.front) in
    let same = ap (table_sheet a.to.format a.to.options) front ∙ sym is in
    let answer = rw same at c.table_to_sheet-answer.ensures.result_value in
    let left = rw same at c.table_to_sheet-answer.ensures.sheet_after in
    let h = put_shown (rewriting a.from a.to s) a.out.now _ _ (sheet_size longest_text) _ _ (omega arith) (λ text q. sheet_short a.to.format a.to.options g.bytes text (sym is ∙ q)) (answer, left) (c.put_answer.ensures.value, c.put_answer.ensures.out_after) in
    record { value = h.count; out_after = h.bytes; within = h.within; same_rows = same_rows a.from a.to s; never_lost = sheet_returns a.from s }

pub returns-in-Err : goal.returns-in-Err
returns-in-Err c = let a = c.args in
    let F = a.from in
    let s = a.sheet.now in
    let no = not_got (reading F s) fresh (table_size most_windows) (omega (arith, length-replicate {A = ℕ} (table_size most_windows) 0)) (reading_within F s) _ _ (sym c.table_of.ensures.result_value ∙ ap of_result c.in-Err.is) in
    let h = line_shown (rewriting F a.to s) _ _ _ _ _ (rewriting_refused F a.to s _ _ no) c.put_refusal.ensures in
    record { value = h.count; out_after = h.bytes; within = h.within; same_rows = same_rows F a.to s; never_lost = sheet_returns F s }
