-- `outage_console::screen::put_answer` meets its contract: a refusal is put at the front, and nothing else changes. Assumes nothing.
use Rattle.outage_console.proofs.ScreenLaws.{put_line}
use Rattle.outage_console.proofs.screen.put_answer.Goals as goal

pub returns-in-Err-clause-out_after : goal.returns-in-Err-clause-out_after
returns-in-Err-clause-out_after c = rw c.in-Err.is (put_line _ _ _ _ _ c.put_refusal.ensures).1
