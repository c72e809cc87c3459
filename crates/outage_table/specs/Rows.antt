-- What the check of all rows answers. No exported contract cites it. Definitions only.
use Rattle.std.specs.Prelude.{◌≡◌, List, Result, Ok, Err}
use Rattle.lexical_util.specs.Answer.{Answer, done, refused}
use Rattle.lexical_util.specs.Reason.{reason_number}
use Rattle.lexical_util.specs.declared.answer.Refusal.{Refusal}
use Rattle.outage_spec.specs.declared.window.Window.{Window}
use Rattle.outage_table.specs.Text.{contents}

-- all rows passed, or the first refusal
abbrev pub AreRows : {A : Type 0} → Result A Refusal → Answer (List Window) → Type 0
AreRows (Ok a) rows = rows ≡ done (contents rows)
AreRows (Err r) rows = rows ≡ refused (reason_number r.reason) r.place
