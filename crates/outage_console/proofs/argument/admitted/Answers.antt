-- `outage_console::argument::admitted` meets its contract, by the format's check. Assumes nothing.
use mathlib.Core.Path.{sym}
use Rattle.outage_console.proofs.ArgumentLaws.{passed_admitted, refused_admitted}
use Rattle.outage_console.proofs.argument.admitted.Goals as goal

pub returns-in-Ok : goal.returns-in-Ok
returns-in-Ok c = passed_admitted c.args.format _ (sym c.in-Ok.ensures)

pub returns-in-Err : goal.returns-in-Err
returns-in-Err c = refused_admitted c.args.format _ _ (sym c.in-Err.ensures)
