-- `outage_console::argument::format_argument` meets its contract: a format that is named is admitted. Assumes nothing.
use Rattle.outage_console.proofs.ArgumentLaws.{named_if}
use Rattle.outage_console.proofs.argument.format_argument.Goals as goal

pub returns : goal.returns
returns g c = named_if _ _ c.read_format.ensures
