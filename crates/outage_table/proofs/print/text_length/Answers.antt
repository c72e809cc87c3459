-- `outage_table::print::text_length` meets its contract: no text is longer than the scratch bytes, so the writer answers its length. Assumes nothing.
use Prim.Native.Nat.{◌≤◌}
use mathlib.Core.Path.{sym, subst}
use native.Mathlib.Omega.{arith}
use lib.Dec.{T}
use lib.ListN.{length}
use Rattle.outage_table.specs.Text.{text_of}
use Rattle.outage_table.proofs.TextLaws.{text_short, text_served}
use Rattle.lexical_write_float_spec.specs.Write.{longest_text}
use Rattle.outage_table.proofs.print.text_length.Goals.{Start}
use Rattle.outage_table.proofs.print.text_length.Goals as goal

short : (s : Start) → length (text_of s.args.format s.args.options s.args.x) ≤ longest_text
short s = text_short s.args.format s.args.options s.args.x (subst T (sym s.well_formed.0.1) tt) s.requires

pub returns-in-Err : goal.returns-in-Err
returns-in-Err c = absurd (text_served c.args.format c.args.options c.args.x c.args.scratch.now c.requires (omega (arith, short (goal.at.returns-in-Err c).Start)) _ _ (c.in-Err.ensures.result_value))
