-- `lexical_write_float::pieces::put_zeros` meets its contract: a turn of the loop puts one zero more. Assumes nothing.
use mathlib.Core.Path.{◌≡◌}
use lib.ListN.{take}
use Rattle.lexical_write_float_spec.specs.Text.{zeros}
use Rattle.lexical_write_float.proofs.pieces.put_zeros.Given as goal

abbrev pub invariant-loop-byte : goal.invariant-loop-byte
invariant-loop-byte l = take l.byte-index l.byte-items ≡ zeros l.byte-index
