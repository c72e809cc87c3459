-- `outage_sheet::store::put_word` meets its contract. The loop's invariant: the bytes put, and those of the rest, make the whole. Assumes nothing.
use Prim.Native.Nat.{◌-◌}
use mathlib.Core.Path.{◌≡◌}
use mathlib.Core.List.{◌++◌}
use lib.ListN.{take}
use Rattle.outage_spec.specs.Words.{to_bytes}
use Rattle.outage_sheet.proofs.store.put_word.Given as goal

abbrev pub invariant-loop-byte : goal.invariant-loop-byte
invariant-loop-byte l = take l.byte-index l.byte-items ++ to_bytes (l.size - l.byte-index) l.rest ≡ to_bytes l.size l.value
