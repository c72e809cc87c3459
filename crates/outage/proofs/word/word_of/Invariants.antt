-- `outage::word::word_of` meets its contract. The loop's invariant: the number so far is that of the bytes so far, the last one first. Assumes nothing.
use Prim.Native.Nat.{◌<◌, ◌^◌}
use mathlib.Core.Path.{◌≡◌}
use mathlib.Core.List.{map, reverse}
use lib.ListN.{length}
use Rattle.outage_spec.specs.Words.{of_bytes}
use Rattle.outage.proofs.word.word_of.Given as goal

abbrev pub invariant-loop-byte : goal.invariant-loop-byte
invariant-loop-byte l = (l.word ≡ of_bytes (reverse (map (λ y. y.now) l.yielded))) × (l.word < 256 ^ length l.yielded)
