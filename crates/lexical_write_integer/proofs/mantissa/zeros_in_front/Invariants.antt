-- `lexical_write_integer::mantissa::zeros_in_front` meets its contract: a digit that no u64 reaches is 0. Assumes nothing.
use Prim.Native.Nat.{ℕ, ◌+◌, ◌/◌, ◌^◌, ◌≤◌, ◌<◌}
use mathlib.Core.Path.{◌≡◌}
use lib.ListN.{length}
use Rattle.lexical_write_integer_spec.specs.Write.{last_numeral}
use Rattle.lexical_write_integer_spec.specs.Front.{Grows}
use Rattle.lexical_write_integer.proofs.mantissa.zeros_in_front.Given as goal

abbrev pub invariant-loop-at : goal.invariant-loop-at
invariant-loop-at l =
    ((value : ℕ) → value < 2 ^ 64 → Grows (last_numeral (2 ^ l.b) l.count value) 0 l.at l.initial.buffer l.buffer)
    × (length l.buffer ≡ length l.initial.buffer)
    × (l.at ≤ l.count)
    × (l.most ≡ 63 / l.b + 1)
