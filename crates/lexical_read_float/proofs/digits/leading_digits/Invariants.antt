-- `lexical_read_float::digits::leading_digits` meets its contract: at each place the digits still to come make the same of the bits so far as all make of those at the start. Assumes nothing.
use Prim.Native.Nat.{ℕ, ◌≤◌}
use mathlib.Core.Path.{◌≡◌}
use mathlib.Core.Bool.{Bool}
use lib.ListN.{length}
use Rattle.lexical_read_float.specs.Digits.{digits_from, end_from}
use Rattle.lexical_read_float.specs.Kept.{keep_digits}
use Rattle.lexical_read_float.proofs.digits.leading_digits.Given as goal

abbrev pub invariant-loop-i : goal.invariant-loop-i
invariant-loop-i l =
    (l.from ≤ l.i) × (l.i ≤ length l.text) × (end_from l.radix l.text l.i ≡ end_from l.radix l.text l.from)
    × ((below : ℕ) (clear : Bool)
    → keep_digits l.b (record { bits = l.bits; below = below; clear = clear }) (digits_from l.radix l.text l.i) ≡ keep_digits l.b (record { bits = l.start; below = below; clear = clear }) (digits_from l.radix l.text l.from))
