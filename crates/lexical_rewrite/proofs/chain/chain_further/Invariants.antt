-- `lexical_rewrite::chain::chain_further` meets its contract. The loop's invariant: what is left of the chain from here is what all of it is, of stations behind the first. Assumes nothing.
use Prim.Native.Nat.{◌+◌, ◌≤◌, ◌<◌}
use mathlib.Core.Path.{◌≡◌}
use lib.ListN.{length, take}
use Rattle.lexical_rewrite.specs.Code.{on_from}
use Rattle.lexical_write_float_spec.specs.Write.{longest_text}
use Rattle.lexical_rewrite.proofs.chain.chain_further.Given as goal

abbrev pub invariant-loop-records : goal.invariant-loop-records
invariant-loop-records g l =
    (l.count ≤ longest_text)
    × (0 < length l.records)
    × (l.station + length l.records ≤ length l.further + 1)
    × (on_from g.F.Float.format l.station l.source (take l.count l.scratch) l.records l.buffer ≡ on_from g.F.Float.format 1 l.fn.first (take l.written l.initial.scratch) l.further l.buffer)

abbrev pub decreases-loop-records : goal.decreases-loop-records
decreases-loop-records g l = length l.records
