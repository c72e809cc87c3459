-- `lexical_read_float::round::round_kept` meets its contract. Assumes nothing.
use Prim.Native.Nat.{ℕ, ◌-◌, ◌*◌, ◌%◌, ◌^◌, ◌≤◌, ◌<◌}
use mathlib.Core.Path.{◌≡◌}
use native.Mathlib.Omega.{arith}
use Rattle.lexical_read_float.specs.Kept.{full}
use Rattle.lexical_read_float.proofs.RoundLaws as L
use Rattle.lexical_read_float.proofs.round.round_kept.Goals.{After-significant_bits-shift}
use Rattle.lexical_read_float.proofs.round.round_kept.Goals as goal

abbrev bits : After-significant_bits-shift → ℕ
bits c = c.args.kept.bits

-- the bits are moved up to the highest place, and none is lost
moved : (c : After-significant_bits-shift) → (0 < c.significant_bits-shift.result) × (bits c * 2 ^ (64 - c.significant_bits-shift.result) % 18446744073709551616 ≡ bits c * 2 ^ (64 - c.significant_bits-shift.result))
    × (full ≤ bits c * 2 ^ (64 - c.significant_bits-shift.result))
moved c =
    let b = c.significant_bits-shift.ensures.bounds in
    let p : 0 < bits c = omega (arith, c.if-bits-eq0.false) in
    let l = b.2 p in
    (L.some_bits (bits c) _ b.0 b.1 l p, L.moved (bits c) _ b.0 b.1 l p, L.moved_full (bits c) _ b.0 b.1 l p)

pub returns-then-bits-eq0-clause-result_value : goal.returns-then-bits-eq0-clause-result_value
returns-then-bits-eq0-clause-result_value c = (L.zero_kept _ c.args.kept c.args.up c.args.down c.requires.0 c.if-bits-eq0.true).0

pub round_bits-requires : goal.round_bits-requires
round_bits-requires c = let m = moved (goal.at.round_bits-requires c).After-significant_bits-shift in (omega (arith, m.1, m.2), omega arith, omega arith)

pub returns-then-below-eq0 : goal.returns-then-below-eq0
returns-then-below-eq0 c = let m = moved (goal.at.returns-then-below-eq0 c).After-significant_bits-shift in
    let f = L.whole_kept _ c.args.kept c.args.up c.args.down _ _ _ c.if-below-eq0.true m.1 (rw m.1 m.2) c.round_bits.ensures in
    record { result_value = f.0; finite = f.1 }

pub returns : goal.returns
returns c = let f = L.long_kept _ c.args.kept c.args.up c.args.down _ (c.requires.0 (omega arith)) c.round_bits-2.ensures in
    record { result_value = f.0; finite = f.1 }
