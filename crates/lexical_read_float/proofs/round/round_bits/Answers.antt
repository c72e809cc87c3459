-- `lexical_read_float::round::round_bits` meets its contract. Assumes nothing.
use native.Mathlib.Omega.{arith}
use lib.Ieee.{Format}
use Rattle.lexical_float.specs.Encoding.{of_width}
use Rattle.lexical_read_float.proofs.RoundLaws as L
use Rattle.lexical_read_float.proofs.round.round_bits.Goals.{Start}
use Rattle.lexical_read_float.proofs.round.round_bits.Goals as goal

abbrev f : Start → Format
f c = of_width c.args.width

pub returns-then-lift-gt2046 : goal.returns-then-lift-gt2046
returns-then-lift-gt2046 c = L.far_too_large _ _ _ _ _ c.lift_of-lift.ensures _ c.if-lift-gt2046.true

pub overflow_sub-count : goal.overflow_sub-count
overflow_sub-count c = omega (arith, L.count_room (f (goal.at.overflow_sub-count c).Start) c.args.bits c.args.up c.args.down _ c.lift_of-lift.ensures _ c.requires.0 c.lowest_of.ensures)

pub returns-then-nearest-encoding : goal.returns-then-nearest-encoding
returns-then-nearest-encoding c = L.too_large _ _ _ _ _ c.lift_of-lift.ensures _ c.encoding_of-encoding.ensures _ _ _ _ c.lowest_of.ensures c.bits_above-above.ensures c.is_clear-rest.ensures _ c.to_nearest.ensures.value (omega arith)

pub returns : goal.returns
returns c = L.in_range _ _ _ _ _ c.lift_of-lift.ensures _ c.encoding_of-encoding.ensures _ _ _ _ c.lowest_of.ensures c.bits_above-above.ensures c.is_clear-rest.ensures _ c.to_nearest.ensures.value (omega arith)
