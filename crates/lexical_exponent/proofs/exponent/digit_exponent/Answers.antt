-- `lexical_exponent::exponent::digit_exponent` meets its contract: by the sign of s, and by whether digits have bits at all. Assumes nothing.
use mathlib.Core.Path.{◌≡◌}
use mathlib.Core.Bool.{true}
use native.Mathlib.Omega.{arith}
use lib.IntN.{ℤ, pos, nat_abs, ◌-ℤ◌}
use lib.Signed.{lt_z}
use mir.Syntax.{w32, w64}
use mir.Val.{SFits, to_z, of_z}
use mir.Facts.{to_z-of_z, to_z_pos, sfits_widen}
use Rattle.lexical_exponent.specs.Exponent.{place}
use Rattle.lexical_exponent.proofs.ExponentLaws.{place_fits, place_below, floored}
use Rattle.lexical_exponent.proofs.exponent.digit_exponent.Goals.{After-fast_ceildiv-digits, After-struct_told-1, After-unsigned_abs-magnitude, Then-bits-lt0}
use Rattle.lexical_exponent.proofs.exponent.digit_exponent.Goals as goal

fits : (c : After-struct_told-1) → SFits w32 c.args.s.0
fits c = record { sfits = c.struct_told-1.given.0.1 }

is : (c : After-struct_told-1) → to_z w32 (of_z w32 c.args.s.0) ≡ c.args.s.0
is c = to_z-of_z (fits c)

-- the place that the contract asks for
abbrev wanted : After-struct_told-1 → ℤ
wanted c = place c.args.bits_per_digit c.args.s.0

wanted_fits : (c : After-struct_told-1) → SFits w32 (wanted c)
wanted_fits c = place_fits _ _ (fits c)

magnitude : (c : After-unsigned_abs-magnitude) → c.unsigned_abs-magnitude.result ≡ nat_abs c.args.s.0
magnitude c =
    let fits' : SFits w32 c.args.s.0 = record { sfits = c.struct_told-1.given.0.1 } in
    let is' : to_z w32 (of_z w32 c.args.s.0) ≡ c.args.s.0 = to_z-of_z fits' in
    rw is' at c.unsigned_abs-magnitude.ensures

negative : (c : Then-bits-lt0) → lt_z c.args.s.0 (pos 0) ≡ true
negative c =
    let fits' : SFits w32 c.args.s.0 = record { sfits = c.struct_told-1.given.0.1 } in
    let is' : to_z w32 (of_z w32 c.args.s.0) ≡ c.args.s.0 = to_z-of_z fits' in
    rw is' at c.if-bits-lt0.true

-- a negative s: p is the negated quotient, rounded up
below : (c : After-fast_ceildiv-digits) → pos 0 -ℤ to_z w64 c.fast_ceildiv-digits.result ≡ (place c.args.bits_per_digit c.args.s.0)
below c =
    let fits' : SFits w32 c.args.s.0 = record { sfits = c.struct_told-1.given.0.1 } in
    let is' : to_z w32 (of_z w32 c.args.s.0) ≡ c.args.s.0 = to_z-of_z fits' in
    let negative' : lt_z c.args.s.0 (pos 0) ≡ true = rw is' at c.if-bits-lt0.true in
    let magnitude' : c.unsigned_abs-magnitude.result ≡ nat_abs c.args.s.0 = rw is' at c.unsigned_abs-magnitude.ensures in
    let a = c.args in
    rw (to_z_pos w64 {n = c.fast_ceildiv-digits.result} (omega arith))
    (place_below a.s.0 a.bits_per_digit c.fast_ceildiv-digits.result negative'
    (omega (arith, magnitude')) (omega (arith, magnitude')))

below_fits : (c : After-fast_ceildiv-digits) → SFits w64 (place c.args.bits_per_digit c.args.s.0)
below_fits c =
    let fits' : SFits w32 c.args.s.0 = record { sfits = c.struct_told-1.given.0.1 } in
    let wanted_fits' : SFits w32 (place c.args.bits_per_digit c.args.s.0) = place_fits _ _ fits' in
    sfits_widen {w = w32} tt wanted_fits'

pub overflow_cast-result-then-bits-lt0 : goal.overflow_cast-result-then-bits-lt0
overflow_cast-result-then-bits-lt0 c = rw (below (goal.at.overflow_cast-result-then-bits-lt0 c).After-fast_ceildiv-digits, to_z-of_z (below_fits (goal.at.overflow_cast-result-then-bits-lt0 c).After-fast_ceildiv-digits)) (wanted_fits (goal.at.overflow_cast-result-then-bits-lt0 c).After-struct_told-1)

pub returns-then-bits-lt0 : goal.returns-then-bits-lt0
returns-then-bits-lt0 c = let f = floored _ _ _ (rw (below (goal.at.returns-then-bits-lt0 c).After-fast_ceildiv-digits, to_z-of_z (below_fits (goal.at.returns-then-bits-lt0 c).After-fast_ceildiv-digits), to_z-of_z (wanted_fits (goal.at.returns-then-bits-lt0 c).After-struct_told-1))) in
    record { result_value = f.0; floor = f.1 }
