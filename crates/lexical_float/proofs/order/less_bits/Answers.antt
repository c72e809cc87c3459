-- `lexical_float::order::less_bits` meets its contract: by the signs of the two. Assumes nothing.
use mathlib.Core.Path.{◌≡◌, ◌∙◌}
use mathlib.Core.Bool.{Bool, ◌&&◌, ◌||◌}
use borrow.Author.Tests.{lt-ltb, le-ltb}
use lib.Dec.{ltb}
use lib.Ieee.{Format, top, of_bits, lt}
use Rattle.lexical_float.specs.Encoding.{of_width}
use Rattle.lexical_float.proofs.EncodingLaws.{sign}
use Rattle.lexical_float.proofs.OrderLaws.{less_plain, less_mixed, less_negative}
use Rattle.lexical_float.proofs.order.less_bits.Goals.{After-encoding_of-encoding, Start, Then-a-sign, Then-b-sign}
use Rattle.lexical_float.proofs.order.less_bits.Goals as goal

abbrev f : Start → Format
f c = of_width c.args.width

-- the code's mask is the sign's weight
mask : (c : After-encoding_of-encoding) → c.encoding_of-encoding.result.sign_mask ≡ top (f c.before)
mask c = sign (f c.before) _ c.encoding_of-encoding.ensures

abbrev less : Start → Bool
less c = lt (of_bits (f c) c.args.a) (of_bits (f c) c.args.b)

plain : (c : Then-a-sign) → (let a = c.args in (ltb a.a a.b && ltb a.b c.encoding_of-encoding.result.sign_mask) ≡ less c.before.before)
plain c =
    let p = c.requires in
    rw (mask c.before) (less_plain (f c.before.before) _ _ p.0 p.1 p.2 p.3 (rw (mask c.before) at c.if-a-sign.true))

mixed : (c : Then-b-sign) → (let a = c.args in (ltb c.encoding_of-encoding.result.sign_mask a.a || ltb 0 a.b) ≡ less c.before.before.before)
mixed c =
    let p = c.requires in
    rw (mask c.before.before) (less_mixed (f c.before.before.before) _ _ p.0 p.1 p.2 p.3 (rw (mask c.before.before) at c.if-a-sign.false) (rw (mask c.before.before) at c.if-b-sign.true))

pub returns-then-a-b : goal.returns-then-a-b
returns-then-a-b c = rw (lt-ltb _ _ c.if-a-b.true) at (plain (goal.at.returns-then-a-b c).Then-a-sign)

pub returns-else-a-b : goal.returns-else-a-b
returns-else-a-b c = let e = le-ltb _ _ c.if-a-b.false in e ∙ (rw e at (plain (goal.at.returns-else-a-b c).Then-a-sign))

pub returns-then-a-sign-2 : goal.returns-then-a-sign-2
returns-then-a-sign-2 c = let e = lt-ltb _ _ c.if-a-sign-2.true in e ∙ (rw e at (mixed (goal.at.returns-then-a-sign-2 c).Then-b-sign))

pub returns-else-a-sign-2 : goal.returns-else-a-sign-2
returns-else-a-sign-2 c = rw (le-ltb _ _ c.if-a-sign-2.false) at (mixed (goal.at.returns-else-a-sign-2 c).Then-b-sign)

pub returns : goal.returns
returns c = let p = c.requires in
    less_negative (f (goal.at.returns c).Start) _ _ p.0 p.1 p.2 p.3 (rw (mask (goal.at.returns c).After-encoding_of-encoding) at c.if-a-sign.false) (rw (mask (goal.at.returns c).After-encoding_of-encoding) at c.if-b-sign.false)
