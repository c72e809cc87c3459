-- `outage::word::word_of` meets its contract. The loop's invariant: the number so far is that of the bytes so far, the last one first. Assumes nothing.
use Prim.Native.Nat.{◌<◌}
use mathlib.Core.Path.{◌≡◌, refl}
use mathlib.Core.List.{[], ◌∷◌, map, reverse}
use native.Mathlib.Omega.{arith}
use lib.ListN.{length, get_or, take, length-take}
use Rattle.std.proofs.lemmas.List.{map-append, length_push, length-reverse}
use Rattle.std.proofs.lemmas.Iterator.Adapters.{YieldsList-from_rev_slice}
use Rattle.std.proofs.lemmas.Iterator.Consumers.{YieldsList-turn}
use Rattle.outage_spec.specs.Words.{of_bytes}
use Rattle.outage_spec.proofs.PartLaws.{back_more, back_grows, back_small, back_byte}
use Rattle.outage.proofs.word.word_of.Goals.{In-Some}
use Rattle.outage.proofs.word.word_of.Goals as goal

-- where in the bytes, from behind, this turn's is
turn : (c : In-Some) → (let s = take c.min-count.result c.args.bytes.now in (length c.loop-byte.yielded < length (reverse s)) × (c.in-Some.byte.now ≡ get_or (reverse s) (length c.loop-byte.yielded) c.in-Some.byte.now))
turn c =
    YieldsList-turn (YieldsList-from_rev_slice (take c.min-count.result c.args.bytes.now) (rw (c.into_iter-byte-iterator.ensures.into_iter_gives, c.rev-byte-items.ensures.source) c.iter.ensures.rest)) c.loop-byte.yielded _ c.loop-byte.yielded_by _ _ c.in-Some.byte c.in-Some.is c.next.ensures.steps

small : (c : In-Some) → (c.loop-byte.word < 72057594037927936) × (c.in-Some.byte.now < 256)
small c =
    let l = c.loop-byte in
    let s = c.args.bytes.now in
    let t = turn c in
    let k : length l.yielded < 8 = omega (arith, rw (length-reverse (take c.min-count.result s)) at t.0, length-take c.min-count.result s, c.min-count.ensures) in
    (let w = back_small l.word (length l.yielded) l.invariant.1 k in omega (arith, w), back_byte s c.min-count.result (length l.yielded) c.in-Some.byte.now (λ i. (c.type_inv.bytes i).fits) t)

pub overflow_mul-word : goal.overflow_mul-word
overflow_mul-word c = omega (arith, (small (goal.at.overflow_mul-word c).In-Some).0)

pub overflow_add-word : goal.overflow_add-word
overflow_add-word c = let f = small (goal.at.overflow_add-word c).In-Some in omega (arith, f.0, f.1)

pub loop-byte-init : goal.loop-byte-init
unfolding of_bytes
loop-byte-init c = (refl, omega arith)

pub loop-byte-preserved : goal.loop-byte-preserved
loop-byte-preserved c = let l = c.loop-byte in
    let read = map (λ y. y.now) l.yielded in
    let b = c.in-Some.byte.now in (
      rw (map-append (λ y. y.now) l.yielded (c.in-Some.byte ∷ [])) (omega (arith, l.invariant.0, back_more read b)),
      rw (length_push l.yielded c.in-Some.byte) (back_grows l.word b (length l.yielded) l.invariant.1 (small (goal.at.loop-byte-preserved c).In-Some).1),
    )
