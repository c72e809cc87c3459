-- Steps one after the other make what the call makes, as it is claimed. Assumes nothing.
use Prim.Native.Nat.{ℕ, zero, suc, ◌+◌, ◌-◌, ◌≤◌}
use mathlib.Core.Path.{◌≡◌, refl, sym, ap, ◌∙◌}
use mathlib.Core.Bool.{not}
use mathlib.Core.List.{List, [], ◌∷◌}
use native.Mathlib.Omega.{arith}
use borrow.Author.Tests.{le-leb, not-false}
use lib.Dec.{eqb}
use lib.ListN.{length, take, drop, length-append, length-drop}
use lib.Seq.{length-take-le}
use Rattle.lexical_util.specs.Answer.{done}
use Rattle.lexical_util.specs.Digit.{is_radix, is_width}
use Rattle.lexical_util.proofs.AnswerLaws.{passed, text_fits}
use Rattle.lexical_write_integer_spec.specs.Digits.{numeral}
use Rattle.lexical_write_integer_spec.specs.Front.{begun, step_length, steps_text, step_held, after_steps}
use Rattle.lexical_write_integer_spec.specs.Claims.{HeldIsBegun, StepsMakeTheCall}
use Rattle.lexical_write_integer_spec.proofs.DigitsAnswer.{asked}
use Rattle.lexical_write_integer_spec.proofs.FrontLaws.{begun_none, begun_whole}
use Rattle.lexical_write_integer_spec.proofs.StepAnswer.{step_less, step_adds}

pub held_is_begun : HeldIsBegun
held_is_begun text out h = (text_fits text out (length text) refl h).1 ∙ sym (begun_whole text out (length text) refl)

length_begun : (t lent : List ℕ) (k : ℕ) → k ≤ length t → length t ≤ length lent → length (begun t k lent) ≡ length lent
unfolding begun
length_begun t lent k h l = length-append (take k t) (drop k lent) ∙ rw (length-take-le k t h, length-drop) (omega arith)

reach : (t lent : List ℕ) → length t ≤ length lent → (m k : ℕ) (o : List ℕ) → k ≤ length t → length t - k ≤ m → o ≡ begun t k lent → after_steps t m k o ≡ begun t (length t) lent
reach t lent l zero k o h f w = let e : k ≡ length t = omega arith in w ∙ rw e
reach t lent l (suc m) k o h f w =
    let n = k + step_length (length t - k) in
    let room : length t ≤ length o = rw (w, length_begun t lent k h l) l in
    let A = step_adds t o (step_held (done t) k o) k n refl (rw (le-leb (length t) (length o) room)) in
    reach t lent l m n (step_held (done t) k o) (A.within h) (omega (arith, step_less (length t - k))) ((A.grows h).stand lent w)

pub steps_make_the_call : StepsMakeTheCall
unfolding steps_text
steps_make_the_call x radix width text out h room =
    let p = passed ((2, not (is_radix radix)) ∷ (2, eqb radix 10) ∷ (16, not (is_width width)) ∷ []) (numeral radix width x) text h in
    let e = asked x radix width (not-false _ p.0.0) (not-false _ p.0.1.1.0) ∙ ap (λ (t : List ℕ). done t) p.1 in
    (e, reach text out room (length text) 0 out (omega arith) (omega arith) (begun_none text out) ∙ sym (held_is_begun text out room) ∙ rw e)
