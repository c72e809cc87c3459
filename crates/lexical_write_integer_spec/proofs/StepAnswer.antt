-- What a step by itself answers and leaves in the lent bytes, in each of its cases. Assumes nothing.
use Prim.Native.Nat.{ℕ, ◌+◌, ◌-◌, ◌%◌, ◌≤◌, ◌<◌}
use mathlib.Core.Path.{◌≡◌, refl, sym, ◌∙◌}
use mathlib.Core.Bool.{Bool, true, false}
use mathlib.Core.List.{List, ◌++◌}
use mathlib.Core.Logic.{◌⊎◌, inl, inr}
use native.Mathlib.Nat.{add-zero}
use native.Mathlib.Omega.{arith}
use borrow.Author.Tests.{eqb-true, eqb-false, ne_eqb, le-leb, lt-leb}
use lib.Dec.{eqb}
use lib.ListN.{length, take, drop, take-append-drop}
use Rattle.lexical_util.specs.Answer.{Answer, done, refused}
use Rattle.lexical_util.specs.Digit.{is_radix, is_width}
use Rattle.lexical_util.proofs.AnswerLaws.{refused_done, done_same}
use Rattle.lexical_write_integer_spec.specs.Digits.{numeral}
use Rattle.lexical_write_integer_spec.specs.Front.{begun, step_length, steps_text, step_written, step_held, Adds, StepAdds}
use Rattle.lexical_write_integer_spec.proofs.FrontLaws.{grows_step}

-- ---- how many bytes a step adds
pub step_odd : (left : ℕ) → left % 2 ≡ 1 → step_length left ≡ 1
unfolding step_length
step_odd left h = omega arith

pub step_even : (left : ℕ) → 0 < left → left % 2 ≡ 0 → step_length left ≡ 2
unfolding step_length
step_even left p h = omega arith

step_some : (left : ℕ) → 0 < left → (step_length left ≡ 1) ⊎ (step_length left ≡ 2)
step_some left p = go (eqb (left % 2) 1) refl
  where
    go : (b : Bool) → eqb (left % 2) 1 ≡ b → (step_length left ≡ 1) ⊎ (step_length left ≡ 2)
    go true e = inl (step_odd left (eqb-true (left % 2) 1 e))
    go false e = let h = eqb-false (left % 2) 1 e in inr (step_even left p (omega arith))

step_le : (left : ℕ) → step_length left ≤ left
unfolding step_length
step_le left = omega arith

pub step_less : (left : ℕ) → left - step_length left ≤ left - 1
unfolding step_length
step_less left = omega arith

-- ---- a step of a text: `o` is what its bytes become
abbrev Answered : Answer (List ℕ) → ℕ → List ℕ → Answer ℕ → List ℕ → Type 0
Answered asked k out answer o = (answer ≡ step_written asked k out) × (o ≡ step_held asked k out) × StepAdds asked k out answer o

pub step_adds : (t out o : List ℕ) (k n : ℕ) → n ≡ k + step_length (length t - k) → o ≡ take k out ++ begun (drop k t) (step_length (length t - k)) (drop k out) → Adds t k out n o
unfolding begun
step_adds t out o k n e w =
    record {
      one_or_two = λ h. more (step_some (length t - k) (omega arith));
      within = λ h. omega (arith, step_le (length t - k));
      grows = λ h. rw e (grows_step t out o k (step_length (length t - k)) h w);
    }
  where
    more : (step_length (length t - k) ≡ 1) ⊎ (step_length (length t - k) ≡ 2) → (n ≡ k + 1) ⊎ (n ≡ k + 2)
    more (inl h) = inl (e ∙ rw h)
    more (inr h) = inr (e ∙ rw h)

module _ (asked : Answer (List ℕ)) (t out : List ℕ) (k n : ℕ) (is : asked ≡ done t) (count : n ≡ length t) where
  pub step_fits : n ≤ length out → (r : ℕ) (o : List ℕ) → r ≡ k + step_length (n - k) → o ≡ take k out ++ begun (drop k t) (step_length (n - k)) (drop k out) → Answered asked k out (done r) o
  step_fits room r o e w =
      let fits = le-leb (length t) (length out) (rw count at room) in
      let e' = rw count at e in
      let w' = rw count at w in
      (rw (is, fits, e'), rw (is, fits) w', λ text m p q. rw (← done_same r m q, ← done_same t text (sym is ∙ p)) (step_adds t out o k r e' w'))

  pub step_short : length out < n → Answered asked k out (refused 8 0) out
  step_short h = let f = lt-leb (length t) (length out) (rw count at h) in (rw (is, f), rw (is, f), λ text m p q. absurd (refused_done 8 0 m q))

-- where none is left, nothing is added
pub step_none : (t out : List ℕ) (k n : ℕ) → n ≤ k → (k ≡ k + step_length (n - k)) × (out ≡ take k out ++ begun (drop k t) (step_length (n - k)) (drop k out))
unfolding begun step_length
step_none t out k n h = let e : n - k ≡ 0 = omega arith in (rw e (sym (add-zero k)), rw e (sym (take-append-drop k out)))

-- ---- what is asked for
pub asked_steps : (x r w : ℕ) → is_radix r ≡ true → (r ≡ 10 → ⊥) → is_width w ≡ true → steps_text x r w ≡ done (numeral r w x)
unfolding steps_text
asked_steps x r w known other wide = rw (known, ne_eqb r 10 other, wide)

module _ (x r w k : ℕ) (out : List ℕ) where
  pub steps_unknown : is_radix r ≡ false → Answered (steps_text x r w) k out (refused 2 0) out
  unfolding steps_text
  steps_unknown h = rw h (refl, refl, λ text m p q. absurd (refused_done 2 0 m q))

  pub steps_decimal : r ≡ 10 → Answered (steps_text x r w) k out (refused 2 0) out
  unfolding steps_text is_radix
  steps_decimal h = rw h (refl, refl, λ text m p q. absurd (refused_done 2 0 m q))

  pub steps_no_width : is_radix r ≡ true → (r ≡ 10 → ⊥) → is_width w ≡ false → Answered (steps_text x r w) k out (refused 16 0) out
  unfolding steps_text
  steps_no_width known other h = rw (known, ne_eqb r 10 other, h) (refl, refl, λ text m p q. absurd (refused_done 16 0 m q))
