-- Leading digit first: document 02, 2.4. Definitions only.
use Rattle.std.specs.Prelude.{ℕ, zero, suc, ◌+◌, ◌-◌, ◌%◌, ◌≤◌, ◌<◌, min, ◌≡◌, cond, not, List, [], ◌∷◌, ◌++◌, ◌⊎◌, eqb, leb, length, take, drop}
use Rattle.lexical_util.specs.Answer.{Answer, done, refused, and_then, checked, written}
use Rattle.lexical_util.specs.Digit.{is_radix, is_width}
use Rattle.lexical_write_integer_spec.specs.Digits.{numeral}

-- the bytes so far are the text's first k, and the rest is as lent
unfoldable pub begun : List ℕ → ℕ → List ℕ → List ℕ
begun text k lent = take k text ++ drop k lent

-- from the text's first j bytes to its first k, whatever was lent
pub record Grows (text : List ℕ) (j k : ℕ) (before after : List ℕ) : Type 0 where
  pub stand : (lent : List ℕ) → before ≡ begun text j lent → after ≡ begun text k lent

-- ---- a step by itself
-- it adds one byte where an odd number of them is left, else two; where none is left, none
unfoldable pub step_length : ℕ → ℕ
step_length left = min left (2 - left % 2)

-- the digits of x in a radix that is filled from the front. 2 radix unknown, or 10, which is not; 16 width not 1 to 4
unfoldable pub steps_text : ℕ → ℕ → ℕ → Answer (List ℕ)
steps_text x radix width = checked ((2, not (is_radix radix)) ∷ (2, eqb radix 10) ∷ (16, not (is_width width)) ∷ []) (done (numeral radix width x))

-- how many bytes there are so far, where there were k; 8: buffer shorter than the text
abbrev pub step_written : Answer (List ℕ) → ℕ → List ℕ → Answer ℕ
step_written asked k out = and_then (written asked out) (λ n. done (k + step_length (n - k)))

-- what the lent bytes hold then: the first k what they held, and behind them what is left of the text is begun
abbrev pub step_held : Answer (List ℕ) → ℕ → List ℕ → List ℕ
step_held (done text) k out = cond (leb (length text) (length out)) (take k out ++ begun (drop k text) (step_length (length text - k)) (drop k out)) out
step_held (refused n p) k out = out

-- each step adds one or two bytes; those so far are then the text's first, and the rest is as lent
pub record Adds (text : List ℕ) (k : ℕ) (before : List ℕ) (n : ℕ) (after : List ℕ) : Type 0 where
  pub one_or_two : k < length text → (n ≡ k + 1) ⊎ (n ≡ k + 2)
  pub within : k ≤ length text → n ≤ length text
  pub grows : k ≤ length text → Grows text k n before after

-- so it is where a step is not refused
abbrev pub StepAdds : Answer (List ℕ) → ℕ → List ℕ → Answer ℕ → List ℕ → Type 0
StepAdds asked k before answer after = (text : List ℕ) (n : ℕ) → asked ≡ done text → answer ≡ done n → Adds text k before n after

-- ---- so many steps one after the other, each from where the one before it ended
abbrev pub after_steps : List ℕ → ℕ → ℕ → List ℕ → List ℕ
after_steps text zero k out = out
after_steps text (suc m) k out = after_steps text m (k + step_length (length text - k)) (step_held (done text) k out)
