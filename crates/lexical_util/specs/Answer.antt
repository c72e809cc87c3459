-- What a call answers, and what a call that writes leaves in the bytes lent to it: document 01, "What each call returns". Definitions only.
use Rattle.std.specs.Prelude.{Option, None, Some, ℕ, Bool, cond, List, [], ◌∷◌, ◌++◌, leb, length, drop, Result, Ok, Err}
use Rattle.lexical_util.specs.declared.answer.Refusal.{Refusal}
use Rattle.lexical_util.specs.Reason.{reason_number}

-- what was asked for, or a refusal's number and place
pub data Answer (A : Type 0) : Type 0 where
  done : A → Answer A
  refused : ℕ → ℕ → Answer A

-- a step after an answer; a refusal stays as it is
abbrev pub and_then : {A B : Type 0} → Answer A → (A → Answer B) → Answer B
and_then (done a) step = step a
and_then (refused n p) step = refused n p

-- a check of a list: a refusal's number, and whether it refuses
abbrev pub Check : Type 0
Check = ℕ × Bool

-- the checks in their order: the first that refuses gives the answer, at place 0
abbrev pub checked : {A : Type 0} → List Check → Answer A → Answer A
checked [] answer = answer
checked (c ∷ cs) answer = cond c.1 (refused c.0 0) (checked cs answer)

-- ---- a call that writes a text into the bytes lent
-- it answers the text's length; 8: buffer shorter than the text
abbrev pub length_in : List ℕ → List ℕ → Answer ℕ
length_in out text = cond (leb (length text) (length out)) (done (length text)) (refused 8 0)

-- afterwards the bytes hold the text, and past it what they held; on refusal 8 what they held
abbrev pub bytes_in : List ℕ → List ℕ → List ℕ
bytes_in out text = cond (leb (length text) (length out)) (text ++ drop (length text) out) out

-- the answer to a request for a text, or for the refusal that stands before 8
abbrev pub written : Answer (List ℕ) → List ℕ → Answer ℕ
written (done text) out = length_in out text
written (refused n p) out = refused n p

-- what the lent bytes hold after it
abbrev pub held : Answer (List ℕ) → List ℕ → List ℕ
held (done text) out = bytes_in out text
held (refused n p) out = out

-- document 01's numbers and values for what a call answers, where its values stand for others
abbrev pub of_result_as : {A B : Type 0} → (A → B) → Result A Refusal → Answer B
of_result_as value (Ok a) = done (value a)
of_result_as value (Err r) = refused (reason_number r.reason) r.place

-- and where they are those asked for
abbrev pub of_result : {A : Type 0} → Result A Refusal → Answer A
of_result = of_result_as (λ a. a)

-- an answer where there is one, and else the refusal by this number
abbrev pub some_or : {A : Type 0} → ℕ → Option A → Answer A
some_or number (Some a) = done a
some_or number None = refused number 0
