-- A chain of stations: document 01, "Rewriting". Definitions only.
use Rattle.std.specs.Prelude.{ℕ, ◌+◌, List, [], ◌∷◌, take}
use Rattle.std.specs.Float.{Format}
use Rattle.lexical_util.specs.Answer.{Answer, done, refused}
use Rattle.lexical_rewrite_spec.specs.declared.text_format.TextFormat.{TextFormat}
use Rattle.lexical_rewrite_spec.specs.Rewrite.{Rewriting, rewritten, reading_refused, writing_refused, read_in, text_in, rewrite_answer, rewrite_bytes}

-- what a chain answers: the length of the last text; or which station refused, counted from 0, in reading or in writing, with number and place
pub data Chained : Type 0 where
  arrived : ℕ → Chained
  reading_refused_at writing_refused_at : ℕ → ℕ → ℕ → Chained

abbrev pub at_station : ℕ → Rewriting → Chained
at_station i (rewritten n) = arrived n
at_station i (reading_refused n p) = reading_refused_at i n p
at_station i (writing_refused n p) = writing_refused_at i n p

-- the answer, and what the last station's buffer holds then
pub record Outcome : Type 0 where
  pub answer : Chained
  pub bytes : List ℕ

-- the chain goes on with what was answered; a refusal ends it, and the bytes lent are as they were
abbrev pub goes_on : {A : Type 0} → (ℕ → ℕ → Chained) → List ℕ → Answer A → (A → Outcome) → Outcome
goes_on refusal out (done a) next = next a
goes_on refusal out (refused n p) next = record { answer = refusal n p; bytes = out }

-- the text t stands in the format F, and station i is the next: one reading of t under F, then one writing in G of the float read. Only that text and its format are handed on; the last station writes into the bytes lent.
unfoldable pub chain_from : Format → ℕ → TextFormat → List ℕ → TextFormat → List TextFormat → List ℕ → Outcome
chain_from f i F t G [] out = record { answer = at_station i (rewrite_answer G out (read_in f F t)); bytes = rewrite_bytes G out (read_in f F t) }
chain_from f i F t G (G' ∷ Gs) out = goes_on (reading_refused_at i) out (read_in f F t) (λ x. goes_on (writing_refused_at i) out (text_in G x) (λ text. chain_from f (i + 1) G text G' Gs out))

-- the text t, which stands in the format F, rewritten in G and then in each of Gs; stations are counted from 0
abbrev pub chain_of : Format → TextFormat → List ℕ → TextFormat → List TextFormat → List ℕ → Outcome
chain_of f F t G Gs out = chain_from f 0 F t G Gs out

-- the last of a list of formats that begins with this one
abbrev pub last_format : TextFormat → List TextFormat → TextFormat
last_format G [] = G
last_format G (G' ∷ Gs) = last_format G' Gs

-- ---- stations with buffers of their own, of which `ChainArrives` speaks
-- a station: its format, and what its buffer holds before it writes
pub record Station : Type 0 where
  pub format : TextFormat
  pub buffer : List ℕ

-- the last station of a list that begins with this one
abbrev pub last_station : Station → List Station → Station
last_station S [] = S
last_station S (S' ∷ Ss) = last_station S' Ss

-- once a station has written, the next one goes on; a refusal ends the chain, and the last station's buffer is as it was
abbrev pub onward : ℕ → List ℕ → Rewriting → (ℕ → Outcome) → Outcome
onward i out (rewritten n) next = next n
onward i out (reading_refused n p) next = record { answer = reading_refused_at i n p; bytes = out }
onward i out (writing_refused n p) next = record { answer = writing_refused_at i n p; bytes = out }

-- the text t stands in the format F, and station i is the next. Each later station reads exactly the bytes that the one before it wrote, up to the length returned, under that one's format.
unfoldable pub chain : Format → ℕ → TextFormat → List ℕ → Station → List Station → Outcome
chain f i F t S [] = record {
  answer = at_station i (rewrite_answer S.format S.buffer (read_in f F t));
  bytes = rewrite_bytes S.format S.buffer (read_in f F t);
}
chain f i F t S (S' ∷ Ss) =
    onward i (last_station S' Ss).buffer (rewrite_answer S.format S.buffer (read_in f F t))
    (λ n. chain f (i + 1) S.format (take n (rewrite_bytes S.format S.buffer (read_in f F t))) S' Ss)
