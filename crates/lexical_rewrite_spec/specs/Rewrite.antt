-- Rewriting: one reading of a text under the format it stands in, then one writing of the float read, at the same width: document 01, "Rewriting". Definitions only.
use Rattle.std.specs.Prelude.{ℕ, List, Float}
use Rattle.std.specs.Float.{Format}
use Rattle.lexical_util.specs.Answer.{Answer, done, refused, written, held}
use Rattle.lexical_write_float_spec.specs.Write.{write_text}
use Rattle.lexical_read_float_spec.specs.Read.{read_float}
use Rattle.lexical_rewrite_spec.specs.declared.text_format.TextFormat.{TextFormat}

-- what rewriting answers: the length written, or the number and place of the reading's refusal, or of the writing's
pub data Rewriting : Type 0 where
  rewritten : ℕ → Rewriting
  reading_refused writing_refused : ℕ → ℕ → Rewriting

-- a text's float under the format that it stands in, or the reader's refusal
abbrev pub read_in : Format → TextFormat → List ℕ → Answer Float
read_in f F t = read_float f F.format F.options t

-- a format's text for a float, or the writer's refusal before 8
abbrev pub text_in : TextFormat → Float → Answer (List ℕ)
text_in G x = write_text G.format G.options x

abbrev pub by_writing : Answer ℕ → Rewriting
by_writing (done n) = rewritten n
by_writing (refused n p) = writing_refused n p

-- after a reading, one writing of the float read into the bytes lent: the answer
abbrev pub rewrite_answer : TextFormat → List ℕ → Answer Float → Rewriting
rewrite_answer G out (done x) = by_writing (written (text_in G x) out)
rewrite_answer G out (refused n p) = reading_refused n p

-- and what the bytes lent hold then
abbrev pub rewrite_bytes : TextFormat → List ℕ → Answer Float → List ℕ
rewrite_bytes G out (done x) = held (text_in G x) out
rewrite_bytes G out (refused n p) = out
