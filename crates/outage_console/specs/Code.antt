-- Bytes that a call has written, or its refusal at the front. No exported contract cites it. Definitions only.
use Rattle.std.specs.Prelude.{ℕ, List, ◌++◌, length, drop}
use Rattle.lexical_util.specs.Answer.{Answer, done, refused}
use Rattle.outage_console.specs.Screen.{refusal_line}

abbrev pub put_count : Answer ℕ → ℕ
put_count (done n) = n
put_count (refused n p) = length (refusal_line n p)

abbrev pub put_bytes : Answer ℕ → List ℕ → List ℕ
put_bytes (done n) out = out
put_bytes (refused n p) out = refusal_line n p ++ drop (length (refusal_line n p)) out
