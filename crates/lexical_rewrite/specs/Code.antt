-- The stations that the code has yet to come to, by the bytes of their records. No exported contract cites it. Definitions only.
use Rattle.std.specs.Prelude.{ℕ, List, drop}
use Rattle.std.specs.Float.{Format}
use Rattle.lexical_rewrite_spec.specs.declared.text_format.TextFormat.{TextFormat}
use Rattle.lexical_rewrite_spec.specs.Record.{format_of_record, formats_of, record_size}
use Rattle.lexical_rewrite_spec.specs.Chain.{Outcome, chain_from}

-- station i has the record in front, and the text t stands in the format F
unfoldable pub on_from : Format → ℕ → TextFormat → List ℕ → List ℕ → List ℕ → Outcome
on_from f i F t records out = chain_from f i F t (format_of_record records) (formats_of (drop record_size records)) out
