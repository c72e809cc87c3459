-- Document 01's numbers and values for what a rewriting and a chain answer. Definitions only.
use Rattle.std.specs.Prelude.{ℕ, Result, Ok, Err}
use Rattle.lexical_util.specs.Reason.{reason_number}
use Rattle.lexical_rewrite_spec.specs.Rewrite.{Rewriting, rewritten, reading_refused, writing_refused}
use Rattle.lexical_rewrite_spec.specs.Chain.{Chained, arrived, reading_refused_at, writing_refused_at}
use Rattle.lexical_rewrite.specs.declared.rewrite.RewriteRefusal.{RewriteRefusal}
use Rattle.lexical_rewrite.specs.declared.rewrite.RewriteRefusal.TheVariants.{Reading, Writing}
use Rattle.lexical_rewrite.specs.declared.chain.ChainRefusal.{ChainRefusal}

abbrev pub of_rewritten : Result ℕ RewriteRefusal → Rewriting
of_rewritten (Ok n) = rewritten n
of_rewritten (Err (Reading r)) = reading_refused (reason_number r.reason) r.place
of_rewritten (Err (Writing r)) = writing_refused (reason_number r.reason) r.place

-- a refusal of the station with this number
abbrev pub refused_at : ℕ → RewriteRefusal → Chained
refused_at station (Reading r) = reading_refused_at station (reason_number r.reason) r.place
refused_at station (Writing r) = writing_refused_at station (reason_number r.reason) r.place

abbrev pub of_chained : Result ℕ ChainRefusal → Chained
of_chained (Ok n) = arrived n
of_chained (Err e) = refused_at e.station e.refusal
