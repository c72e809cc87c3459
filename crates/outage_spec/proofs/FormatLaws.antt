-- A format that table to sheet takes: the writer admits it, the reader takes it, and it has no digit limit. Assumes nothing.
use mathlib.Core.Path.{◌≡◌, sym, ap, ◌∙◌}
use mathlib.Core.Bool.{Bool, false}
use mathlib.Core.List.{◌++◌}
use Rattle.std.specs.Prelude.{Option, None, Some}
use borrow.Author.Tests.{not-false, eqb-true}
use lib.Dec.{eqb}
use Rattle.lexical_util.specs.Answer.{done}
use Rattle.lexical_util.proofs.AnswerLaws.{refused_done, passed}
use Rattle.lexical_format.specs.declared.format.NumberFormat.{NumberFormat}
use Rattle.lexical_format.specs.declared.format.Pair.{Pair}
use Rattle.lexical_format.specs.declared.options.Options.{Options}
use Rattle.lexical_format.specs.Format.{pair_of, bad_counts, reading_checks, writing_checks, checked_pair, reading_format, judged_format, writing_format}
use Rattle.lexical_format.proofs.FormatLaws.{neither, writable_reads}
use Rattle.outage_spec.specs.Calls.{sheet_format}

pub record Taken (F : NumberFormat) (o : Options) (row : Pair) : Type 0 where
  pub writes : writing_format F o ≡ done row
  pub reads : reading_format F o ≡ done row
  pub no_limit : o.max_significant_digits ≡ 0

pub taken : (F : NumberFormat) (o : Options) (row : Pair) → sheet_format F o ≡ done row → Taken F o row
unfolding sheet_format writing_format
taken F o row e =
    let q = no_bad_count _ (pair_of F) e in
    let counts = neither (bad_counts o) _ q in
    let w : writing_format F o ≡ done row = ap (λ (b : Bool). judged_format b F o) (counts.0 ∙ sym q) ∙ e in
    record {
      writes = w;
      reads = writable_reads F o row w;
      no_limit = eqb-true o.max_significant_digits 0 (not-false (eqb o.max_significant_digits 0) counts.1);
    }
  where
    no_bad_count : (b : Bool) (p : Option Pair) → checked_pair (reading_checks F o ++ writing_checks b F o) p ≡ done row → b ≡ false
    no_bad_count b None e = absurd (refused_done 1 0 row e)
    no_bad_count b (Some found) e = (passed (reading_checks F o ++ writing_checks b F o) found row e).0.1.1.1.0
