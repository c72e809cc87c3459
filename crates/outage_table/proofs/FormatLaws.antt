-- The check of a sheet's format by the writer's: they differ in refusal 5 alone. Assumes nothing.
use Prim.Native.Nat.{ℕ}
use mathlib.Core.Path.{◌≡◌, sym, ap, ◌∙◌}
use mathlib.Core.Bool.{Bool, not, ◌||◌, or-true, or-false}
use borrow.Author.Tests.{ne_eqb}
use lib.Dec.{ltb}
use Rattle.lexical_util.specs.Answer.{done, and_then}
use Rattle.lexical_format.specs.declared.format.NumberFormat.{NumberFormat}
use Rattle.lexical_format.specs.declared.options.Options.{Options}
use Rattle.lexical_format.specs.Format.{bad_bytes, bad_counts, bad_breaks, given, settled, writing_format, checked_format, most_count}
use Rattle.outage_spec.specs.Calls.{sheet_format}

-- ---- options that differ in the digit limit
abbrev pub limited_to : ℕ → Options → Options
limited_to limit o =
    record {
      max_significant_digits = limit;
      min_significant_digits = o.min_significant_digits;
      positive_exponent_break = o.positive_exponent_break;
      negative_exponent_break = o.negative_exponent_break;
      exponent_width = o.exponent_width;
      round_mode = o.round_mode;
      trim_floats = o.trim_floats;
      exponent = o.exponent;
      decimal_point = o.decimal_point;
    }

pub counts_none : (o : Options) → o.max_significant_digits ≡ 0 → bad_counts (limited_to 0 o) ≡ (bad_counts o || given o.max_significant_digits)
unfolding bad_counts
counts_none o e = rw (e, or-false)

pub counts_some : (o : Options) → (o.max_significant_digits ≡ 0 → ⊥) → bad_counts (limited_to 1201 o) ≡ (bad_counts o || given o.max_significant_digits)
unfolding bad_counts
counts_some o h = or-true (ltb most_count o.min_significant_digits) ∙ sym (or-true (bad_counts o)) ∙ ap (λ (b : Bool). bad_counts o || not b) (sym (ne_eqb o.max_significant_digits 0 h))

pub checked_limited : (F : NumberFormat) (o : Options) (limit : ℕ) → bad_counts (limited_to limit o) ≡ (bad_counts o || given o.max_significant_digits)
    → checked_format F (limited_to limit o) ≡ and_then (sheet_format F o) (λ row. done (settled o row))
unfolding checked_format writing_format sheet_format bad_bytes bad_breaks
checked_limited F o limit e = rw e
