-- No chain of stations loses a row: each rewrites what it reads, and the last sheet is read as the first one is. Assumes nothing.
use Prim.Native.Nat.{ℕ}
use mathlib.Core.Path.{refl, sym, ◌∙◌}
use mathlib.Core.List.{List, [], ◌∷◌}
use native.Mathlib.Omega.{arith}
use Rattle.lexical_rewrite_spec.specs.declared.text_format.TextFormat.{TextFormat}
use Rattle.outage_spec.specs.Table.{table_size, most_windows}
use Rattle.outage_spec.specs.Format.{printed}
use Rattle.outage_spec.proofs.LengthLaws.{sheet_short}
use Rattle.outage_spec.proofs.TableLaws.{header}
use Rattle.outage_spec.proofs.WayBackLaws.{printed as printed-table, table_again}
use Rattle.outage_spec.proofs.WordLaws.{AreBytes}
use Rattle.outage_console.specs.Week.{stations, SheetReturns, TableReturns}
use Rattle.outage_console.proofs.ScreenLaws.{reading_short, rewriting_again, same_rows}

pub sheet_returns : (F : TextFormat) (s : List ℕ) → SheetReturns F s
unfolding stations
sheet_returns F s t e [] h = record { last = s; never_refused = refl; comes_back = e }
sheet_returns F s t e (G ∷ Gs) h =
    let next = rewriting_again F G s t e h.0.0 h.0.1 in
    let rest = sheet_returns G next.0 t (same_rows F G s next.0 next.1 ∙ e) Gs h.1 in
    record { last = rest.last; never_refused = rw next.1 rest.never_refused; comes_back = rest.comes_back }

pub table_returns : (t : List ℕ) → AreBytes t → TableReturns t
table_returns t bytes s e =
    let k = printed-table printed.format printed.options t s e in
    let h = header t k.count k.is_count in
    let short = sheet_short printed.format printed.options t s e in
    sheet_returns printed s t
    (sym (reading_short printed s (table_size most_windows) (omega arith) (omega arith)) ∙ table_again printed.format printed.options t s bytes e (table_size most_windows) (omega (arith, h.size, h.few)))
