-- `lexical_format::format::find_pair` meets its contract: the search of the rows from the next one on answers what the search of all of them does. Assumes nothing.
use mathlib.Core.Path.{◌≡◌, refl, sym, ◌∙◌}
use native.Mathlib.Omega.{arith}
use Rattle.lexical_format.specs.declared.format.Pair.{Pair}
use Rattle.lexical_format.specs.Format.{pair, pairs, find_pair}
use Rattle.lexical_format.proofs.FormatLaws.{row_is_pair}
use Rattle.lexical_format.proofs.PairLaws.{find_here, find_next}
use Rattle.lexical_format.proofs.format.find_pair.Goals as goal

-- what stands past the table's end
abbrev other : Pair
other = pair 0 0 0 0

pub is_row-requires : goal.is_row-requires
unfolding pairs
is_row-requires c = let row = row_is_pair c.loop-row.row-index other (omega arith) in (row.few_bits, row.few_base_bits)

pub returns-then-is_row : goal.returns-then-is_row
unfolding pairs
returns-then-is_row c = let l = c.loop-row in
    find_here _ _ pairs l.row-index other (omega arith) (sym c.is_row.ensures ∙ c.if-is_row.true) ∙ sym l.invariant

pub loop-row-preserved : goal.loop-row-preserved
unfolding pairs
loop-row-preserved c = let l = c.loop-row in
    l.invariant ∙ find_next _ _ pairs l.row-index other (omega arith) (sym c.is_row.ensures ∙ c.if-is_row.false)

pub returns : goal.returns
unfolding pairs
returns c = let l = c.loop-row in
    let e : l.row-index ≡ 10 = omega arith in
    sym (l.invariant ∙ rw e (unfold find_pair in refl))
