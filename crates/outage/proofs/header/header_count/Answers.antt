-- `outage::header::header_count` meets its contract: the checks of the header in their order. Assumes nothing.
use mathlib.Core.Path.{◌≡◌, refl, ◌∙◌}
use native.Mathlib.Omega.{arith}
use Rattle.outage_spec.specs.Words.{word_at}
use Rattle.outage_spec.proofs.PartLaws.{part_word}
use Rattle.outage.proofs.HeaderLaws.{count_short, count_many, count_field, count_lent, count_is}
use Rattle.outage.proofs.header.header_count.Goals.{After-word_of, After-word_of-n}
use Rattle.outage.proofs.header.header_count.Goals as goal

-- the count that is read
count : (c : After-word_of-n) → let t = c.args.table.now in c.word_of-n.result ≡ word_at 4 t 0
count c = let t = c.args.table.now in c.word_of-n.ensures ∙ part_word t 0 4 4 refl (omega arith)

-- the length that is read
field : (c : After-word_of) → let t = c.args.table.now in c.word_of.result ≡ word_at 4 t 4
field c = let t = c.args.table.now in c.word_of.ensures ∙ part_word t 4 8 4 refl (omega arith)

pub returns-then-table-lt-HEADER_SIZE : goal.returns-then-table-lt-HEADER_SIZE
returns-then-table-lt-HEADER_SIZE c = λ number. count_short number _ (omega arith)

pub returns-then-n-gt-MOST : goal.returns-then-n-gt-MOST
returns-then-n-gt-MOST c = λ number. count_many number _ _ (count (goal.at.returns-then-n-gt-MOST c).After-word_of-n) (omega arith) (omega arith)

pub returns-then-word_of-n : goal.returns-then-word_of-n
returns-then-word_of-n c = λ number. count_field number _ _ (count (goal.at.returns-then-word_of-n c).After-word_of-n) (omega arith) _ (field (goal.at.returns-then-word_of-n c).After-word_of) (omega arith) c.if-word_of-n.true

pub returns-then-table-n : goal.returns-then-table-n
returns-then-table-n c = λ number. count_lent number _ _ (count (goal.at.returns-then-table-n c).After-word_of-n) (omega arith) _ (field (goal.at.returns-then-table-n c).After-word_of) (omega arith) (omega arith) c.if-table-n.true

pub returns : goal.returns
returns c = λ number. count_is number _ _ (count (goal.at.returns c).After-word_of-n) (omega arith) _ (field (goal.at.returns c).After-word_of) (omega arith) (omega arith) (omega arith)
