-- `lexical_write_integer::front::step_by_pair` meets its contract: the pair of the table is the next two digits. Assumes nothing.
use Prim.Native.Nat.{◌+◌, ◌*◌}
use native.Mathlib.Numerals.{add-one}
use native.Mathlib.Omega.{arith}
use lib.ListN.{get_or}
use Rattle.lexical_write_integer.proofs.PairLaws.{pair_digits}
use Rattle.lexical_write_integer.proofs.StepLaws.{stored}
use Rattle.lexical_write_integer.proofs.front.step_by_pair.Goals as goal

pub returns : goal.returns
returns c = let a = c.args in
    let p = c.last_pair-pair.ensures in
    let f = stored a.b a.value a.count a.at 2 _ a.buffer.now (omega arith) (omega arith) (pair_digits a.b a.table.now c.requires.0 _ (get_or a.table.now (2 * c.last_pair-pair.result) 0) (get_or a.table.now (2 * c.last_pair-pair.result + 1) 0) (rw p) (rw p)) in
    record { value = omega arith; buffer_after = rw (add-one a.at) (f.0); grows = rw (add-one a.at) (f.1) }
