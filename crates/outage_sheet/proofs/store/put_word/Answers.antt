-- `outage_sheet::store::put_word` meets its contract. The loop's invariant: the bytes put, and those of the rest, make the whole. Assumes nothing.
use Prim.Native.Nat.{ℕ, suc, ◌+◌, ◌-◌, ◌%◌, ◌/◌}
use mathlib.Core.Path.{◌≡◌}
use mathlib.Core.List.{[], ◌∷◌, append_assoc, append-nil}
use native.Mathlib.Omega.{arith}
use lib.ListN.{take, length-take, length-drop}
use Rattle.std.proofs.lemmas.List.{take_more_set}
use Rattle.lexical_buffer.proofs.PutLaws.{mid_put}
use Rattle.outage_spec.specs.Words.{to_bytes}
use Rattle.outage_spec.proofs.WordLaws.{bytes_more, bytes_none, bytes_length}
use Rattle.outage_sheet.proofs.store.put_word.Goals as goal

pub loop-byte-preserved : goal.loop-byte-preserved
loop-byte-preserved c = let l = c.loop-byte in
    let a = c.args in
    let i = l.byte-index in
    let left = a.size - (i + 1) in
    let z : a.size - i ≡ suc left = omega (arith, length-take {A = ℕ}, length-drop {A = ℕ}) in
    let m = rw (z, bytes_more left l.rest) at l.invariant in
    rw (take_more_set l.byte-items i (l.rest % 256) (omega arith), append_assoc (take i l.byte-items) (l.rest % 256 ∷ []) (to_bytes left (l.rest / 256))) m

pub returns : goal.returns
returns c = let l = c.loop-byte in
    let a = c.args in
    let end : l.byte-index ≡ a.size = omega (arith, length-take {A = ℕ}, length-drop {A = ℕ}) in
    let z : a.size - l.byte-index ≡ 0 = omega arith in
    let all : take a.size l.byte-items ≡ to_bytes a.size a.value = rw (z, bytes_none l.rest, append-nil (take l.byte-index l.byte-items), end) at l.invariant in
    mid_put a.table.now l.byte-items (to_bytes a.size a.value) a.at _ a.size all (omega (arith, length-take {A = ℕ}, length-drop {A = ℕ})) (omega (arith, bytes_length a.size a.value))
