-- `lexical_write_float::write::write_magnitude` meets its contract: the normal form is the float's own, and the limited value may be written. Assumes nothing.
use mathlib.Core.Path.{ap, ◌∙◌}
use mathlib.Core.List.{List}
use Prim.Native.Nat.{ℕ}
use lib.ListN.{length}
use Rattle.lexical_util.specs.Answer.{done, held}
use Rattle.lexical_write_float.proofs.FloatLaws.{normal_near, limited_near, limited_text_lem}
use Rattle.lexical_write_float.proofs.TextLaws.{known}
use Rattle.lexical_write_float.proofs.write.write_magnitude.Goals as goal

pub truncate_and_round-limited-requires : goal.truncate_and_round-limited-requires
truncate_and_round-limited-requires c = let K = known _ _ _ c.requires.0 in
    let n = normal_near _ c.requires.1 _ c.normalized-exact.ensures in
    (n.0, n.1, K.some_bits, K.few_bits, K.few_most)

pub write_value-requires : goal.write_value-requires
write_value-requires c = (c.requires.0, limited_near _ c.requires.1 _ c.normalized-exact.ensures _ _ _ _ (known _ _ _ c.requires.0).some_bits c.truncate_and_round-limited.ensures)

pub returns : goal.returns
returns c = let a = c.args in
    let same = limited_text_lem _ c.requires.1 _ c.normalized-exact.ensures a.format a.options a.checked _ c.truncate_and_round-limited.ensures in
    record { value = c.write_value.ensures.value ∙ ap length same; buffer_after = c.write_value.ensures.buffer_after ∙ ap (λ (x : List ℕ). held (done x) a.buffer.now) same }
