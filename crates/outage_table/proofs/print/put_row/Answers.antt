-- `outage_table::print::put_row` meets its contract: four puts, each where the one before it ended. Assumes nothing.
use mathlib.Core.Path.{refl}
use mathlib.Core.List.{[], ◌∷◌}
use native.Mathlib.Omega.{arith}
use borrow.Author.Rules.{rules}
use Rattle.lexical_buffer.specs.Put.{Puts}
use Rattle.lexical_buffer.proofs.PutLaws.{text_puts}
use Rattle.outage_table.proofs.TextLaws.{start_room, space_room, end_room, newline_room, row_puts}
use Rattle.outage_table.proofs.print.put_row.Goals.{After-put_byte, After-put_byte-end}
use Rattle.outage_table.proofs.print.put_row.Goals as goal

space_put : (c2 : After-put_byte-end) → Puts c2.put_text-space.new.sheet c2.put_text-space.result (32 ∷ []) c2.put_byte-end.result c2.put_byte-end.new.buffer
space_put c2 =
    let a = c2.args in
    text_puts c2.put_text-space.new.sheet c2.put_text-space.result (32 ∷ []) _ _ (omega (arith, space_room a.format a.options a.window a.sheet.now a.at c2.requires.1 _ _ c2.put_text-space.auto.sheet c2.put_text-space.ensures)) (c2.put_byte-end.ensures.value, c2.put_byte-end.ensures.buffer_after)

newline_put : (c4 : After-put_byte) → Puts c4.put_text-newline.new.sheet c4.put_text-newline.result (10 ∷ []) c4.put_byte.result c4.put_byte.new.buffer
newline_put c4 =
    let space_put' : Puts c4.put_text-space.new.sheet c4.put_text-space.result (32 ∷ []) c4.put_byte-end.result c4.put_byte-end.new.buffer = let a = c4.args in
    text_puts c4.put_text-space.new.sheet c4.put_text-space.result (32 ∷ []) _ _ (omega (arith, space_room a.format a.options a.window a.sheet.now a.at c4.requires.1 _ _ c4.put_text-space.auto.sheet c4.put_text-space.ensures)) (c4.put_byte-end.ensures.value, c4.put_byte-end.ensures.buffer_after) in
    let a = c4.args in
    text_puts c4.put_text-newline.new.sheet c4.put_text-newline.result (10 ∷ []) _ _
    (omega (
      arith,
      newline_room a.format a.options a.window a.sheet.now a.at c4.requires.1 _ _ c4.put_text-space.auto.sheet c4.put_text-space.ensures
          _ _ c4.put_byte-end.auto.buffer space_put' _ _ c4.put_text-newline.auto.sheet c4.put_text-newline.ensures,
    ))
    (c4.put_byte.ensures.value, c4.put_byte.ensures.buffer_after)

pub put_text-space-requires : goal.put_text-space-requires
put_text-space-requires c = let a = c.args in
    (search rules, start_room a.format a.options a.window a.sheet.now a.at c.requires.1)

pub put_text-newline-requires : goal.put_text-newline-requires
put_text-newline-requires c = let a = c.args in (
  search rules,
  end_room a.format a.options a.window a.sheet.now a.at c.requires.1 _ _ c.put_text-space.auto.sheet c.put_text-space.ensures
      _ _ c.put_byte-end.auto.buffer (space_put (goal.at.put_text-newline-requires c).After-put_byte-end),
)

pub returns : goal.returns
returns c = let a = c.args in
    row_puts a.format a.options a.window a.sheet.now a.at c.requires.1 _ _ c.put_text-space.auto.sheet c.put_text-space.ensures
    _ _ c.put_byte-end.auto.buffer (space_put (goal.at.returns c).After-put_byte-end) _ _ c.put_text-newline.auto.sheet c.put_text-newline.ensures refl _ _ (newline_put (goal.at.returns c).After-put_byte)
