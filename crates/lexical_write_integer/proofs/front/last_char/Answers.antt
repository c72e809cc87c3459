-- `lexical_write_integer::front::last_char` meets its contract: the mask keeps the remainder, whose byte the table has. Assumes nothing.
use mathlib.Core.Path.{ap, ◌∙◌}
use native.Mathlib.Omega.{arith}
use Rattle.lexical_util.specs.Digit.{digit_byte}
use Rattle.lexical_write_integer.proofs.FillLaws.{mask_is, masked, masked_lt}
use Rattle.lexical_write_integer.proofs.front.last_char.Goals as goal

pub lent_char-requires : goal.lent_char-requires
lent_char-requires c = let a = c.args in masked_lt a.b a.value _ (omega arith) (mask_is a.b (omega arith))

pub returns : goal.returns
returns c = let a = c.args in
    let m = mask_is a.b (omega arith) in
    c.lent_char.ensures ∙ c.requires.0.at _ (masked_lt a.b a.value _ (omega arith) m) ∙ ap digit_byte (masked a.b a.value _ m)
