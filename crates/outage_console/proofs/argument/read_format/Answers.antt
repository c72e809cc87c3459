-- `outage_console::argument::read_format` meets its contract, by the parts between the slashes. Assumes nothing.
use mathlib.Core.Path.{sym, ap, ◌∙◌}
use Rattle.outage_spec.specs.Sheet.{number_in}
use Rattle.outage_console.proofs.ArgumentLaws.{behind, in_front, one_part, two_parts, three_parts}
use Rattle.outage_console.proofs.argument.read_format.Goals as goal

pub returns-then-first-text : goal.returns-then-first-text
returns-then-first-text c = one_part c.args.text.now (sym c.find-first.ensures.value ∙ c.if-first-text.true)

pub returns-then-second-rest : goal.returns-then-second-rest
returns-then-second-rest c = let text = c.args.text.now in
    two_parts text _ (behind text c.find-first.result c.find-first.ensures.value) (sym c.find-second.ensures.value ∙ c.if-second-rest.true)

pub returns : goal.returns
returns c = let text = c.args.text.now in
    let k = c.find-first.ensures.value in
    let j = c.find-second.ensures.value in
    let radix = c.read_number-radix.ensures ∙ ap (number_in 32) (in_front text _ k) in
    let base = c.read_number-base.ensures ∙ ap (number_in 32) (in_front _ _ j) in
    let power = c.read_number.ensures ∙ ap (number_in 32) (sym (behind _ _ j)) in
    c.of_numbers.ensures ∙ rw (radix, base, power) (three_parts text _ (behind text _ k))
