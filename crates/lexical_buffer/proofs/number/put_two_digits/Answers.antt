-- `lexical_buffer::number::put_two_digits` meets its contract: two stores where there is room. Assumes nothing.
use Prim.Native.Nat.{ℕ, ◌+◌, ◌≤◌}
use mathlib.Core.Path.{◌≡◌, refl, sym, ap, ◌∙◌}
use mathlib.Core.List.{List, [], ◌∷◌, ◌++◌}
use native.Mathlib.Omega.{arith}
use borrow.Author.Tests.{leb-true, leb-false}
use lib.ListN.{length}
use Rattle.lexical_util.specs.Answer.{done}
use Rattle.lexical_write_integer_spec.specs.Write.{digits_text}
use Rattle.lexical_buffer.proofs.FewDigits.{two_numeral, decimal_asked}
use Rattle.lexical_buffer.proofs.PutLaws.{put_one, put_next, put_place, put_held, short_put}
use Rattle.lexical_buffer.proofs.number.put_two_digits.Goals.{After-lies_within, Then-lies_within}
use Rattle.lexical_buffer.proofs.number.put_two_digits.Goals as goal

-- the two bytes are the text that is asked for
abbrev text : After-lies_within → List ℕ
text c = (c.digit_byte-first.result ∷ []) ++ (c.digit_byte-last.result ∷ [])

asked : (c : After-lies_within) → digits_text c.args.value 10 1 ≡ done (text c)
asked c =
    decimal_asked c.args.value ∙ sym (ap (λ (l : List ℕ). done l) (two_numeral c.args.value _ _ c.requires.0 c.requires.1 c.digit_byte-first.ensures c.digit_byte-last.ensures))

room : (c : Then-lies_within) → let a = c.args in a.at + 2 ≤ length a.buffer.now
room c = leb-true _ _ (sym c.lies_within.ensures ∙ c.if-lies_within.true)

pub returns-then-lies_within : goal.returns-then-lies_within
returns-then-lies_within c = let a = c.args in
    let d = a.buffer.now in
    let first = c.digit_byte-first.result in
    record {
      value = sym (put_place _ (text (goal.at.returns-then-lies_within c).After-lies_within) d a.at (asked (goal.at.returns-then-lies_within c).After-lies_within) (room (goal.at.returns-then-lies_within c).Then-lies_within));
      buffer_after = put_next d _ a.at (first ∷ []) (text (goal.at.returns-then-lies_within c).After-lies_within) _ 1 (put_one d a.at first (omega (arith, room (goal.at.returns-then-lies_within c).Then-lies_within))) refl (omega (arith, room (goal.at.returns-then-lies_within c).Then-lies_within)) refl
          ∙ sym (put_held _ (text (goal.at.returns-then-lies_within c).After-lies_within) d a.at (asked (goal.at.returns-then-lies_within c).After-lies_within) (room (goal.at.returns-then-lies_within c).Then-lies_within));
    }

pub returns : goal.returns
returns c = let a = c.args in
    let s = short_put _ (text (goal.at.returns c).After-lies_within) a.buffer.now a.at (asked (goal.at.returns c).After-lies_within) (leb-false _ _ (sym c.lies_within.ensures ∙ c.if-lies_within.false)) in
    record { value = sym s.0; buffer_after = sym s.1 }
