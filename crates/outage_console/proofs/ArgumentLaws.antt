-- A format's name by its parts, and where a part is missing. Assumes nothing.
use Prim.Native.Nat.{ℕ, ◌+◌, ◌-◌}
use mathlib.Core.Path.{◌≡◌, refl, sym, ap, subst}
use mathlib.Core.List.{List, []}
use Rattle.std.specs.Prelude.{Option, None, Some, IfSome}
use native.Mathlib.Omega.{arith}
use borrow.Author.Rules.{part_to_end}
use lib.ListN.{length, take, drop, drop_of_length-le}
use Rattle.lexical_util.specs.Answer.{Answer, done, refused, and_then}
use Rattle.lexical_format.specs.declared.checks.CheckedFormat.{CheckedFormat}
use Rattle.lexical_format.specs.declared.format.Pair.{Pair}
use Rattle.lexical_format.specs.Format.{settled, writing_format, checked_format}
use Rattle.lexical_util.proofs.AnswerLaws.{refused_done}
use Rattle.lexical_rewrite_spec.specs.declared.text_format.TextFormat.{TextFormat}
use Rattle.outage_spec.specs.Format.{sheet_in}
use Rattle.outage_spec.specs.Sheet.{before, number_in}
use Rattle.outage_spec.proofs.BeforeLaws.{before_take}
use Rattle.outage_spec.proofs.NumberLaws.{in_none}
use Rattle.outage_console.specs.Argument.{if_admitted, admitted, of_numbers, format_named}

-- ---- what the format's check tells
module _ (F : TextFormat) where
  pub passed_admitted : (f : CheckedFormat) → checked_format F.format F.options ≡ done f → Some F ≡ admitted F
  unfolding checked_format
  passed_admitted f e = go (writing_format F.format F.options) e
    where
      go : (a : Answer Pair) → and_then a (λ row. done (settled F.options row)) ≡ done f → Some F ≡ if_admitted F a
      go (done row) e = refl
      go (refused n p) e = absurd (refused_done n p f e)

  pub refused_admitted : (n p : ℕ) → checked_format F.format F.options ≡ refused n p → None ≡ admitted F
  unfolding checked_format
  refused_admitted n p e = go (writing_format F.format F.options) e
    where
      go : (a : Answer Pair) → and_then a (λ row. done (settled F.options row)) ≡ refused n p → None ≡ if_admitted F a
      go (done row) e = absurd (refused_done n p (settled F.options row) (sym e))
      go (refused m q) e = refl

-- ---- the slices that the code takes
pub behind : (text : List ℕ) (k : ℕ) → k ≡ length (before 47 text) → drop (length (before 47 text) + 1) text ≡ take (length text - (k + 1)) (drop (k + 1) text)
behind text k e = rw (sym e) (sym (part_to_end text (k + 1)))

pub in_front : (text : List ℕ) (k : ℕ) → k ≡ length (before 47 text) → take (k - 0) text ≡ before 47 text
in_front text k e =
    let all : k - 0 ≡ length (before 47 text) = omega arith in
    rw all (before_take 47 text)

-- ---- three numbers
no_base : (radix power : Option ℕ) → None ≡ of_numbers radix None power
no_base None power = refl
no_base (Some r) power = refl

no_power : (radix base : Option ℕ) → None ≡ of_numbers radix base None
no_power None base = refl
no_power (Some r) None = refl
no_power (Some r) (Some b) = refl

module _ (text : List ℕ) where
  -- no "/"
  pub one_part : length (before 47 text) ≡ length text → None ≡ format_named text
  unfolding format_named before
  one_part h =
      let rest : drop (length (before 47 text) + 1) text ≡ [] = drop_of_length-le text {i = length (before 47 text) + 1} (omega arith) in
      rw (rest, in_none 32 [] refl) (no_base (number_in 32 (before 47 text)) None)

  module _ (rest : List ℕ) (is-rest : drop (length (before 47 text) + 1) text ≡ rest) where
    -- one "/"
    pub two_parts : length (before 47 rest) ≡ length rest → None ≡ format_named text
    unfolding format_named
    two_parts h =
        let power : drop (length (before 47 rest) + 1) rest ≡ [] = drop_of_length-le rest {i = length (before 47 rest) + 1} (omega arith) in
        rw (is-rest, power, in_none 32 [] refl) (no_power (number_in 32 (before 47 text)) (number_in 32 (before 47 rest)))

    pub three_parts : of_numbers (number_in 32 (before 47 text)) (number_in 32 (before 47 rest)) (number_in 32 (drop (length (before 47 rest) + 1) rest)) ≡ format_named text
    unfolding format_named
    three_parts = rw is-rest

-- ---- a format that is named is admitted
stays_admitted : (F G : TextFormat) → admitted F ≡ Some G → admitted G ≡ Some G
stays_admitted F G e = go (writing_format F.format F.options) refl e
  where
    go : (a : Answer Pair) → writing_format F.format F.options ≡ a → if_admitted F a ≡ Some G → admitted G ≡ Some G
    go (done row) p q = let same : F ≡ G = cc in subst (λ (H : TextFormat). admitted H ≡ Some H) same (ap (if_admitted F) p)
    go (refused n k) p q = absurd (let z : ◌≡◌ {A = ℕ} 0 1 = cc in omega arith)

pub named_admitted : (text : List ℕ) (G : TextFormat) → format_named text ≡ Some G → admitted G ≡ Some G
unfolding format_named
named_admitted text G e = go _ _ _ e
  where
    go : (a b c : Option ℕ) → of_numbers a b c ≡ Some G → admitted G ≡ Some G
    go None b c q = absurd (let z : ◌≡◌ {A = ℕ} 0 1 = cc in omega arith)
    go (Some x) None c q = absurd (let z : ◌≡◌ {A = ℕ} 0 1 = cc in omega arith)
    go (Some x) (Some y) None q = absurd (let z : ◌≡◌ {A = ℕ} 0 1 = cc in omega arith)
    go (Some x) (Some y) (Some z) q = stays_admitted (sheet_in x y z) G q

pub named_if : (text : List ℕ) (r : Option TextFormat) → r ≡ format_named text → IfSome r (λ F. admitted F ≡ Some F)
named_if text None e = tt
named_if text (Some F) e = named_admitted text F (sym e)
