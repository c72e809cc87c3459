-- The laws of the format's check: a digit as point or mark, the breaks, and checks in two parts. Assumes nothing.
use Prim.Native.Nat.{ℕ, zero, suc}
use mathlib.Core.Path.{◌≡◌, refl, sym, ap, ◌∙◌}
use mathlib.Core.Bool.{Bool, true, false, cond}
use mathlib.Core.List.{List, [], ◌∷◌, ◌++◌}
use Rattle.std.specs.Prelude.{Option, None, Some, is_some}
use lib.Dec.{ltb}
use lib.IntN.{ℤ, pos, negsuc}
use Rattle.lexical_util.specs.Answer.{Answer, done, refused, and_then, Check, checked}
use Rattle.lexical_util.specs.Digit.{digit_value, digit_in, is_digit}
use Rattle.lexical_format.specs.declared.format.Pair.{Pair}
use Rattle.lexical_format.specs.declared.format.NumberFormat.{NumberFormat}
use Rattle.lexical_format.specs.declared.options.Options.{Options}
use Rattle.lexical_format.specs.Code.{reading_of}
use Rattle.lexical_format.specs.Format.{pair_of, bad_bytes, bad_counts, or_absent, reading_checks, writing_checks, checked_pair, reading_format, writing_format, settled, checked_format}

-- ---- a byte by its digit value
pub digit_of : (radix x d : ℕ) → digit_value x ≡ Some d → ltb d radix ≡ is_digit radix x
unfolding is_digit digit_in
digit_of radix x d e = rw e (go (ltb d radix))
  where
    go : (t : Bool) → t ≡ is_some (cond t (Some d) None)
    go true = refl
    go false = refl

pub no_digit : (radix x : ℕ) → digit_value x ≡ None → false ≡ is_digit radix x
unfolding is_digit digit_in
no_digit radix x e = rw e

-- ---- a break
pub break_absent : (absent value : ℤ) → value ≡ pos 0 → absent ≡ or_absent absent value
break_absent absent value e = rw e

pub break_given : (absent value : ℤ) → (value ≡ pos 0 → ⊥) → value ≡ or_absent absent value
break_given absent (pos zero) differs = absurd (differs refl)
break_given absent (pos (suc n)) differs = refl
break_given absent (negsuc n) differs = refl

-- ---- the reader's checks by the numbers that they look at
pub reading_of_lem : (F : NumberFormat) (o : Options)
    → reading_of F.mantissa_radix F.exponent_base F.exponent_radix o.decimal_point o.exponent ≡ reading_format F o
unfolding reading_of reading_format pair_of bad_bytes
reading_of_lem F o = refl

-- ---- checks in two parts
checked_append : {A : Type 0} (before after : List Check) (answer : Answer A) → checked (before ++ after) answer ≡ checked before (checked after answer)
checked_append [] after answer = refl
checked_append (c ∷ cs) after answer = ap (cond c.1 (refused c.0 0)) (checked_append cs after answer)

-- a step after checks is taken once they let through
checked_then : {A B : Type 0} (checks : List Check) (a : A) (step : A → Answer B) → and_then (checked checks (done a)) step ≡ checked checks (step a)
checked_then [] a step = refl
checked_then (c ∷ cs) a step = go c.1 (checked_then cs a step)
  where
    go : (t : Bool) → and_then (checked cs (done a)) step ≡ checked cs (step a)
        → and_then (cond t (refused c.0 0) (checked cs (done a))) step ≡ cond t (refused c.0 0) (checked cs (step a))
    go true e = refl
    go false e = e

-- the writer's check is the reader's, then its own four
pub writer_after_reader : (F : NumberFormat) (o : Options) → checked_format F o ≡ and_then (reading_format F o) (λ row. checked (writing_checks (bad_counts o) F o) (done (settled o row)))
unfolding checked_format writing_format reading_format
writer_after_reader F o = go (pair_of F)
  where
    own : List Check
    own = writing_checks (bad_counts o) F o

    go : (found : Option Pair)
        → and_then (checked_pair (reading_checks F o ++ own) found) (λ row. done (settled o row))
        ≡ and_then (checked_pair (reading_checks F o) found) (λ row. checked own (done (settled o row)))
    go None = refl
    go (Some row) =
        checked_then (reading_checks F o ++ own) row (λ row. done (settled o row))
        ∙ checked_append (reading_checks F o) own (done (settled o row))
        ∙ sym (checked_then (reading_checks F o) row (λ row. checked own (done (settled o row))))
