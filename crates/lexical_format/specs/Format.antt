-- Formats, and the check of a format: document 01, "Formats" and refusals 1 to 6; document 02, 2.2 and refusal 16. Definitions only.
use Rattle.std.specs.Prelude.{ℕ, zero, suc, Bool, not, cond, ◌&&◌, ◌||◌, List, [], ◌∷◌, ◌++◌, ltb, eqb, ℤ, pos, negsuc, neg_ℤ, Option, None, Some}
use Rattle.std.specs.Int.Signed.{lt_z}
use Rattle.lexical_util.specs.Answer.{Answer, done, refused, and_then, Check, checked}
use Rattle.lexical_util.specs.Digit.{is_digit, is_radix, is_width}
use Rattle.lexical_format.specs.declared.checks.CheckedFormat.{CheckedFormat}
use Rattle.lexical_format.specs.declared.format.Pair.{Pair}
use Rattle.lexical_format.specs.declared.format.NumberFormat.{NumberFormat}
use Rattle.lexical_format.specs.declared.options.Options.{Options}

-- ---- the ten pairs with their two bit counts, b of the radix and c of the base
abbrev pub pair : ℕ → ℕ → ℕ → ℕ → Pair
pair radix base b c = record { radix = radix; base = base; b = b; c = c }

unfoldable pub pairs : List Pair
pairs =
    pair 2 2 1 1 ∷ pair 4 4 2 2 ∷ pair 8 8 3 3 ∷ pair 16 16 4 4 ∷ pair 32 32 5 5
    ∷ pair 4 2 2 1 ∷ pair 8 2 3 1 ∷ pair 16 2 4 1 ∷ pair 32 2 5 1 ∷ pair 16 4 4 2 ∷ []

-- the row of a radix and a base
unfoldable pub find_pair : ℕ → ℕ → List Pair → Option Pair
find_pair radix base [] = None
find_pair radix base (p ∷ ps) = let others = find_pair radix base ps in cond (eqb p.radix radix && eqb p.base base) (Some p) others

unfoldable pub pair_of : NumberFormat → Option Pair
pair_of F = find_pair F.mantissa_radix F.exponent_base pairs

-- ---- 3: point or mark outside bytes 33 to 126, equal, "+", "-", or a digit of the radix
unfoldable pub bad_byte : ℕ → ℕ → Bool
bad_byte radix x = ltb x 33 || (ltb 126 x || (eqb x 43 || (eqb x 45 || is_digit radix x)))

unfoldable pub bad_bytes : NumberFormat → Options → Bool
bad_bytes F o =
    bad_byte F.mantissa_radix o.decimal_point || (bad_byte F.mantissa_radix o.exponent || eqb o.decimal_point o.exponent)

-- ---- 5: a count above 1,200, or both given and least above most
abbrev pub most_count : ℕ
most_count = 1200

-- 0 is none
abbrev pub given : ℕ → Bool
given n = not (eqb n 0)

unfoldable pub bad_counts : Options → Bool
bad_counts o =
    ltb most_count o.min_significant_digits || (ltb most_count o.max_significant_digits
    || (given o.min_significant_digits && (given o.max_significant_digits && ltb o.max_significant_digits o.min_significant_digits)))

-- ---- the breaks, in bits
-- 0 means absent
abbrev pub or_absent : ℤ → ℤ → ℤ
or_absent absent (pos zero) = absent
or_absent absent (pos (suc n)) = pos (suc n)
or_absent absent (negsuc n) = negsuc n

-- low break: 0 means -5
abbrev pub low_break : Options → ℤ
low_break o = or_absent (negsuc 4) o.negative_exponent_break

-- high break: 0 means 9
abbrev pub high_break : Options → ℤ
high_break o = or_absent (pos 9) o.positive_exponent_break

abbrev pub outside : ℤ → ℤ → ℤ → Bool
outside least most z = lt_z z least || lt_z most z

-- 6 a break out of range: low -2,000 to -1, high 1 to 2,000
abbrev pub farthest_break : ℕ
farthest_break = 2000

unfoldable pub bad_breaks : Options → Bool
bad_breaks o = outside (neg_ℤ (pos farthest_break)) (negsuc 0) (low_break o) || outside (pos 1) (pos farthest_break) (high_break o)

-- ---- the checks of a format in their order; what passes them answers the pair's row, from which b and c come
-- 2 exponent radix unknown; 3 point or mark
abbrev pub reading_checks : NumberFormat → Options → List Check
reading_checks F o = (2, not (is_radix F.exponent_radix)) ∷ (3, bad_bytes F o) ∷ []

-- and for the writer: 6 breaks; 16 width not 1 to 4
abbrev pub exponent_checks : Options → List Check
exponent_checks o = (6, bad_breaks o) ∷ (16, not (is_width o.exponent_width)) ∷ []

-- and before these 4 exponent both required and forbidden; 5 counts, as they are judged
abbrev pub writing_checks : Bool → NumberFormat → Options → List Check
writing_checks bad_count F o = (4, F.required_exponent_notation && F.no_exponent_notation) ∷ (5, bad_count) ∷ exponent_checks o

-- 1 pair unknown, then the others
abbrev pub checked_pair : List Check → Option Pair → Answer Pair
checked_pair checks None = refused 1 0
checked_pair checks (Some row) = checked checks (done row)

-- the reader's 1, 2, 3
unfoldable pub reading_format : NumberFormat → Options → Answer Pair
reading_format F o = checked_pair (reading_checks F o) (pair_of F)

-- 1 to 6 and 16, with 5 judged so
abbrev pub judged_format : Bool → NumberFormat → Options → Answer Pair
judged_format bad_count F o = checked_pair (reading_checks F o ++ writing_checks bad_count F o) (pair_of F)

-- the writer's 1 to 6 and 16
unfoldable pub writing_format : NumberFormat → Options → Answer Pair
writing_format F o = judged_format (bad_counts o) F o

-- ---- what the calls answer
-- what the writer's later steps need: b, c, and the breaks, in bits, with none absent
abbrev pub settled : Options → Pair → CheckedFormat
settled o row = record { b = row.b; c = row.c; negative_exponent_break = record { 0 = low_break o }; positive_exponent_break = record { 0 = high_break o } }

unfoldable pub checked_format : NumberFormat → Options → Answer CheckedFormat
checked_format F o = and_then (writing_format F o) (λ row. done (settled o row))
