-- The shape that a text has, or the place of refusal 9: document 01, "Reader" and "Read a float", with the sign of document 02, 2.3. Definitions only.
use Rattle.std.specs.Prelude.{ℕ, ◌+◌, ◌-◌, ◌≤◌, ◌<◌, Bool, true, false, cond, List, [], ◌∷◌, eqb, length, take, drop, Option, None, Some}
use Rattle.lexical_util.specs.Answer.{Answer, done, refused}
use Rattle.lexical_util.specs.Digit.{digit_in}
use Rattle.lexical_float.specs.Sign.{minus_sign}
use Rattle.lexical_read_float_spec.specs.Shape.{Grammar, Sign, unsigned, plus, minus, Tail, absent, exponent, Shape, WellShaped, Begins}

-- the digits of a radix in front of a text, and what is left of it
pub record Run : Type 0 where
  pub got : List ℕ
  pub left : List ℕ

abbrev pub more : ℕ → List ℕ → Option ℕ → Run → Run
more x xs None r = record { got = []; left = x ∷ xs }
more x xs (Some d) r = record { got = d ∷ r.got; left = r.left }

unfoldable pub run : ℕ → List ℕ → Run
run radix [] = record { got = []; left = [] }
run radix (x ∷ xs) = let r = run radix xs in more x xs (digit_in radix x) r

-- what was read, or what was left of the text where it went wrong
pub data Parsed (A : Type 0) : Type 0 where
  found : A → Parsed A
  stuck : List ℕ → Parsed A

abbrev pub map_parsed : {A B : Type 0} → (A → B) → Parsed A → Parsed B
map_parsed f (found a) = found (f a)
map_parsed f (stuck left) = stuck left

-- one or more exponent digits, and nothing behind them
abbrev pub all_digits : Sign → List ℕ → List ℕ → Parsed Tail
all_digits s [] left = stuck left
all_digits s (d ∷ ds) [] = found (exponent s (d ∷ ds))
all_digits s (d ∷ ds) (x ∷ xs) = stuck (x ∷ xs)

abbrev pub exponent_digits : ℕ → Sign → List ℕ → Parsed Tail
exponent_digits exponent_radix s t = all_digits s (run exponent_radix t).got (run exponent_radix t).left

-- a "+" or "-" or neither
unfoldable pub signed_exponent : ℕ → List ℕ → Parsed Tail
signed_exponent exponent_radix [] = stuck []
signed_exponent exponent_radix (x ∷ xs) =
    cond (eqb x 43) (exponent_digits exponent_radix plus xs)
    (cond (eqb x 45) (exponent_digits exponent_radix minus xs)
    (exponent_digits exponent_radix unsigned (x ∷ xs)))

-- optionally mark and exponent
unfoldable pub parse_tail : Grammar → List ℕ → Parsed Tail
parse_tail G [] = found absent
parse_tail G (x ∷ xs) = cond (eqb x G.mark) (signed_exponent G.exponent_radix xs) (stuck (x ∷ xs))

-- no sign is told yet
abbrev pub with_tail : List ℕ → Bool → List ℕ → Tail → Shape
with_tail whole dot fraction tail = record { negative = false; whole = whole; dot = dot; fraction = fraction; tail = tail }

-- point and any digits
abbrev pub after_point : Grammar → List ℕ → Run → Parsed Shape
after_point G whole r = map_parsed (with_tail whole true r.got) (parse_tail G r.left)

-- optionally
unfoldable pub after_whole : Grammar → List ℕ → List ℕ → Parsed Shape
after_whole G whole [] = found (with_tail whole false [] absent)
after_whole G whole (x ∷ xs) =
    cond (eqb x G.point) (after_point G whole (run G.radix xs)) (map_parsed (with_tail whole false []) (parse_tail G (x ∷ xs)))

-- one or more digits
abbrev pub one_or_more : Grammar → List ℕ → List ℕ → Parsed Shape
one_or_more G [] left = stuck left
one_or_more G (d ∷ ds) left = after_whole G (d ∷ ds) left

unfoldable pub parse_unsigned : Grammar → List ℕ → Parsed Shape
parse_unsigned G t = one_or_more G (run G.radix t).got (run G.radix t).left

-- whether a text begins with a byte
abbrev pub begins_with : ℕ → List ℕ → Bool
begins_with byte [] = false
begins_with byte (x ∷ xs) = eqb x byte

-- the same shape, with its sign told
abbrev pub with_sign : Bool → Shape → Shape
with_sign negative s = record { negative = negative; whole = s.whole; dot = s.dot; fraction = s.fraction; tail = s.tail }

-- optionally one leading "-", then what would be the text
unfoldable pub parse : Grammar → List ℕ → Parsed Shape
parse G t = let negative = begins_with 45 t in map_parsed (with_sign negative) (parse_unsigned G (drop (length (minus_sign negative)) t))

-- 9 wrong shape, place the first byte no text could have there, or the length if it ends early
abbrev pub of_parsed : List ℕ → Parsed Shape → Answer Shape
of_parsed t (found s) = done s
of_parsed t (stuck left) = refused 9 (length t - length left)

unfoldable pub shape_of : Grammar → List ℕ → Answer Shape
shape_of G t = of_parsed t (parse G t)

-- ---- what that place means: some text begins as t does up to it, none has its byte there, and t is no text
pub record WrongAt (G : Grammar) (t : List ℕ) (i : ℕ) : Type 0 where
  pub within : i ≤ length t
  pub before : (j : ℕ) → j ≤ i → Begins G (take j t)
  pub here : i < length t → Begins G (take (i + 1) t) → ⊥
  pub unshaped : WellShaped G t → ⊥
