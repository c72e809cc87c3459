-- What the laws of reading say, of every format that passes the reader's checks 1, 2, 3. Statements only; `ReadLaws` proves them, and `Edge` what is said of the edge.
use Rattle.std.specs.Prelude.{ℕ, ◌*◌, ◌≤◌, ◌<◌, ◌≡◌, Bool, false, not, List, length, Float}
use Rattle.std.specs.Float.{Format}
use Rattle.std.specs.Float.Ieee.{round}
use Rattle.std.specs.Float.Ieee.Exact.{HasValue}
use Rattle.std.specs.Float.Ieee.Scale.{finite}
use Rattle.lexical_util.specs.Answer.{Answer, done, refused}
use Rattle.lexical_float.specs.Sign.{sign_bit}
use Rattle.lexical_format.specs.declared.format.Pair.{Pair}
use Rattle.lexical_format.specs.declared.format.NumberFormat.{NumberFormat}
use Rattle.lexical_format.specs.declared.options.Options.{Options}
use Rattle.lexical_format.specs.Format.{reading_format}
use Rattle.lexical_read_float_spec.specs.Shape.{Shape, WellFormed, print}
use Rattle.lexical_read_float_spec.specs.Parse.{begins_with, shape_of, WrongAt}
use Rattle.lexical_read_float_spec.specs.Round.{largest, too_large, Nearest}
use Rattle.lexical_read_float_spec.specs.Read.{grammar_of, magnitude, numerator, denominator, read_float, longest_read, greatest_exponent}

-- what is printed is read back as the same shape
abbrev pub PrintedIsRead : Type 0
PrintedIsRead =
    (F : NumberFormat) (o : Options) (row : Pair) (s : Shape) → reading_format F o ≡ done row → WellFormed (grammar_of F o) s
    → shape_of (grammar_of F o) (print (grammar_of F o) s) ≡ done s

-- a shape is found only where it is printed so
abbrev pub FoundIsPrinted : Type 0
FoundIsPrinted =
    (F : NumberFormat) (o : Options) (row : Pair) (t : List ℕ) (s : Shape) → reading_format F o ≡ done row → shape_of (grammar_of F o) t ≡ done s
    → WellFormed (grammar_of F o) s × (print (grammar_of F o) s ≡ t)

-- else it is refusal 9, and its place the least at which no well-shaped text begins so
abbrev pub PlaceIsLeast : Type 0
PlaceIsLeast =
    (F : NumberFormat) (o : Options) (row : Pair) (t : List ℕ) (number place : ℕ) → reading_format F o ≡ done row → shape_of (grammar_of F o) t ≡ refused number place
    → (number ≡ 9) × WrongAt (grammar_of F o) t place

-- 11 begins exactly where the rounding rule gives an infinity
abbrev pub TooLargeIsInfinite : Type 0
TooLargeIsInfinite = (f : Format) (s : Bool) (a c : ℕ) → 0 < c → too_large f a c ≡ not (finite (round f s a c))

-- from the largest finite float up to there it gives that float
abbrev pub RoundIsLargest : Type 0
RoundIsLargest = (f : Format) (s : Bool) (a c : ℕ) → 0 < c → largest f * c ≤ a → too_large f a c ≡ false → HasValue (round f s a c) s (largest f) 1

-- the rounding rule picks a nearest float, for a value a / c that is not too large
abbrev pub RoundIsNearest : Type 0
RoundIsNearest = (f : Format) (s : Bool) (a c : ℕ) → 0 < c → too_large f a c ≡ false → Nearest f s a c (round f s a c)

-- and no other float is nearest
abbrev pub OnlyOneIsNearest : Type 0
OnlyOneIsNearest = (f : Format) (s : Bool) (a c : ℕ) (x : Float) → 0 < c → too_large f a c ≡ false → Nearest f s a c x → x ≡ round f s a c

-- the float read is the nearest to the text's value, the even one of two; its sign bit is set exactly when the text begins with "-"
pub record NearestToText (f : Format) (F : NumberFormat) (o : Options) (t : List ℕ) (x : Float) : Type 0 where
  pub row : Pair
  pub shape : Shape
  pub admitted : reading_format F o ≡ done row
  pub shaped : shape_of (grammar_of F o) t ≡ done shape
  pub nearest : Nearest f shape.negative (numerator row F.exponent_radix shape) (denominator row F.exponent_radix shape) x
  pub sign : sign_bit x ≡ begins_with 45 t

abbrev pub ReadIsNearest : Type 0
ReadIsNearest = (f : Format) (F : NumberFormat) (o : Options) (t : List ℕ) (x : Float) → read_float f F o t ≡ done x → NearestToText f F o t x

-- what is said of an answer besides: a float answered is nearest,
abbrev pub IsNearest : Format → NumberFormat → Options → List ℕ → Answer Float → Type 0
IsNearest f F o t (done x) = NearestToText f F o t x
IsNearest f F o t (refused n p) = Unit {0}

-- and the text of a shape that is not too long, in a format that passes the reader's checks, with an exponent and a value that are not too large, is never refused
abbrev pub IsServed : Format → NumberFormat → Options → List ℕ → Answer Float → Type 0
IsServed f F o t answer =
    (row : Pair) (s : Shape) → reading_format F o ≡ done row → length t ≤ longest_read → WellFormed (grammar_of F o) s → print (grammar_of F o) s ≡ t
    → magnitude F.exponent_radix s.tail ≤ greatest_exponent
    → too_large f (numerator row F.exponent_radix s) (denominator row F.exponent_radix s) ≡ false
    → answer ≡ done (round f s.negative (numerator row F.exponent_radix s) (denominator row F.exponent_radix s))

abbrev pub TextsAreServed : Type 0
TextsAreServed = (f : Format) (F : NumberFormat) (o : Options) (t : List ℕ) → IsServed f F o t (read_float f F o t)
