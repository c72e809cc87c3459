-- What the code's one pass over a text finds, by the shape that the text has. No exported contract cites it. Definitions only.
use Rattle.std.specs.Prelude.{ℕ, ◌+◌, ◌-◌, ◌≤◌, min, ◌*◌, Bool, true, false, List, ◌++◌, pos, nat_abs, length, Result, Ok, Err}
use Rattle.lexical_exponent.specs.declared.exponent.DigitExponent.{DigitExponent}
use Rattle.lexical_read_float_spec.specs.Shape.{Grammar, Tail, Shape}
use Rattle.lexical_read_float_spec.specs.Parse.{Parsed, found, stuck}
use Rattle.lexical_read_float_spec.specs.Read.{greatest_exponent, magnitude, has_minus, exponent_place, longest_read}
use Rattle.lexical_read_float.specs.declared.kept.Kept.{Kept}
use Rattle.lexical_read_float.specs.declared.scan.Mantissa.{Mantissa}
use Rattle.lexical_read_float.specs.declared.scan.Exponent.{Exponent}
use Rattle.lexical_read_float.specs.declared.scan.Number.{Number}
use Rattle.lexical_read_float.specs.Kept.{empty, keep_digits}
use Rattle.lexical_read_float.specs.Digits.{digits_from, end_from}

abbrev pub grammar : ℕ → ℕ → ℕ → ℕ → Grammar
grammar radix exponent_radix point mark = record { radix = radix; exponent_radix = exponent_radix; point = point; mark = mark }

-- the digits kept up to place `end` of a text t, with those behind the point if it stands there
abbrev pub with_fraction : List ℕ → ℕ → ℕ → Kept → ℕ → Bool → Mantissa
with_fraction t radix b kept end true = record { end = end_from radix t (end + 1); kept = keep_digits b kept (digits_from radix t (end + 1)); fraction = record { 0 = pos (length (digits_from radix t (end + 1))) } }
with_fraction t radix b kept end false = record { end = end; kept = kept; fraction = record { 0 = pos 0 } }

-- the first magnitude that is refused, which stands for all above it
abbrev pub too_great : ℕ
too_great = greatest_exponent + 1

-- the exponent of a text t
abbrev pub exponent_of : List ℕ → ℕ → Tail → Exponent
exponent_of t radix τ = record { power = record { 0 = has_minus τ; 1 = min (magnitude radix τ) too_great }; place = exponent_place t τ }

abbrev pub scanned_tail : List ℕ → ℕ → Parsed Tail → Result Exponent ℕ
scanned_tail t radix (found τ) = Ok (exponent_of t radix τ)
scanned_tail t radix (stuck left) = Err (length t - length left)

-- the sign and a mantissa with what stands behind it
abbrev pub scanned_number : Bool → Kept → DigitExponent → Result Exponent ℕ → Result Number ℕ
scanned_number negative kept fraction (Ok exponent) = Ok (record { negative = negative; kept = kept; fraction = fraction; exponent = exponent })
scanned_number negative kept fraction (Err place) = Err place

-- the numbers of a text t of shape s, whose digits have b bits
abbrev pub number_of : List ℕ → ℕ → ℕ → Shape → Number
number_of t b exponent_radix s = record {
  negative = s.negative;
  kept = keep_digits b empty (s.whole ++ s.fraction);
  fraction = record { 0 = pos (length s.fraction) };
  exponent = exponent_of t exponent_radix s.tail;
}

abbrev pub scanned_shape : List ℕ → ℕ → ℕ → Parsed Shape → Result Number ℕ
scanned_shape t b exponent_radix (found s) = Ok (number_of t b exponent_radix s)
scanned_shape t b exponent_radix (stuck left) = Err (length t - length left)

-- numbers small enough for the sums that a value needs
pub record Bounded (n : Number) : Type 0 where
  pub few_below : n.kept.below ≤ 5 * longest_read
  pub few_digits : nat_abs n.fraction.0 ≤ longest_read

abbrev pub IsBounded : Result Number ℕ → Type 0
IsBounded (Ok n) = Bounded n
IsBounded (Err place) = Unit {0}
