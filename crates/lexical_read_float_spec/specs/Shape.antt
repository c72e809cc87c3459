-- The shape of a text, and the text of a shape: document 01, "Reader", with the sign of document 02, 2.3. Definitions only.
use Rattle.std.specs.Prelude.{ℕ, ◌≡◌, Bool, true, false, List, [], ◌∷◌, ◌++◌, map}
use Rattle.lexical_util.specs.Digit.{digit_byte, AreDigits}
use Rattle.lexical_float.specs.Sign.{minus_sign}

-- what a text is read by: the radix of its digits, the exponent radix, the point and the mark
pub record Grammar : Type 0 where
  pub radix : ℕ
  pub exponent_radix : ℕ
  pub point : ℕ
  pub mark : ℕ

-- a "+" or "-" or neither
pub data Sign : Type 0 where
  unsigned plus minus : Sign

-- optionally mark, sign, exponent digits
pub data Tail : Type 0 where
  absent : Tail
  exponent : Sign → List ℕ → Tail

-- optionally one leading "-", `negative` says whether; digits; optionally point and digits, `dot` says whether; optionally an exponent
pub record Shape : Type 0 where
  pub negative : Bool
  pub whole : List ℕ
  pub dot : Bool
  pub fraction : List ℕ
  pub tail : Tail

-- ---- the text of a shape
abbrev pub sign_bytes : Sign → List ℕ
sign_bytes unsigned = []
sign_bytes plus = 43 ∷ []
sign_bytes minus = 45 ∷ []

abbrev pub tail_bytes : Grammar → Tail → List ℕ
tail_bytes G absent = []
tail_bytes G (exponent s ds) = G.mark ∷ (sign_bytes s ++ map digit_byte ds)

abbrev pub fraction_bytes : Grammar → Bool → List ℕ → List ℕ
fraction_bytes G true ds = G.point ∷ map digit_byte ds
fraction_bytes G false ds = []

unfoldable pub print : Grammar → Shape → List ℕ
print G s = minus_sign s.negative ++ (map digit_byte s.whole ++ (fraction_bytes G s.dot s.fraction ++ tail_bytes G s.tail))

-- ---- which shapes a text may have
-- one or more
abbrev pub Some : List ℕ → Type 0
Some [] = ⊥
Some (x ∷ xs) = Unit {0}

-- digits behind the point only
abbrev pub FractionFits : Bool → List ℕ → Type 0
FractionFits true ds = Unit {0}
FractionFits false ds = ds ≡ []

abbrev pub TailFits : ℕ → Tail → Type 0
TailFits exponent_radix absent = Unit {0}
TailFits exponent_radix (exponent s ds) = Some ds × AreDigits exponent_radix ds

pub record WellFormed (G : Grammar) (s : Shape) : Type 0 where
  pub some_whole : Some s.whole
  pub whole_digits : AreDigits G.radix s.whole
  pub fraction_fits : FractionFits s.dot s.fraction
  pub fraction_digits : AreDigits G.radix s.fraction
  pub tail_fits : TailFits G.exponent_radix s.tail

-- t is the text of a shape
abbrev pub WellShaped : Grammar → List ℕ → Type 0
WellShaped G t = (s : Shape) × WellFormed G s × (print G s ≡ t)

-- some text begins so
abbrev pub Begins : Grammar → List ℕ → Type 0
Begins G start = (rest : List ℕ) × WellShaped G (start ++ rest)
