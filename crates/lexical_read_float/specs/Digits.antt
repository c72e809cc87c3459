-- The digits in a text from a place on, as the code goes through them. No exported contract cites it. Definitions only.
use Rattle.std.specs.Prelude.{ℕ, ◌+◌, ◌≤◌, ◌<◌, ◌≡◌, Bool, true, ◌&&◌, List, [], ◌∷◌, eqb, length, drop, Option, None, Some}
use Rattle.lexical_read_float_spec.specs.Parse.{run}
use Rattle.lexical_read_float.specs.Kept.{full, keep_digits}

-- d tells a digit value: below 32 it is that, and from 32 on there is none
pub record IsDigitOrNone (v : Option ℕ) (d : ℕ) : Type 0 where
  pub digit : d < 32 → v ≡ Some d
  pub no_digit : 32 ≤ d → v ≡ None

-- the digits from place i on, and where they end
abbrev pub digits_from : ℕ → List ℕ → ℕ → List ℕ
digits_from radix t i = (run radix (drop i t)).got

abbrev pub end_from : ℕ → List ℕ → ℕ → ℕ
end_from radix t i = i + length (digits_from radix t i)

unfoldable pub all_zero : List ℕ → Bool
all_zero [] = true
all_zero (d ∷ ds) = eqb d 0 && all_zero ds

-- the digits up to `end` went from `start` into the bits: those still to come make the same of them, and there are some only where the bits are full
pub record FilledBits (radix b : ℕ) (t : List ℕ) (from start end bits : ℕ) : Type 0 where
  pub forth : from ≤ end
  pub within : end ≤ length t
  pub ends : end_from radix t end ≡ end_from radix t from
  pub kept : (below : ℕ) (clear : Bool)
      → keep_digits b (record { bits = bits; below = below; clear = clear }) (digits_from radix t end)
      ≡ keep_digits b (record { bits = start; below = below; clear = clear }) (digits_from radix t from)
  pub done : bits < full → digits_from radix t end ≡ []
