-- A value m * 2 ^ e, and its digits D in the radix 2 ^ b: document 01, "Layout". Definitions only.
use Rattle.std.specs.Prelude.{ℕ, zero, suc, ◌*◌, ◌/◌, ◌^◌, List, ℤ, pos, ◌+ℤ◌, Float}
use Rattle.std.specs.Int.Count.{count_trailing_zeros}
use Rattle.std.specs.Float.{nan, inf, fin}
use Rattle.std.specs.Float.Ieee.{size}
use Rattle.lexical_exponent.specs.Exponent.{modulo}
use Rattle.lexical_write_integer_spec.specs.Digits.{numeral}

-- a whole number times a power of two
pub record Value : Type 0 where
  pub m : ℕ
  pub e : ℤ

-- the absolute value of a finite float, in normal form; zero where there is none
abbrev pub absolute : Float → Value
absolute nan = record { m = 0; e = pos 0 }
absolute (inf s) = record { m = 0; e = pos 0 }
absolute (fin s m e) = record { m = m; e = e }

-- the normal form of a value: m odd, or m and e zero. A finite float of `lib.Ieee` has it.
unfoldable pub normal : ℕ → ℤ → Value
normal zero e = record { m = 0; e = pos 0 }
normal (suc n) e = let t = count_trailing_zeros (size (suc n)) (suc n) in record { m = suc n / 2 ^ t; e = e +ℤ pos t }

-- D of a value in normal form: the exact digits from the first nonzero one to the last nonzero one, "0" for zero.
-- The last one's place is floor (e / b), so D spells m * 2 ^ (e mod b); as m is odd, D ends in no zero, and in width 1 it begins with none.
unfoldable pub exact_digits : ℕ → ℕ → ℤ → List ℕ
exact_digits b m e = numeral (2 ^ b) 1 (m * 2 ^ modulo e b)
