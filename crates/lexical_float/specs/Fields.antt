-- A float's two fields below the sign, and its mantissa and exponent by them: document 01, "Float parts". Both widths by the format. Definitions only.
use Rattle.std.specs.Prelude.{ℕ, suc, ◌+◌, ◌/◌, ◌%◌, cond, eqb, ℤ, Float}
use Rattle.std.specs.Float.{Format}
use Rattle.std.specs.Float.Ieee.{low, hid, ones, minus, to_bits}

-- the two fields of the bit pattern below the sign: 52 stored bits, or 23, and above them the biased exponent
abbrev pub stored_bits : Format → Float → ℕ
stored_bits f x = to_bits f x % hid f

abbrev pub biased : Format → Float → ℕ
biased f x = to_bits f x / hid f % suc (ones f)

-- mantissa m: the stored bits, with the leading bit where the float is normal
abbrev pub mantissa : Format → Float → ℕ
mantissa f x = cond (eqb (biased f x) 0) (stored_bits f x) (hid f + stored_bits f x)

-- exponent e: biased - 1,075, denormal -1,074; biased - 150, denormal -149
abbrev pub exponent : Format → Float → ℤ
exponent f x = cond (eqb (biased f x) 0) (minus 0 (low f)) (minus (biased f x) (suc (low f)))
