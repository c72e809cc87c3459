-- The documents' examples of reading, and settled points of it, as lists against the definition that the contracts cite. Definitions only.
use Rattle.std.specs.Prelude.{ℕ, ◌+◌, ◌-◌, ◌^◌, Bool, false, List, [], ◌∷◌, ◌++◌, eqb, pos, replicate, Float}
use Prim.Native.String.{String}
use Rattle.std.specs.Float.{Format, binary32, binary64}
use Rattle.std.specs.Float.Ieee.{to_bits}
use Rattle.lexical_util.specs.Answer.{Answer, done, refused}
use Rattle.lexical_util.specs.Examples.{bytes, same_answer, Example}
use Rattle.lexical_format.specs.declared.format.NumberFormat.{NumberFormat}
use Rattle.lexical_format.specs.declared.options.Options.{Options}
use Rattle.lexical_format.specs.declared.options.RoundMode.TheVariants.{Round}
use Rattle.lexical_read_float_spec.specs.Round.{largest, edge}
use Rattle.lexical_read_float_spec.specs.Read.{longest_read, read_float}

-- r/base/exponent radix, mark "^", all else default
abbrev pub format : ℕ → ℕ → ℕ → NumberFormat
format radix base power = record {
  mantissa_radix = radix;
  exponent_base = base;
  exponent_radix = power;
  required_exponent_notation = false;
  no_exponent_notation = false;
  required_exponent_sign = false;
  no_exponent_without_fraction = false;
}

abbrev pub options : ℕ → ℕ → Options
options point mark = record {
  max_significant_digits = 0;
  min_significant_digits = 0;
  positive_exponent_break = pos 0;
  negative_exponent_break = pos 0;
  exponent_width = 1;
  round_mode = Round;
  trim_floats = false;
  exponent = mark;
  decimal_point = point;
}

-- floats are compared by their bits
abbrev pub reads : Format → NumberFormat → Options → List ℕ → Answer ℕ → Bool
reads f F o t (done bits) = same_float (read_float f F o t)
  where
    same_float : Answer Float → Bool
    same_float (done x) = eqb (to_bits f x) bits
    same_float (refused n p) = false
reads f F o t (refused n p) = same_answer (λ (x y : Float). false) (read_float f F o t) (refused n p)

abbrev is : String → Answer ℕ → Example
is t wanted = record { name = t; holds = reads binary64 (format 16 2 10) (options 46 94) (bytes t) wanted }

abbrev one : ℕ
one = 0x3ff0000000000000

-- where the range ends
unfoldable pub range_ends : List Example
range_ends =
    record { name = "64-bit largest"; holds = eqb (largest binary64) (2 ^ 1024 - 2 ^ 971) }
    ∷ record { name = "64-bit edge"; holds = eqb (edge binary64) (2 ^ 1024 - 2 ^ 970) }
    ∷ record { name = "32-bit largest"; holds = eqb (largest binary32) (2 ^ 128 - 2 ^ 104) }
    ∷ record { name = "32-bit edge"; holds = eqb (edge binary32) (2 ^ 128 - 2 ^ 103) }
    ∷ []

-- 16/2/10, 64-bit
unfoldable pub reading : List Example
reading =
    is "10.0^-4" (done one)
    ∷ is "1.00000000000008" (done one)
    ∷ is "1.00000000000009" (done (one + 1))
    ∷ is "0^32767" (done 0)
    ∷ is "0^32768" (refused 10 2)
    ∷ is "0^-9999999999999999999999999" (refused 10 3)
    ∷ is "1^99999x" (refused 9 7)
    ∷ is "" (refused 9 0)
    ∷ is ".5" (refused 9 0)
    ∷ is "1^" (refused 9 2)
    ∷ is "1^+" (refused 9 3)
    ∷ is "1.a" (refused 9 2)
    ∷ is "1." (done one)
    ∷ is "1.^5" (done 0x4040000000000000)
    ∷ is "1^-1074" (done 1)
    ∷ is "1^-1075" (done 0)
    ∷ is "3^-1075" (done 2)
    ∷ is "1FFFFFFFFFFFFF^971" (done 0x7fefffffffffffff)
    ∷ is "1FFFFFFFFFFFFF.1^971" (done 0x7fefffffffffffff)
    ∷ is "1FFFFFFFFFFFFF.7FFFFFFFFFFFFFFF^971" (done 0x7fefffffffffffff)
    ∷ is "1FFFFFFFFFFFFF.8^971" (refused 11 0)
    ∷ is "2^1023" (refused 11 0)
    ∷ record { name = "2/2/16, mark A: 1.0AA"; holds = reads binary64 (format 2 2 16) (options 46 65) (bytes "1.0AA") (done 0x4090000000000000) }
    ∷ record { name = "2/2/10: 12"; holds = reads binary64 (format 2 2 10) (options 46 94) (bytes "12") (refused 9 1) }
    ∷ record { name = "32-bit largest"; holds = reads binary32 (format 16 2 10) (options 46 94) (bytes "F.FFFFF^124") (done 0x7f7fffff) }
    ∷ record { name = "32-bit, below the edge"; holds = reads binary32 (format 16 2 10) (options 46 94) (bytes "F.FFFFF7FFFFFFFFF^124") (done 0x7f7fffff) }
    ∷ record { name = "32-bit, the edge"; holds = reads binary32 (format 16 2 10) (options 46 94) (bytes "F.FFFFF8^124") (refused 11 0) }
    ∷ record { name = "mark B, a digit of the radix"; holds = reads binary64 (format 16 2 10) (options 46 66) (bytes "1") (refused 3 0) }
    ∷ []

-- document 02, 2.3: one leading "-", with every place counted from it. The sign bit is set exactly then, at a zero too
abbrev sign_bits : ℕ
sign_bits = 0x8000000000000000

unfoldable pub signs : List Example
signs =
    is "-1" (done (sign_bits + one))
    ∷ is "-10.0^-4" (done (sign_bits + one))
    ∷ is "-0" (done sign_bits)
    ∷ is "-0.0^-5" (done sign_bits)
    ∷ is "-1^-1074" (done (sign_bits + 1))
    ∷ is "-1^-1075" (done sign_bits)
    ∷ is "-1^-32767" (done sign_bits)
    ∷ is "-1.00000000000008" (done (sign_bits + one))
    ∷ is "-1.00000000000009" (done (sign_bits + one + 1))
    ∷ is "-1FFFFFFFFFFFFF.7FFFFFFFFFFFFFFF^971" (done 0xffefffffffffffff)
    ∷ is "-1FFFFFFFFFFFFF.8^971" (refused 11 0)
    ∷ is "-" (refused 9 1)
    ∷ is "--1" (refused 9 1)
    ∷ is "-+1" (refused 9 1)
    ∷ is "-x" (refused 9 1)
    ∷ is "-.5" (refused 9 1)
    ∷ is "+1" (refused 9 0)
    ∷ is "1-" (refused 9 1)
    ∷ is "-1^" (refused 9 3)
    ∷ is "-0^-32768" (refused 10 4)
    ∷ record { name = "32-bit -0"; holds = reads binary32 (format 16 2 10) (options 46 94) (bytes "-0") (done 0x80000000) }
    ∷ record { name = "32-bit -2^-150"; holds = reads binary32 (format 16 2 10) (options 46 94) (bytes "-1^-150") (done 0x80000000) }
    ∷ record { name = "32-bit -largest"; holds = reads binary32 (format 16 2 10) (options 46 94) (bytes "-F.FFFFF7^124") (done 0xff7fffff) }
    ∷ []

-- long texts: a settling digit far behind, an exponent that undoes the fraction, and the limit of 4,096 bytes
abbrev read : String → List ℕ → Answer ℕ → Example
read name t wanted = record { name = name; holds = reads binary64 (format 16 2 10) (options 46 94) t wanted }

unfoldable pub long : List Example
long =
    read "4,000 zeros undone by the exponent" (bytes "0." ++ (replicate 4000 48 ++ bytes "1^16004")) (done one)
    ∷ read "a byte too long" (replicate (longest_read + 1) 48) (refused 12 0)
    ∷ read "the longest that is read" (replicate longest_read 48) (done 0)
    ∷ read "a byte too long with its sign" (45 ∷ replicate longest_read 48) (refused 12 0)
    ∷ read "the longest with its sign" (45 ∷ replicate (longest_read - 1) 48) (done sign_bits)
    ∷ read "below the edge by the last of 4,091 digits" (bytes "1FFFFFFFFFFFFF.7" ++ (replicate 4075 70 ++ bytes "F^971")) (done 0x7fefffffffffffff)
    ∷ read "the edge in 4,091 digits" (bytes "1FFFFFFFFFFFFF.8" ++ (replicate 4075 48 ++ bytes "0^971")) (refused 11 0)
    ∷ read "a tie settled behind 4,000 zeros" (bytes "1.00000000000008" ++ (replicate 4000 48 ++ bytes "1")) (done (one + 1))
    ∷ []
