-- A width's format, and where the fields of its bit patterns stand, as the code keeps it. Document 01 has no such struct: `encoding_of`, which the crates that take floats apart and make them share,
-- answers it, and no other exported contract cites it. Definitions only.
use Rattle.std.specs.Prelude.{ℕ, suc, ◌+◌, ◌-◌, ◌*◌, Bool, true, false, pos}
use Rattle.std.specs.Float.{Format, binary32, binary64}
use Rattle.std.specs.Float.Ieee.{prec, low, hid, ones, top, minus}
use Rattle.lexical_float.specs.declared.encoding.Encoding.{Encoding}
use Rattle.lexical_float.specs.declared.encoding.Width.{Width}
use Rattle.lexical_float.specs.declared.encoding.Width.TheVariants.{Binary32, Binary64}

abbrev pub of_width : Width → Format
of_width Binary32 = binary32
of_width Binary64 = binary64

-- inner: the numbers of a width, under the names that the Rust has for them
abbrev pub encoding_of : Format → Encoding
encoding_of f =
    record {
      mantissa_size = prec f - 1;
      hidden_bit_mask = hid f;
      exponent_mask = ones f * hid f;
      sign_mask = top f;
      exponent_bias = pos (suc (low f));
      denormal_exponent = record { 0 = minus 0 (low f) };
    }

-- inner: a bit pattern, by the sign and the bits n below it
abbrev pub bits_of : Format → Bool → ℕ → ℕ
bits_of f true n = top f + n
bits_of f false n = n
