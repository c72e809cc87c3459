-- The digit limit: document 01, "Digit limit". Definitions only.
use Rattle.std.specs.Prelude.{ℕ, zero, suc, ◌*◌, ◌/◌, ℤ, pos, ◌+ℤ◌, ◌-ℤ◌, ◌*ℤ◌}
use Rattle.std.specs.Float.Ieee.{up, down}
use Rattle.std.specs.Float.Ieee.Nearest.{closest}
use Rattle.lexical_exponent.specs.Exponent.{scale, place}
use Rattle.lexical_format.specs.declared.options.RoundMode.{RoundMode}
use Rattle.lexical_format.specs.declared.options.RoundMode.TheVariants.{Round, Truncate}
use Rattle.lexical_write_float_spec.specs.Value.{Value, normal}

-- with most digits k, unit = 2 ^ (b * (p - k + 1)): its exponent
abbrev pub unit_exponent : ℕ → ℕ → ℤ → ℤ
unit_exponent b k p = pos b *ℤ (p -ℤ pos k +ℤ pos 1)

-- a / c as a whole number: nearest with ties to the even one (Round), or the greatest not above it (Truncate)
abbrev pub rounded : RoundMode → ℕ → ℕ → ℕ
rounded Round a c = closest a c
rounded Truncate a c = a / c

-- the value becomes a multiple of unit 2 ^ u
unfoldable pub multiple_of : RoundMode → ℤ → ℕ → ℤ → Value
multiple_of mode u m e = normal (rounded mode (m * up (e -ℤ u)) (down (e -ℤ u))) u

-- the value with at most k digits, 0 none. A result may be 2 ^ 1024 or, in 32 bits, 2 ^ 128. Zero stays zero.
unfoldable pub limited : RoundMode → ℕ → ℕ → ℕ → ℤ → Value
limited mode b zero m e = record { m = m; e = e }
limited mode b (suc k) zero e = record { m = zero; e = e }
limited mode b (suc k) (suc m) e = multiple_of mode (unit_exponent b (suc k) (place b (scale (suc m) e))) (suc m) e
