-- The bit pattern of a rounded number, from its leading bits. The value is those bits and what is below them, times 2 ^ up / 2 ^ down. No exported contract cites it. Definitions only.
use Rattle.std.specs.Prelude.{ℕ, ◌+◌, ◌-◌, ◌*◌, ◌/◌, ◌^◌, Bool}
use Rattle.std.specs.Float.{Format}
use Rattle.std.specs.Float.Ieee.{prec, low, size, hid, ones}
use Rattle.lexical_read_float.specs.Guard.{is_clear, guarded}

-- how far the last bit that the width keeps stands above its least value
unfoldable pub lift : Format → ℕ → ℕ → ℕ → ℕ
lift f bits up down = size bits + (up + low f) - down - prec f

-- how many of the bits stand below the guard bit
unfoldable pub below_guard : Format → ℕ → ℕ → ℕ → ℕ
below_guard f bits up down = down + lift f bits up down - (up + low f + 1)

-- the sum of the exponent's field and the bits kept, which carries into the field where rounding makes one bit more
unfoldable pub pattern : Format → ℕ → Bool → ℕ → ℕ → ℕ
pattern f bits clear up down =
    let count = below_guard f bits up down in
    lift f bits up down * hid f + guarded (bits / 2 ^ count) (is_clear clear bits count)

-- the infinity's: the pattern of a number reaches it exactly where the number is too large
abbrev pub infinity : Format → ℕ
infinity f = ones f * hid f
