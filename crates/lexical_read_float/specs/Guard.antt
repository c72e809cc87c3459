-- What settles the rounding of a long number: its leading bits, the last of them the guard bit, and whether all bits below are clear. No exported contract cites it. Definitions only.
use Rattle.std.specs.Prelude.{ℕ, zero, suc, ◌+◌, ◌*◌, ◌/◌, ◌%◌, ◌^◌, ◌<◌, ◌≡◌, Bool, true, false, not, ◌&&◌, T, eqb}

-- n is `bits` units and a rest below one unit, which is 0 exactly where `clear` says so
pub record Leading (n unit bits : ℕ) (clear : Bool) : Type 0 where
  pub rest : ℕ
  pub is : n ≡ bits * unit + rest
  pub small : rest < unit
  pub none : T clear → rest ≡ 0
  pub some : T (not clear) → 0 < rest

-- where the lowest of the bits go to the rest: whether that is 0
unfoldable pub is_clear : Bool → ℕ → ℕ → Bool
is_clear clear bits count = clear && eqb (bits % 2 ^ count) 0

-- one more to the nearest, by the guard bit, whether all below it is clear, and the last bit kept: at a half to the even one
abbrev pub to_nearest : ℕ → Bool → ℕ → ℕ
to_nearest zero clear last = 0
to_nearest (suc guard) false last = 1
to_nearest (suc guard) true last = last

-- the bits above the guard bit, rounded to the nearest
unfoldable pub guarded : ℕ → Bool → ℕ
guarded bits clear = bits / 2 + to_nearest (bits % 2) clear (bits / 2 % 2)
