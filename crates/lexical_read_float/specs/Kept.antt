-- What the code keeps of the number that digits spell. No exported contract cites it. Definitions only.
use Rattle.std.specs.Prelude.{ℕ, ◌+◌, ◌*◌, ◌^◌, ◌≤◌, ◌<◌, true, cond, ◌&&◌, List, [], ◌∷◌, ltb, eqb}
use Rattle.lexical_read_float.specs.Guard.{Leading}
use Rattle.lexical_read_float.specs.declared.kept.Kept.{Kept}

-- bits below this have room for a digit of five bits more
abbrev pub full : ℕ
full = 0x400000000000000

-- where any bits are below, those kept are full
abbrev pub IsFull : Kept → Type 0
IsFull k = 0 < k.below → full ≤ k.bits

-- k stands for n: its bits lead n, with as many bits below them as it counts, all of which are 0 exactly where `clear` says so
pub record Holds (n : ℕ) (k : Kept) : Type 0 where
  pub leads : Leading n (2 ^ k.below) k.bits k.clear
  pub is_full : IsFull k

abbrev pub empty : Kept
empty = record { bits = 0; below = 0; clear = true }

-- a digit of b bits goes into the bits while they have room, and below them after that
unfoldable pub keep_digit : ℕ → Kept → ℕ → Kept
keep_digit b k d =
    cond (ltb k.bits full) (record { bits = k.bits * 2 ^ b + d; below = k.below; clear = k.clear })
    (record { bits = k.bits; below = k.below + b; clear = k.clear && eqb d 0 })

unfoldable pub keep_digits : ℕ → Kept → List ℕ → Kept
keep_digits b k [] = k
keep_digits b k (d ∷ ds) = keep_digits b (keep_digit b k d) ds
