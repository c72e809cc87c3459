-- Whole numbers in bytes, little endian. Definitions only.
use Rattle.std.specs.Prelude.{ℕ, zero, suc, ◌+◌, ◌*◌, ◌/◌, ◌%◌, List, [], ◌∷◌, take, drop}

-- the number of which these are the bytes, the least significant one first
unfoldable pub of_bytes : List ℕ → ℕ
of_bytes [] = 0
of_bytes (b ∷ bs) = b + 256 * of_bytes bs

-- the k lowest bytes of a number
unfoldable pub to_bytes : ℕ → ℕ → List ℕ
to_bytes zero n = []
to_bytes (suc k) n = n % 256 ∷ to_bytes k (n / 256)

-- the number in the k bytes at a place
abbrev pub word_at : ℕ → List ℕ → ℕ → ℕ
word_at k t at = of_bytes (take k (drop at t))
