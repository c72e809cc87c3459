-- What the planes of one column hold while a table is packed or unpacked. No exported contract cites it. Definitions only.
use Rattle.std.specs.Prelude.{ℕ, zero, suc, ◌+◌, List, [], ◌∷◌, ◌++◌, take, get_or}

-- something of each plane, one behind the other
unfoldable pub of_each : (List ℕ → List ℕ) → List (List ℕ) → List ℕ
of_each part [] = []
of_each part (p ∷ ps) = part p ++ of_each part ps

-- the first n bytes of each
abbrev pub first_bytes : ℕ → List (List ℕ) → List ℕ
first_bytes n ps = of_each (take n) ps

-- byte i of each
abbrev pub byte_across : ℕ → List (List ℕ) → List ℕ
byte_across i ps = of_each (λ p. get_or p i 0 ∷ []) ps

-- byte i of each, then byte i + 1 of each, and so on, k times
unfoldable pub bytes_across : (i k : ℕ) → List (List ℕ) → List ℕ
bytes_across i zero ps = []
bytes_across i (suc k) ps = byte_across i ps ++ bytes_across (i + 1) k ps
