-- Digits as bytes and as numbers: document 01, "Integer digits" and "Reader". Definitions only.
use Rattle.std.specs.Prelude.{ℕ, ◌+◌, ◌-◌, ◌*◌, ◌<◌, Bool, cond, ◌&&◌, ◌||◌, List, [], ◌∷◌, leb, ltb, eqb, Option, None, Some, is_some}

-- the radices of integers and of exponents: 2, 4, 8, 10, 16 or 32
unfoldable pub is_radix : ℕ → Bool
is_radix r = eqb r 2 || (eqb r 4 || (eqb r 8 || (eqb r 10 || (eqb r 16 || eqb r 32))))

-- a least width of digits is from 1 to 4
abbrev pub greatest_width : ℕ
greatest_width = 4

unfoldable pub is_width : ℕ → Bool
is_width w = leb 1 w && leb w greatest_width

-- the bits of a digit: b of radix 2 ^ b for 2, 4, 8, 16 and 32, and 0 for any other number
unfoldable pub digit_bits : ℕ → ℕ
digit_bits n = cond (eqb 2 n) 1 (cond (eqb 4 n) 2 (cond (eqb 8 n) 3 (cond (eqb 16 n) 4 (cond (eqb 32 n) 5 0))))

-- a digit's byte: 0-9 then capitals A-V
unfoldable pub digit_byte : ℕ → ℕ
digit_byte d = cond (ltb d 10) (48 + d) (55 + d)

-- a byte's digit value: 0 to 9 for "0" to "9", 10 to 31 for "A" to "V"
unfoldable pub digit_value : ℕ → Option ℕ
digit_value x = cond (leb 48 x && leb x 57) (Some (x - 48)) (cond (leb 65 x && leb x 86) (Some (x - 55)) None)

-- below its radix
abbrev pub below : ℕ → Option ℕ → Option ℕ
below radix None = None
below radix (Some d) = cond (ltb d radix) (Some d) None

-- the digit of the radix that a byte is, if it is one
unfoldable pub digit_in : ℕ → ℕ → Option ℕ
digit_in radix x = below radix (digit_value x)

unfoldable pub is_digit : ℕ → ℕ → Bool
is_digit radix x = is_some (digit_in radix x)

-- every element of a list
abbrev pub All : {A : Type 0} → (A → Type 0) → List A → Type 0
All P [] = Unit {0}
All P (x ∷ xs) = P x × All P xs

-- digits of the radix
abbrev pub AreDigits : ℕ → List ℕ → Type 0
AreDigits radix ds = All (λ d. d < radix) ds

-- the number that digits spell in the radix, the most significant first, after those that spell n
unfoldable pub read_on : ℕ → ℕ → List ℕ → ℕ
read_on radix n [] = n
read_on radix n (d ∷ ds) = read_on radix (n * radix + d) ds

-- digits read in the radix
abbrev pub digits_value : ℕ → List ℕ → ℕ
digits_value radix ds = read_on radix 0 ds
