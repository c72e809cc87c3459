-- A float's sign bit, and what a text has of it: document 02, 2.3. Definitions only.
use Rattle.std.specs.Prelude.{ℕ, Bool, true, false, List, [], ◌∷◌, Float}
use Rattle.std.specs.Float.{nan, inf, fin}

-- the sign bit of a float; a NaN has none that counts
abbrev pub sign_bit : Float → Bool
sign_bit nan = false
sign_bit (inf s) = s
sign_bit (fin s m e) = s

-- a set sign bit writes "-" before the text
abbrev pub minus_sign : Bool → List ℕ
minus_sign true = 45 ∷ []
minus_sign false = []
