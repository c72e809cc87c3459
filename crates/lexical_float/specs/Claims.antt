-- What the law of a float's parts says. Statements only; `PartsLaws` proves it.
use Rattle.std.specs.Prelude.{T, Float}
use Rattle.std.specs.Float.{Format}
use Rattle.std.specs.Float.Ieee.{fits}
use Rattle.lexical_float.specs.Parts.{parts_of, IsValue}

-- a float's parts are its value, at either width
abbrev pub PartsAreTheValue : Type 0
PartsAreTheValue = (f : Format) (x : Float) → T (fits f x) → IsValue x (parts_of f x)
