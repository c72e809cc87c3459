-- The examples of float parts hold, by evaluation: a failing one's name would stand in the list. Assumes nothing.
use mathlib.Core.Path.{◌≡◌, refl}
use mathlib.Core.List.{[]}
use lib.Count.{count_trailing_zeros}
use lib.Ieee.{size, span, climb, odd, of_fields, of_bits, to_bits}
use Rattle.lexical_util.specs.Examples.{failing}
use Rattle.lexical_float.specs.Parts.{parts_of}
use Rattle.lexical_float.specs.PartsExamples.{parts}

pub parts_hold : failing parts ≡ []
unfolding failing parts parts_of of_bits to_bits of_fields odd size span climb count_trailing_zeros
parts_hold = refl
