-- The laws of a place: where a byte stands. Assumes nothing.
use Prim.Native.Nat.{ℕ, ◌+◌, ◌<◌}
use mathlib.Core.Path.{◌≡◌}
use mathlib.Core.List.{List}
use borrow.Author.Tests.{lt-ltb}
use lib.ListN.{length, get_or}
use Rattle.lexical_util.specs.Digit.{digit_value}
use Rattle.lexical_digit_reader.specs.Place.{digit_at, place_after}

module _ (text : List ℕ) (at : ℕ) where
  pub digit_here : at < length text → digit_at text at ≡ digit_value (get_or text at 0)
  unfolding digit_at
  digit_here h = rw (lt-ltb at (length text) h)

  pub place_here : at < length text → place_after text at ≡ at + 1
  unfolding place_after
  place_here h = rw (lt-ltb at (length text) h)
