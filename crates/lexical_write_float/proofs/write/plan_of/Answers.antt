-- `lexical_write_float::write::plan_of` meets its contract: by the layout. Assumes nothing.
use mathlib.Core.List.{List}
use Rattle.lexical_write_float_spec.specs.Text.{point, positive}
use Rattle.lexical_write_float.specs.Code.{IsPlan}
use mathlib.Core.Path.{subst}
use Prim.Native.Nat.{ℕ}
use Rattle.lexical_write_float.proofs.write.plan_of.Goals as goal

pub returns-in-Negative : goal.returns-in-Negative
returns-in-Negative c = rw c.in-Negative.is (c.write_float_negative_exponent.ensures c.args.format)

pub returns-in-Positive : goal.returns-in-Positive
returns-in-Positive c = let a = c.args in
    let q = subst (λ (n : ℕ). IsPlan (point a.format a.options) a.count (λ (D : List ℕ). positive a.format a.options D n a.so_far) c.write_float_positive_exponent.result) c.places_before_point-places.ensures (c.write_float_positive_exponent.ensures a.format) in
    rw c.in-Positive.is q
