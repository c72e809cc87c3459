-- `lexical_exponent::exponent::base_exponent` meets its contract: the sign by the test, the magnitude by the quotient, which is exact by `power_exact`. Assumes nothing.
use mathlib.Core.Path.{◌≡◌}
use lib.IntN.{nat_abs}
use mir.Syntax.{w32}
use mir.Val.{to_z, of_z}
use mir.Facts.{to_z-of_z}
use Rattle.lexical_exponent.proofs.ExponentLaws.{power_exact}
use Rattle.lexical_exponent.proofs.exponent.base_exponent.Goals.{After-struct_told-1, After-unsigned_abs}
use Rattle.lexical_exponent.proofs.exponent.base_exponent.Goals as goal

is : (c : After-struct_told-1) → to_z w32 (of_z w32 c.args.p.0) ≡ c.args.p.0
is c = to_z-of_z {w = w32} (record { sfits = c.struct_told-1.given.0.1 })

magnitude : (c : After-unsigned_abs) → c.unsigned_abs.result ≡ nat_abs c.args.p.0
magnitude c = rw (is c.before.before) at c.unsigned_abs.ensures

pub returns-clause-exact : goal.returns-clause-exact
returns-clause-exact c = let a = c.args in
    let q = c.quotient.ensures in
    rw (q, magnitude (goal.at.returns-clause-exact c).After-unsigned_abs) (power_exact a.bits_per_digit a.bits_per_base a.p.0)
