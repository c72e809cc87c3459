-- `lexical_write_float::binary::normalized` meets its contract: the zeros below the last bit move to the exponent. Assumes nothing.
use Prim.Native.Nat.{◌/◌, ◌^◌, ◌<◌}
use mathlib.Core.Path.{ap, ◌∙◌}
use native.Mathlib.Nat.{pos_of_ne-zero}
use native.Mathlib.Omega.{arith}
use borrow.Author.Rules.{rules}
use lib.Count.{count_trailing_zeros}
use lib.IntN.{ℤ}
use Rattle.lexical_write_float.proofs.StoredLaws.{raised_is}
use Rattle.lexical_write_float_spec.proofs.ValueLaws.{trailing_lt, normal_trailing, normal_zero}
use Rattle.lexical_write_float.proofs.binary.normalized.Goals.{Else-mantissa-eq0}
use Rattle.lexical_write_float.proofs.binary.normalized.Goals as goal

few : (c : Else-mantissa-eq0) → count_trailing_zeros 64 c.args.value.mantissa < 64
few c = trailing_lt 64 c.args.value.mantissa (pos_of_ne-zero c.if-mantissa-eq0.false) (search rules)

pub returns-then-mantissa-eq0 : goal.returns-then-mantissa-eq0
returns-then-mantissa-eq0 c = normal_zero c.args.value.mantissa _ c.if-mantissa-eq0.true

pub returns : goal.returns
returns c = let v = c.args.value in
    let t = count_trailing_zeros 64 v.mantissa in
    ap (λ (e : ℤ). record { m = v.mantissa / 2 ^ t; e = e }) (c.raised.ensures ∙ raised_is v.exponent.0 t c.requires (omega (arith, few (goal.at.returns c).Else-mantissa-eq0)))
    ∙ normal_trailing 64 v.mantissa (pos_of_ne-zero c.if-mantissa-eq0.false) (search rules) v.exponent.0
