-- `parts` of the trait `lexical_float::num::Float` meets its contract: a float is what its bits say. Assumes nothing.
use mathlib.Core.Path.{◌≡◌, sym, ap, ◌∙◌}
use lib.Ieee.Bits.{to_bits-lt}
use Rattle.lexical_float.specs.Encoding.{of_width}
use Rattle.lexical_float.proofs.PartsLaws.{float_parts}
use Rattle.lexical_float.proofs.num.Float.parts.Given.{Over}
use Rattle.lexical_float.proofs.num.Float.parts.Goals.{After-WIDTH}
use Rattle.lexical_float.proofs.num.Float.parts.Goals as goal

same : (g : Over) (c : After-WIDTH g) → of_width c.WIDTH.result ≡ g.Self.Float.format
same g c = ap of_width c.WIDTH.ensures ∙ sym g.met.Self.Float.format_is

pub parts_of_bits-requires : goal.parts_of_bits-requires
parts_of_bits-requires g c = rw (same g (goal.at.parts_of_bits-requires g c).After-WIDTH, c.to_bits.ensures.bits) (to_bits-lt g.Self.Float.format (g.Self.Float.value c.args.self) c.to_bits.ensures.fits)

pub returns : goal.returns
returns g c =
    let is = rw (same g (goal.at.returns g c).After-WIDTH, c.to_bits.ensures.bits) at c.parts_of_bits.ensures in
    let p = float_parts g.Self.Float.format (g.Self.Float.value c.args.self) _ c.to_bits.ensures.fits is in
    record { parts = p.0; value = p.1; fits = c.to_bits.ensures.fits }
