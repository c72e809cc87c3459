-- `lexical_float::encoding::is_special` meets its contract: a float is not finite where its bits below the sign reach the infinity's. Assumes nothing.
use Rattle.lexical_float.specs.Encoding.{of_width}
use Rattle.lexical_float.proofs.EncodingLaws as L
use Rattle.lexical_float.proofs.encoding.is_special.Goals as goal

pub returns : goal.returns
returns c = L.special_is (of_width c.args.width) _ c.encoding_of-encoding.ensures c.args.bits
