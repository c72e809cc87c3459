-- `lexical_write_float::write::write_float` meets its contract: what the parts are asked for, the float is asked for. Assumes nothing.
use Rattle.lexical_write_float.proofs.AnswerLaws.{float_answered, of_float}
use Rattle.lexical_write_float.proofs.write.write_float.Goals as goal

pub write_parts-requires : goal.write_parts-requires
write_parts-requires g c = of_float g.F.Float.format (g.F.Float.value c.args.x) _ c.parts.ensures.fits c.parts.ensures.parts c.parts.ensures.value

pub returns : goal.returns
returns g c =
    let p = c.parts.ensures in
    let f = float_answered g.F.Float.format c.args.format c.args.options (g.F.Float.value c.args.x) c.args.buffer.now p.fits _ _ _ p.parts p.value c.write_parts.ensures.result_value c.write_parts.ensures.buffer_after in
    record { result_value = f.0; buffer_after = f.1.0; longest = f.1.1.0; served = f.1.1.1 }
