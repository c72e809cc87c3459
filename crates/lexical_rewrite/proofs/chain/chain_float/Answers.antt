-- `lexical_rewrite::chain::chain_float` meets its contract, by the chain. Assumes nothing.
use Rattle.lexical_rewrite_spec.specs.Record.{formats_of}
use Rattle.lexical_rewrite_spec.proofs.DemandLaws.{never_lost_by}
use Rattle.lexical_rewrite.specs.Answer.{of_chained}
use Rattle.lexical_rewrite.proofs.chain.chain_float.Goals as goal

pub returns-clause-never_lost : goal.returns-clause-never_lost
returns-clause-never_lost g c =
    let k = c.chain in
    let a = c.args in
    never_lost_by g.F.Float.format a.from a.text.now a.first (formats_of a.further.now) a.buffer.now (of_chained k.result) _ k.ensures.result_value k.ensures.buffer_after
