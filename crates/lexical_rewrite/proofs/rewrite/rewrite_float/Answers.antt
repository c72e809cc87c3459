-- `lexical_rewrite::rewrite::rewrite_float` meets its contract, by the reading's answer. Assumes nothing.
use Rattle.std.proofs.Common.{rules, ◌≡◌}
use Rattle.lexical_rewrite_spec.specs.Rewrite.{read_in, rewrite_answer, rewrite_bytes}
use Rattle.lexical_rewrite_spec.proofs.DemandLaws.{same_as_others_by}
use Rattle.lexical_rewrite.specs.Answer.{of_rewritten}
use Rattle.lexical_rewrite.proofs.rewrite.rewrite_float.Goals as goal

pub returns-clause-same_bytes : goal.returns-clause-same_bytes
returns-clause-same_bytes g c =
    let a = c.args in
    let e : of_rewritten c.map_err-2.result ≡ rewrite_answer a.to a.buffer.now (read_in g.F.Float.format a.from a.text.now) = search rules in
    let b : c.write_float.new.buffer ≡ rewrite_bytes a.to a.buffer.now (read_in g.F.Float.format a.from a.text.now) = search rules in
    same_as_others_by g.F.Float.format a.from a.text.now a.to a.buffer.now (of_rewritten c.map_err-2.result) _ e b
