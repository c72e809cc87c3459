-- `lexical_rewrite::chain::chain_further` meets its contract. The loop's invariant: what is left of the chain from here is what all of it is, of stations behind the first. Assumes nothing.
use Prim.Native.Nat.{◌-◌}
use mathlib.Core.Path.{refl, sym, ap, ◌∙◌}
use native.Mathlib.Omega.{arith}
use borrow.Author.Rules.{rules}
use lib.ListN.{length, take, drop, length-drop}
use lib.Seq.{take_all}
use Rattle.std.proofs.lemmas.Result.{err_from_is_err_and}
use Rattle.lexical_rewrite_spec.specs.Rewrite.{read_in}
use Rattle.lexical_rewrite_spec.specs.Chain.{Outcome, at_station}
use Rattle.lexical_rewrite_spec.proofs.StationLaws.{rewritten_fits}
use Rattle.lexical_rewrite.proofs.ChainLaws.{from_last, from_more, went_on, on_with, ended}
use Rattle.lexical_rewrite.proofs.chain.chain_further.Goals as goal

pub loop-records-init : goal.loop-records-init
loop-records-init g c = (c.requires.0, c.requires.1, omega arith, refl)

pub rewrite_within-requires : goal.rewrite_within-requires
rewrite_within-requires g c = omega arith

pub overflow_add-station : goal.overflow_add-station
overflow_add-station g c = omega arith

pub returns-in_err-count : goal.returns-in_err-count
returns-in_err-count g c =
    let a = c.args in
    let s = c.loop-records in
    let f = g.F.Float.format in
    let p = err_from_is_err_and c.from_residual.result c.from_residual.ensures.1 in
    let told = c.in_err-count.ensures ∙ ap (at_station s.station) c.rewrite_within.ensures.result_value in
    let e = sym s.invariant.3 ∙ from_more f s.station s.source (take s.count s.scratch) _ s.records.now a.buffer.now c.format_of_record-target.ensures s.scratch (omega arith) (omega arith) ∙ ended s.station a.buffer.now _ _ _ told in
    rw (p.1, p.2) (record { result_value = sym (ap (λ (o : Outcome). o.answer) e); buffer_after = sym (ap (λ (o : Outcome). o.bytes) e) })

pub loop-records-preserved : goal.loop-records-preserved
loop-records-preserved g c =
    let a = c.args in
    let s = c.loop-records in
    let f = g.F.Float.format in
    let told = c.in_ok-count.ensures ∙ ap (at_station s.station) c.rewrite_within.ensures.result_value in
    let got = went_on s.station _ _ told in
    let G = c.format_of_record-target.result in
    let few = rewritten_fits G s.scratch (read_in f s.source (take s.count s.scratch)) _ got in
    let e = from_more f s.station s.source (take s.count s.scratch) G s.records.now a.buffer.now c.format_of_record-target.ensures s.scratch (omega arith) (omega arith) ∙ on_with s.station _ a.buffer.now _ _ got in
    (omega arith, omega (arith, length-drop 20 s.records.now), omega (arith, length-drop 20 s.records.now), rw (take_all (length s.records.now - 20) (drop 20 s.records.now) (omega (arith, length-drop 20 s.records.now)), c.rewrite_within.ensures.buffer_after) (sym e ∙ s.invariant.3))

pub returns : goal.returns
returns g c =
    let a = c.args in
    let s = c.loop-records in
    let e = sym s.invariant.3 ∙ from_last g.F.Float.format s.station s.source (take s.count s.scratch) _ s.records.now a.buffer.now c.format_of_record-last.ensures (omega arith) in
    record { result_value = c.at_station-2.ensures ∙ ap (at_station s.station) c.rewrite_float.ensures.result_value ∙ sym (ap (λ (o : Outcome). o.answer) e); buffer_after = c.rewrite_float.ensures.buffer_after ∙ sym (ap (λ (o : Outcome). o.bytes) e) }
