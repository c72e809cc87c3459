-- `lexical_rewrite::chain::chain` meets its contract: the first station alone, or followed by those behind it. Assumes nothing.
use mathlib.Core.Path.{sym, ap, ◌∙◌}
use mathlib.Core.List.{List}
use Prim.Native.Nat.{ℕ}
use native.Mathlib.Omega.{arith}
use lib.ListN.{take, replicate, length-replicate}
use Rattle.std.proofs.lemmas.Bool.Decides.{nat_tests}
use Rattle.std.proofs.lemmas.Result.{err_from_is_err_and}
use Rattle.lexical_rewrite_spec.specs.Chain.{Outcome, at_station}
use Rattle.lexical_rewrite_spec.specs.Demand.{Roomy}
use Rattle.lexical_rewrite.specs.Code.{on_from}
use Rattle.lexical_rewrite.proofs.ChainLaws.{alone, on_more, went_on, on_with, ended}
use Rattle.lexical_write_float_spec.specs.Write.{longest_text}
use Rattle.lexical_rewrite.proofs.chain.chain.Goals as goal

-- the bytes of the chain's own, before the first station writes
abbrev scratch : List ℕ
scratch = replicate longest_text 0

has_room : Roomy scratch
has_room = omega (arith, length-replicate {A = ℕ} longest_text 0)

pub returns-then-is_empty : goal.returns-then-is_empty
returns-then-is_empty g c =
    let a = c.args in
    let e = alone g.F.Float.format 0 a.from a.text.now a.first a.further.now a.buffer.now (grind (arith, nat_tests)) in
    record { result_value = c.at_station.ensures ∙ ap (at_station 0) c.rewrite_float.ensures.result_value ∙ sym (ap (λ (o : Outcome). o.answer) e); buffer_after = c.rewrite_float.ensures.buffer_after ∙ sym (ap (λ (o : Outcome). o.bytes) e) }

pub returns-in_err-written : goal.returns-in_err-written
returns-in_err-written g c =
    let a = c.args in
    let p = err_from_is_err_and c.from_residual.result c.from_residual.ensures.1 in
    let told = c.in_err-written.ensures ∙ ap (at_station 0) c.rewrite_float-2.ensures.result_value in
    let e = on_more g.F.Float.format 0 a.from a.text.now a.first a.further.now a.buffer.now scratch (grind (arith, nat_tests)) has_room ∙ ended 0 a.buffer.now _ _ _ told in
    rw (p.1, p.2) (record { result_value = sym (ap (λ (o : Outcome). o.answer) e); buffer_after = sym (ap (λ (o : Outcome). o.bytes) e) })

pub returns : goal.returns
returns g c =
    let a = c.args in
    let f = g.F.Float.format in
    let n = c.in_ok-written.written in
    let got = went_on 0 n _ (c.in_ok-written.ensures ∙ ap (at_station 0) c.rewrite_float-2.ensures.result_value) in
    let e = on_more f 0 a.from a.text.now a.first a.further.now a.buffer.now scratch (grind (arith, nat_tests)) has_room ∙ on_with 0 n a.buffer.now _ _ got in
    let same = ap (λ (l : List ℕ). on_from f 1 a.first (take n l) a.further.now a.buffer.now) c.rewrite_float-2.ensures.buffer_after ∙ sym e in
    record { result_value = c.chain_further.ensures.result_value ∙ ap (λ (o : Outcome). o.answer) same; buffer_after = c.chain_further.ensures.buffer_after ∙ ap (λ (o : Outcome). o.bytes) same }
