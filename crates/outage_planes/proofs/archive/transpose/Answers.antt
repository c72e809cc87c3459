-- `outage_planes::archive::transpose` meets its contract: the header's refusal, or its columns. Assumes nothing.
use Rattle.std.proofs.Common.{◌≡◌, Some, refl, sym, arith}
use Rattle.lexical_util.specs.Reason.{reason_number}
use Rattle.outage_spec.proofs.HeaderLaws.{header_is}
use Rattle.outage_planes.proofs.archive.transpose.Goals as goal

pub transpose_columns-requires : goal.transpose_columns-requires
transpose_columns-requires g c = let k = reason_number c.args.reason in
    let found : c.header_count.result ≡ Some c.in_ok-n.n = grind arith in
    let h = header_is k c.args.source.now _ (sym (rw found at (c.header_count.ensures k))) in
    (h.few, h.size)
