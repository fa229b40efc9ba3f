use Rattle.std.proofs.Common.{◌≡◌, drop}
use Rattle.width_check.specs.Reads.{reads, reads_in_parts, reads_in_operations}
use Rattle.width_check.specs.View.{formula_of}
use Rattle.handshake_expand.proofs.Rows.{parts_of, links_of}
use Rattle.handshake_expand.proofs.expr.+reads.Given as goal

abbrev pub invariant-loop-part : goal.invariant-loop-part
invariant-loop-part l = reads l.fn.var (formula_of l.fn.e) ≡ reads_in_parts l.var (parts_of (drop l.part-index l.part-items))

abbrev pub invariant-loop-link : goal.invariant-loop-link
invariant-loop-link l = reads l.fn.var (formula_of l.fn.e) ≡ reads_in_operations l.var (links_of (drop l.link-index l.link-items))
