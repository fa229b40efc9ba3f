use Rattle.std.proofs.Common.{drop}
use Rattle.width_check.specs.View.{formula_of}
use Rattle.handshake_expand.proofs.Rows.{parts_of, links_of}
use Rattle.function_blocks.proofs.Emission.{Joining, Chaining}
use Rattle.function_blocks.proofs.expression.+expr_drivers.Given as goal

abbrev pub invariant-loop-part : goal.invariant-loop-part
invariant-loop-part l =
    Joining l.vars l.request l.from l.fn.drivers.items (formula_of l.fn.e) (parts_of (drop l.part-index l.part-items)) l.drivers.items l.bits.items

abbrev pub invariant-loop-link : goal.invariant-loop-link
invariant-loop-link l =
    Chaining l.vars l.request l.from l.fn.drivers.items (formula_of l.fn.e) (links_of (drop l.link-index l.link-items)) l.drivers.items l.bits.items
