use Rattle.std.proofs.Common.{take}
use Rattle.prs_core.specs.Fans.{guard_names}
use Rattle.guard_rows.specs.Places.{AreAdded}
use Rattle.guard_rows.proofs.edges.add_guard.Given as goal

abbrev pub invariant-loop-term : goal.invariant-loop-term
invariant-loop-term l = AreAdded l.reader (λ m. guard_names m (take l.term-index l.term-items)) (λ m. 0) l.fn.edges.items l.edges.items
