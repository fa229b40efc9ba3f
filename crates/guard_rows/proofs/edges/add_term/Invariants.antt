use Rattle.std.proofs.Common.{take}
use Rattle.prs_core.specs.Fans.{term_names}
use Rattle.guard_rows.specs.Places.{AreAdded}
use Rattle.guard_rows.proofs.edges.add_term.Given as goal

abbrev pub invariant-loop-literal : goal.invariant-loop-literal
invariant-loop-literal l = AreAdded l.reader (λ m. term_names m (take l.literal-index l.literal-items)) (λ m. 0) l.fn.edges.items l.edges.items
