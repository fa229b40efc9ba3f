use Rattle.std.proofs.Common.{take}
use Rattle.prs_core.specs.Fans.{IsNoted, term_names}
use Rattle.prs_core.proofs.fan.note_term.Given as goal

abbrev pub invariant-loop-literal : goal.invariant-loop-literal
invariant-loop-literal l =
    IsNoted (λ node. term_names node (take l.literal-index l.literal-items)) l.reader l.initial.readers.items l.readers.items
