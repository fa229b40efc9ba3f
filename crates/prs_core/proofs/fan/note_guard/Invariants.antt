use Rattle.std.proofs.Common.{take}
use Rattle.prs_core.specs.Fans.{IsNoted, guard_names}
use Rattle.prs_core.proofs.fan.note_guard.Given as goal

abbrev pub invariant-loop-term : goal.invariant-loop-term
invariant-loop-term l =
    IsNoted (λ node. guard_names node (take l.term-index l.term-items)) l.reader l.initial.readers.items l.readers.items
