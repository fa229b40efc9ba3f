use Rattle.width_check.specs.View.{formula_of}
use Rattle.width_check.proofs.OverVars.{IsJoinedTo, IsChainedTo}
use Rattle.width_check.proofs.fitting.+width_over.Given as goal

abbrev pub invariant-loop-part : goal.invariant-loop-part
invariant-loop-part l = IsJoinedTo l.vars l.part-items l.part-index l.width

abbrev pub invariant-loop-link : goal.invariant-loop-link
invariant-loop-link l = IsChainedTo l.vars (formula_of l.fn.e) l.link-items l.link-index l.initial.width l.width
