use Rattle.std.proofs.Common.{◌≡◌, drop}
use Rattle.chp_meaning.specs.Remaining.{several_of}
use Rattle.chp_meaning.specs.Changes.{each_changed}
use Rattle.chp_meaning.proofs.change.+apply.Given as goal

abbrev pub decreases-apply : goal.decreases-apply
decreases-apply l = goal.size-apply l

abbrev pub invariant-loop-branch : goal.invariant-loop-branch
invariant-loop-branch l = record {
  rest : drop l.branch-index l.branch-items ≡ drop l.branch-index l.initial.branch-items;
  changes : each_changed (drop l.branch-index l.initial.branch-items) (several_of l.lefts.items) ≡
      each_changed l.initial.branch-items (several_of l.initial.lefts.items);
}
