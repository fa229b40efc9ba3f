use Rattle.std.proofs.Common.{◌≡◌, ◌++◌, length, drop, map}
use Rattle.width_check.specs.View.{process_of}
use Rattle.chp_meaning.specs.Remaining.{remains_of, several_of, part_count, EachCanRemain}
use Rattle.chp_meaning.specs.AtOnce.{statements, each_statements, stepping}
use Rattle.chp_meaning.specs.Standing.{outset_of}
use Rattle.chp_meaning.proofs.enabled.+list_steps.Given as goal

abbrev pub decreases-list_steps : goal.decreases-list_steps
decreases-list_steps l = goal.size-list_steps l

abbrev pub invariant-loop-index : goal.invariant-loop-index
invariant-loop-index l = record {
  steps : map (λ s. process_of s.now) l.steps.items
      ++ stepping (outset_of l.config) (each_statements (process_of l.stmt) l.index (several_of (drop l.index l.left-items))) ≡
      map (λ s. process_of s.now) l.fn.steps.items ++ stepping (outset_of l.config) (statements (process_of l.stmt) (remains_of l.left));
  remains : EachCanRemain (process_of l.stmt) l.index (several_of (drop l.index l.left-items));
  count : length l.left-items ≡ part_count (process_of l.stmt);
}
