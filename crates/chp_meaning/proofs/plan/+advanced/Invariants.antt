use Rattle.std.proofs.Common.{◌≡◌, ◌++◌, length, drop}
use Rattle.width_check.specs.View.{process_of}
use Rattle.chp_meaning.specs.declared.change.Change.{Stays}
use Rattle.chp_meaning.specs.Remaining.{remains_of, several_of, part_count, EachCanRemain}
use Rattle.chp_meaning.specs.Changes.{each_changed}
use Rattle.chp_meaning.specs.AtOnce.{statements, each_statements, moves_of}
use Rattle.chp_meaning.specs.Standing.{outset_of}
use Rattle.chp_meaning.proofs.Changing.{first_advanced, first_over}
use Rattle.chp_meaning.proofs.plan.+advanced.Given as goal

abbrev pub decreases-advanced : goal.decreases-advanced
decreases-advanced l = goal.size-advanced l

abbrev pub invariant-loop-index : goal.invariant-loop-index
invariant-loop-index l = record {
  changes : each_changed l.changes.items (several_of l.left-items) ≡
      first_advanced (outset_of l.config) (process_of l.stmt) 0 l.index (several_of l.left-items);
  done : l.all_done ≡ first_over (outset_of l.config) (process_of l.stmt) 0 l.index (several_of l.left-items);
  stays : l.branch ≡ Stays;
  moves : l.moves.items ++ moves_of (outset_of l.config) (each_statements (process_of l.stmt) l.index (several_of (drop l.index l.left-items))) ≡
      l.fn.moves.items ++ moves_of (outset_of l.config) (statements (process_of l.stmt) (remains_of l.left));
  remains : EachCanRemain (process_of l.stmt) l.index (several_of (drop l.index l.left-items));
  count : length l.left-items ≡ part_count (process_of l.stmt);
}
