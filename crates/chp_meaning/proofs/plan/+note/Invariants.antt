use Rattle.std.proofs.Common.{◌≡◌, length, drop, fold}
use Rattle.width_check.specs.View.{process_of}
use Rattle.chp_meaning.specs.Remaining.{remains_of, several_of, part_count, EachCanRemain, RunsOn}
use Rattle.chp_meaning.specs.AtOnce.{statements, each_statements, noted_send, noted_receive}
use Rattle.chp_meaning.proofs.plan.+note.Given as goal

abbrev pub decreases-note : goal.decreases-note
decreases-note l = goal.size-note l

abbrev pub invariant-loop-index : goal.invariant-loop-index
invariant-loop-index l = record {
  sends : fold (noted_send l.waits) l.sends (each_statements (process_of l.stmt) l.index (several_of (drop l.index l.left-items))) ≡
      fold (noted_send l.waits) l.fn.sends (statements (process_of l.stmt) (remains_of l.left));
  receives : fold (noted_receive l.waits) l.receives (each_statements (process_of l.stmt) l.index (several_of (drop l.index l.left-items))) ≡
      fold (noted_receive l.waits) l.fn.receives (statements (process_of l.stmt) (remains_of l.left));
  channels : RunsOn (length l.sends) (process_of l.stmt);
  tables : length l.receives ≡ length l.sends;
  remains : EachCanRemain (process_of l.stmt) l.index (several_of (drop l.index l.left-items));
  count : length l.left-items ≡ part_count (process_of l.stmt);
}
