use Rattle.std.proofs.Common.{◌-◌, ◌≤◌, length, arith}
use Rattle.std.proofs.lemmas.Slice.Eq.{slice_eq-Decides}
use Rattle.event_sim.proofs.Present.{group_same, number_decides}
use Rattle.event_sim.proofs.ages.group_run.Goals as goal

pub loop-run-preserved : goal.loop-run-preserved
loop-run-preserved c =
    let was_left : 32 ≤ length c.args.was.now - c.args.left - c.loop-run.run = c.loop-run-test.true in
    let list_left : 32 ≤ length c.args.list.now - c.args.done - c.loop-run.run = c.if-list-done-ge-GROUP.true in
    group_same c.args.was.now c.args.list.now c.args.left c.args.done c.loop-run.run 32 c.loop-run.invariant (omega (arith, was_left))
    (omega (arith, list_left)) ((slice_eq-Decides number_decides _ _ c.eq.result c.eq.ensures).0 c.if-eq.true)
