use Rattle.std.proofs.Common.{arith}
use Rattle.pace_bound.proofs.Heights.{levels_step}
use Rattle.pace_bound.proofs.height.tree_height.Goals as goal

pub loop-nodes-preserved : goal.loop-nodes-preserved
loop-nodes-preserved c =
    let step = levels_step c.args.leaves c.loop-nodes.height c.loop-nodes.nodes c.loop-nodes-test.true c.loop-nodes.invariant.few in
    record { counted = omega (arith, c.loop-nodes.invariant.counted, step); few = omega arith }
