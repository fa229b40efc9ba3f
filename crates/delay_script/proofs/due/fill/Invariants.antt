use Rattle.std.proofs.Common.{take}
use Rattle.delay_script.specs.Dues.{AreFilled}
use Rattle.delay_script.proofs.due.fill.Given as goal

abbrev pub invariant-loop-node : goal.invariant-loop-node
invariant-loop-node l = AreFilled l.stage l.delays l.made (take l.node-index l.nodes) l.fn.queue l.queue
