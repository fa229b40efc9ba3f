use Rattle.cell_channel.proofs.Port.{Taken}
use Rattle.cell_channel.proofs.emit.emit_receive_port.Given as goal

abbrev pub invariant-loop-rail : goal.invariant-loop-rail
invariant-loop-rail l = Taken l.fn.request l.fn.rails l.fn.from l.fn.rules l.rail-index l.node l.rules
