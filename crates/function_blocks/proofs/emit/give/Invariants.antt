use Rattle.std.specs.Vec.Iter.{into_iter_items}
use Rattle.function_blocks.proofs.Giving.{Giving}
use Rattle.function_blocks.proofs.emit.give.Given as goal

abbrev pub invariant-loop-each : goal.invariant-loop-each
invariant-loop-each l = Giving l.from l.fn.guards.items l.fn.rules l.node (into_iter_items l.each-iterator) l.rules
