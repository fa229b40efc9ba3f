use Rattle.std.proofs.Common.{◌≡◌, take}
use Rattle.function_blocks.proofs.emit.guards_of.Given as goal

abbrev pub invariant-loop-driver : goal.invariant-loop-driver
invariant-loop-driver l = l.guards.items ≡ take l.driver-index l.drivers
