use Rattle.std.proofs.Common.{◌≡◌, take}
use Rattle.event_sim.specs.Following.{power_of}
use Rattle.wave_file.proofs.start.start_values.Given as goal

abbrev pub invariant-loop-node : goal.invariant-loop-node
invariant-loop-node l = l.values.items ≡ take l.node (power_of l.net l.high)
