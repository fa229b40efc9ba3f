use Rattle.std.proofs.Common.{◌≡◌, ◌++◌, drop}
use Rattle.wave_file.specs.Waves.{first_lines}
use Rattle.wave_file.proofs.write.first_lines.Given as goal

abbrev pub invariant-loop-node : goal.invariant-loop-node
invariant-loop-node l = l.to.items ++ first_lines l.node (drop l.node l.first) ≡ l.initial.to.items ++ first_lines 0 l.first
