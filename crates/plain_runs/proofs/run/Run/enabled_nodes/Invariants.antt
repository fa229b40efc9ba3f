use Rattle.std.proofs.Common.{◌≡◌, map}
use Rattle.std.specs.List.{range_with_len}
use Rattle.env_script.specs.Runs.{move_enabled}
use Rattle.plain_runs.proofs.run.Run.enabled_nodes.Given as goal

abbrev pub invariant-loop-node : goal.invariant-loop-node
invariant-loop-node l = l.moves.items ≡ map (move_enabled l.self.net l.self.script l.self.now) (range_with_len 0 l.node)
