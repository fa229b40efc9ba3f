use Rattle.std.proofs.Common.{◌≡◌, true, not}
use Rattle.prs_core.specs.Moves.{high, rule_enabled}
use Rattle.env_script.specs.Environment.{all_below}
use Rattle.env_script.proofs.environment.rules_rest.Given as goal

abbrev pub invariant-loop-node : goal.invariant-loop-node
invariant-loop-node l = all_below l.node (λ n. not (rule_enabled l.net (high l.state) n)) ≡ true
