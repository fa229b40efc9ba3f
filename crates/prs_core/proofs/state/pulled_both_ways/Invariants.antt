use Rattle.std.proofs.Common.{◌≡◌, ℕ, ◌<◌, false}
use Rattle.prs_core.specs.Moves.{both_ways, high}
use Rattle.prs_core.proofs.state.pulled_both_ways.Given as goal

abbrev pub invariant-loop-node : goal.invariant-loop-node
invariant-loop-node l = (k : ℕ) → k < l.node → both_ways l.net (high l.state) k ≡ false
