use Rattle.std.proofs.Common.{◌≡◌, ◌++◌}
use Rattle.std.specs.Prelude.{replicate}
use Rattle.prs_core.specs.Pairs.{no_rules}
use Rattle.net_compose.proofs.block.silent.Given as goal

abbrev pub invariant-loop-node : goal.invariant-loop-node
invariant-loop-node l = l.drivers.items ≡ l.fn.drivers.items ++ replicate l._node no_rules
