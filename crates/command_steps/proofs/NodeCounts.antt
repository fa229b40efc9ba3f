-- How many nodes are counted, as far as they are.
use Rattle.std.proofs.Common.{◌<◌, ◌≤◌, arith}
use Rattle.width_check.specs.Processes.{TypedProgram}
use Rattle.handshake_expand.specs.Layout.{nodes_of, node_count}
use Rattle.command_steps.specs.Steps.{most_of_nodes}

pub counted_few : (p : TypedProgram) → nodes_of p ≤ 65536 → node_count p ≤ most_of_nodes
counted_few p few = omega (arith, few)

pub counted_many : (p : TypedProgram) → 65536 < nodes_of p → most_of_nodes < node_count p
counted_many p many = omega (arith, many)
