use Rattle.std.proofs.Common.{◌≡◌, []}
use Rattle.net_compose.proofs.NetWritten.{written}
use Rattle.net_compose.proofs.net.rules_in.Given as goal

abbrev pub invariant-loop-node : goal.invariant-loop-node
invariant-loop-node l = record {
  up : l.rules.up ≡ written [] l.node l.circuit.up;
  down : l.rules.down ≡ written [] l.node l.circuit.down;
}
