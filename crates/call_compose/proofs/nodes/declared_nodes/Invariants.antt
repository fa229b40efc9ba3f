use Rattle.std.proofs.Common.{◌≡◌, ◌+◌, ◌≤◌, ◌-◌, ◌^◌, drop}
use Rattle.handshake_expand.specs.Layout.{capped}
use Rattle.handshake_expand.proofs.Rows.{all_wires, all_blocks}
use Rattle.call_compose.proofs.nodes.declared_nodes.Given as goal

abbrev pub invariant-loop-channel : goal.invariant-loop-channel
invariant-loop-channel l = record {
  counted : capped (l.count + all_wires (drop l.channel-index l.channel-items)) ≡ capped (2 + all_wires l.channel-items);
  most : l.count ≤ 2 ^ 64 - 1;
}

abbrev pub invariant-loop-var : goal.invariant-loop-var
invariant-loop-var l = record {
  counted : capped (l.count + all_blocks (drop l.var-index l.var-items)) ≡ capped (l.initial.count + all_blocks l.var-items);
  most : l.count ≤ 2 ^ 64 - 1;
}
