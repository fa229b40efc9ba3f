use Rattle.std.proofs.Common.{◌≡◌, ◌+◌, ◌++◌, take}
use Rattle.handshake_expand.specs.Layout.{wires_before}
use Rattle.handshake_expand.specs.Named.{wire_names}
use Rattle.net_compose.proofs.names.Names.push_channels.Given as goal

abbrev pub invariant-loop-channel : goal.invariant-loop-channel
invariant-loop-channel l = record {
  names : l.self ≡ l.initial.self ++ wire_names (take l.channel-index l.channels);
  next : l.node ≡ 2 + wires_before l.channels l.channel-index;
}
