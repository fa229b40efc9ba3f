use Rattle.std.proofs.Common.{◌+◌, sym, append-nil, arith}
use Rattle.handshake_expand.proofs.NameLists.{next_wires, no_wires_before}
use Rattle.handshake_expand.proofs.Placing.{wires_within}
use Rattle.net_compose.proofs.NamesPushed.{wires_more}
use Rattle.net_compose.proofs.names.Names.push_channels.Goals as goal

pub loop-channel-init : goal.loop-channel-init
loop-channel-init c = record { names = sym (append-nil c.args.self.now); next = omega (arith, no_wires_before c.args.channels.now) }

pub overflow_add-node : goal.overflow_add-node
overflow_add-node c =
    let items = c.args.channels.now in
    let i = c.loop-channel.channel-index in
    omega (
      arith,
      next_wires items i _ c.loop-channel-test.true c.channel-item.is,
      wires_within items (i + 1),
      c.loop-channel.invariant.next,
      c.wire_nodes-node.ensures,
      c.requires,
    )

pub loop-channel-preserved : goal.loop-channel-preserved
loop-channel-preserved c =
    let items = c.args.channels.now in
    let i = c.loop-channel.channel-index in
    record {
      names = wires_more items i _ _ _ _ c.loop-channel-test.true c.channel-item.is c.loop-channel.invariant.names c.in_ok-push_wires.ensures;
      next = omega (arith, next_wires items i _ c.loop-channel-test.true c.channel-item.is, c.loop-channel.invariant.next, c.wire_nodes-node.ensures);
    }
