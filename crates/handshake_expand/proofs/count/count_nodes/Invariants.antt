use Rattle.std.proofs.Common.{◌≡◌, ◌+◌, drop}
use Rattle.handshake_expand.specs.Layout.{capped}
use Rattle.handshake_expand.proofs.Rows.{all_wires, all_blocks}
use Rattle.handshake_expand.proofs.count.count_nodes.Given as goal

abbrev pub invariant-loop-channel : goal.invariant-loop-channel
invariant-loop-channel l = capped (l.count + all_wires (drop l.channel-index l.channel-items)) ≡ capped (4 + all_wires l.channel-items)

abbrev pub invariant-loop-var : goal.invariant-loop-var
invariant-loop-var l = capped (l.count + all_blocks (drop l.var-index l.var-items)) ≡ capped (l.initial.count + all_blocks l.var-items)
