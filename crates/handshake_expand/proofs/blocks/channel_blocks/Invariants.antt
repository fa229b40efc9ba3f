use Rattle.std.proofs.Common.{◌≡◌, ◌+◌, [], ◌++◌, map, drop}
use Rattle.width_check.specs.Typed.{program_of}
use Rattle.handshake_expand.specs.Expansions.{block_value, channel_block, blocks_from}
use Rattle.handshake_expand.specs.Layout.{wires_before}
use Rattle.handshake_expand.proofs.blocks.channel_blocks.Given as goal

abbrev pub invariant-loop-channel : goal.invariant-loop-channel
invariant-loop-channel l = record {
  blocks : map block_value l.blocks.items ++ blocks_from (channel_block (program_of l.program) []) l.channel-index (drop l.channel-index l.channel-items) ≡
      blocks_from (channel_block (program_of l.program) []) 0 l.channel-items;
  next : l.next ≡ 2 + wires_before l.channel-items l.channel-index;
}
