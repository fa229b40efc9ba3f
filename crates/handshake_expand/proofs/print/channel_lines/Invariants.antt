use Rattle.std.proofs.Common.{◌≡◌, ◌++◌, map, drop}
use Rattle.handshake_expand.specs.Expansions.{block_value}
use Rattle.handshake_expand.specs.PartText.{channel_lines}
use Rattle.handshake_expand.proofs.print.channel_lines.Given as goal

abbrev pub invariant-loop-place : goal.invariant-loop-place
invariant-loop-place l =
    l.to.items ++ channel_lines (drop l.place l.channel-items) (map block_value (drop l.place l.blocks)) ≡ l.initial.to.items
    ++ channel_lines l.channel-items (map block_value l.blocks)
