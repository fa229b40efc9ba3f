use Rattle.std.proofs.Common.{◌≡◌, ◌+◌, ◌≤◌, length}
use Rattle.prs_file.specs.ChannelsTold.{channel_names, IsChannelsRead}
use Rattle.prs_file.specs.NodesTold.{nodes_told}
use Rattle.prs_file.specs.Openings.{text_behind}
use Rattle.prs_file.proofs.channels.read_channels.Given as goal

abbrev pub invariant-loop-names : goal.invariant-loop-names
invariant-loop-names l = record {
  read : IsChannelsRead l.nodes.version l.nodes.index l.nodes.first.items l.channels.items
      (text_behind (nodes_told l.nodes.version l.nodes.index l.nodes.first.items) l.text) l.rest;
  named : l.names ≡ channel_names l.channels.items;
  room : length l.channels.items + length l.rest ≤ length l.text;
}

abbrev pub decreases-loop-names : goal.decreases-loop-names
decreases-loop-names l = length l.rest
