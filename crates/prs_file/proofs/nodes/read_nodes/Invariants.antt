use Rattle.std.proofs.Common.{◌≡◌, length}
use Rattle.prs_file.specs.Openings.{opening, text_behind}
use Rattle.prs_file.specs.NodesTold.{IsNodesRead}
use Rattle.prs_file.proofs.nodes.read_nodes.Given as goal

abbrev pub invariant-loop-nodes : goal.invariant-loop-nodes
invariant-loop-nodes l =
    record {
      read : IsNodesRead l.version l.nodes.index l.nodes.first.items l.ends (text_behind (opening l.version) l.text) l.rest;
      version : l.nodes.version ≡ l.version;
    }

abbrev pub decreases-loop-nodes : goal.decreases-loop-nodes
decreases-loop-nodes l = length l.rest
