use Rattle.std.proofs.Common.{◌≡◌, ◌+◌, ◌≤◌, length, map}
use Rattle.std.specs.Prelude.{◌==◌}
use Rattle.prs_core.specs.declared.wires.Wires.{Wires}
use Rattle.prs_file.specs.ChannelsTold.{channels_told}
use Rattle.prs_file.specs.Openings.{text_behind}
use Rattle.prs_file.specs.RulesTold.{IsRulesRead}
use Rattle.prs_file.specs.Tables.{net_forms, IsTable}
use Rattle.prs_file.proofs.table.read_rules.Given as goal

abbrev pub invariant-loop-rest : goal.invariant-loop-rest
invariant-loop-rest l =
    let n = l.nodes in
    record {
      read :
          IsRulesRead (net_forms n.version n.index n.first.items l.channels l.rules) n.version n.index n.first.items (map (λ (w : Wires). w.channel) l.channels)
          l.so_far.place l.so_far.literals (text_behind (channels_told n.version n.index n.first.items l.channels) l.text) l.rest;
      table : IsTable (n.version == 2) (map (λ (w : Wires). w.channel) l.channels) n.index l.so_far.place l.so_far.literals l.rules;
      line : l.line ≡ length (net_forms n.version n.index n.first.items l.channels l.rules) + 1;
      room : l.line + length l.rest ≤ 268435456 + 65539;
    }

abbrev pub decreases-loop-rest : goal.decreases-loop-rest
decreases-loop-rest l = length l.rest
