use Rattle.std.proofs.Common.{◌≡◌, ◌+◌, get_or, drop, []}
use Rattle.width_check.specs.Typed.{program_of}
use Rattle.handshake_expand.specs.Layout.{wires_before, blocks_before, vars_from}
use Rattle.handshake_expand.specs.Named.{name_of_node}
use Rattle.handshake_expand.proofs.NameLists.{names_from_wires, names_from_blocks}
use Rattle.handshake_expand.proofs.name.node_name.Given as goal

abbrev pub invariant-loop-channel : goal.invariant-loop-channel
invariant-loop-channel l = record {
  name : get_or (names_from_wires (program_of l.program) (drop l.channel-index l.channel-items)) l.place [] ≡ name_of_node (program_of l.program) l.node;
  at : 2 + wires_before l.channel-items l.channel-index + l.place ≡ l.node;
}

abbrev pub invariant-loop-var : goal.invariant-loop-var
invariant-loop-var l = record {
  name : get_or (names_from_blocks (program_of l.program) (drop l.var-index l.var-items)
      (vars_from (program_of l.program) + blocks_before l.var-items l.var-index)) l.place [] ≡ name_of_node (program_of l.program) l.node;
  at : vars_from (program_of l.program) + blocks_before l.var-items l.var-index + l.place ≡ l.node;
}
