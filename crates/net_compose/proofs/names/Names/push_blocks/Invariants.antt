use Rattle.std.proofs.Common.{◌≡◌, ◌+◌, ◌++◌, drop}
use Rattle.handshake_expand.specs.Layout.{blocks_before}
use Rattle.handshake_expand.specs.Named.{block_names}
use Rattle.net_compose.proofs.names.Names.push_blocks.Given as goal

abbrev pub invariant-loop-var : goal.invariant-loop-var
invariant-loop-var l = record {
  names : l.self ++ block_names (drop l.var-index l.vars) l.node ≡ l.initial.self ++ block_names l.vars l.from;
  next : l.node ≡ l.from + blocks_before l.vars l.var-index;
}
