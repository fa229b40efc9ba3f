use Rattle.std.proofs.Common.{◌≡◌, ◌+◌, [], ◌++◌, map, drop}
use Rattle.width_check.specs.Typed.{program_of}
use Rattle.handshake_expand.specs.Expansions.{block_value, var_block, blocks_from}
use Rattle.handshake_expand.specs.Layout.{blocks_before, vars_from}
use Rattle.handshake_expand.proofs.blocks.var_blocks.Given as goal

abbrev pub invariant-loop-var : goal.invariant-loop-var
invariant-loop-var l = record {
  blocks : map block_value l.blocks.items ++ blocks_from (var_block (program_of l.program) []) l.var-index (drop l.var-index l.var-items) ≡
      blocks_from (var_block (program_of l.program) []) 0 l.var-items;
  next : l.next ≡ vars_from (program_of l.program) + blocks_before l.var-items l.var-index;
}
