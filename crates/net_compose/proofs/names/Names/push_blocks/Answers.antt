use Rattle.std.proofs.Common.{◌∙◌, ◌+◌, ◌++◌, drop, refl, ap, arith}
use Rattle.handshake_expand.specs.Named.{block_names}
use Rattle.handshake_expand.proofs.NameLists.{next_blocks, no_blocks_before}
use Rattle.handshake_expand.proofs.Placing.{blocks_within}
use Rattle.net_compose.proofs.NamesPushed.{block_more}
use Rattle.net_compose.proofs.names.Names.push_blocks.Goals as goal

pub loop-var-init : goal.loop-var-init
loop-var-init c = record { names = refl; next = omega (arith, no_blocks_before c.args.vars.now) }

pub push_block-requires : goal.push_block-requires
push_block-requires c =
    let items = c.args.vars.now in
    let i = c.loop-var.var-index in
    omega (arith, next_blocks items i _ c.loop-var-test.true c.var-item.is, blocks_within items (i + 1), c.loop-var.invariant.next, c.requires)

pub loop-var-preserved : goal.loop-var-preserved
loop-var-preserved c =
    let items = c.args.vars.now in
    let i = c.loop-var.var-index in
    record {
      names = ap (λ n. c.push_block.new.self ++ block_names (drop (i + 1) items) n) c.in_ok-node.ensures.end
          ∙ block_more items i c.loop-var.node _ _ _ _ c.loop-var-test.true c.var-item.is c.loop-var.invariant.names c.in_ok-node.ensures.names;
      next = omega (arith, next_blocks items i _ c.loop-var-test.true c.var-item.is, c.loop-var.invariant.next, c.in_ok-node.ensures.end);
    }
