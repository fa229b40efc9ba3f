use Rattle.std.proofs.Common.{◌≡◌, ◌+◌, [], ◌++◌, length, map, drop, ap, ◌∙◌, arith}
use Rattle.width_check.specs.Typed.{program_of}
use Rattle.handshake_expand.specs.Expansions.{block_value, var_block, blocks_from}
use Rattle.handshake_expand.specs.Layout.{blocks_before, var_from, vars_from}
use Rattle.handshake_expand.proofs.Placing.{next_block, all_blocks_made, blocks_within}
use Rattle.handshake_expand.proofs.NameLists.{next_blocks, no_blocks_before}
use Rattle.handshake_expand.proofs.blocks.var_blocks.Goals as goal

pub loop-var-init : goal.loop-var-init
loop-var-init c =
    let items = c.vars-var-items.result.now in
    record {
      blocks = ap (λ bs. map block_value bs ++ blocks_from (var_block (program_of c.args.program.now) []) 0 items) c.new-blocks.ensures.items;
      next = omega (arith, c.requires.from, no_blocks_before items);
    }

pub overflow_add-next : goal.overflow_add-next
overflow_add-next c =
    let items = c.vars-var-items.result.now in
    let p = program_of c.args.program.now in
    let step = next_blocks items c.loop-var.var-index _ c.loop-var-test.true c.var-item.is in
    let whole : blocks_before items (length items) ≡ blocks_before p.vars (length p.vars) = ap (λ vs. blocks_before vs (length vs)) c.vars-var-items.ensures in
    omega (arith, step, whole, blocks_within items (c.loop-var.var-index + 1), c.loop-var.invariant.next, c.block_nodes-nodes.ensures, c.requires)

pub loop-var-preserved : goal.loop-var-preserved
loop-var-preserved c =
    let p = program_of c.args.program.now in
    let items = c.vars-var-items.result.now in
    let i = c.loop-var.var-index in
    let step = next_blocks items i _ c.loop-var-test.true c.var-item.is in
    let from : c.loop-var.next ≡ var_from p i = c.loop-var.invariant.next ∙ ap (λ vs. vars_from p + blocks_before vs i) c.vars-var-items.ensures in
    let value : block_value c.empty_block.result ≡ var_block p [] i c.var-item.result =
    c.empty_block.ensures
    ∙ (ap (λ n. record { from = n; count = c.block_nodes-nodes.result; sends = []; receives = []; writes = [] }) from
    ∙ ap (λ n. record { from = var_from p i; count = n; sends = []; receives = []; writes = [] }) c.block_nodes-nodes.ensures) in
    record {
      blocks = ap (λ bs. map block_value bs ++ blocks_from (var_block p []) (i + 1) (drop (i + 1) items)) c.in_ok-push.ensures.items
          ∙ next_block (var_block p []) c.loop-var.blocks.items c.empty_block.result i items _ _ c.loop-var-test.true c.var-item.is value
          c.loop-var.invariant.blocks;
      next = omega (arith, step, c.loop-var.invariant.next, c.block_nodes-nodes.ensures);
    }

pub returns-clause-blocks : goal.returns-clause-blocks
returns-clause-blocks c =
    let p = program_of c.args.program.now in
    all_blocks_made (var_block p []) c.loop-var.blocks.items c.loop-var.var-index c.vars-var-items.result.now _ c.loop-var-test.false
    c.loop-var.invariant.blocks
    ∙ ap (blocks_from (var_block p []) 0) c.vars-var-items.ensures

pub returns-clause-next : goal.returns-clause-next
returns-clause-next c =
    let p = program_of c.args.program.now in
    let items = c.vars-var-items.result.now in
    let end : c.loop-var.var-index ≡ length items = omega (arith, c.loop-var-test.false, c.loop-var.auto.var-index-end) in
    c.loop-var.invariant.next ∙ (ap (λ n. vars_from p + blocks_before items n) end
    ∙ ap (λ vs. vars_from p + blocks_before vs (length vs)) c.vars-var-items.ensures)
