use Rattle.std.proofs.Common.{◌≡◌, ◌+◌, ◌*◌, [], ◌++◌, length, map, drop, ap, ◌∙◌, arith}
use Rattle.width_check.specs.Typed.{program_of}
use Rattle.handshake_expand.specs.Expansions.{block_value, channel_block, blocks_from}
use Rattle.handshake_expand.specs.Layout.{wires_before, channel_from}
use Rattle.handshake_expand.proofs.Placing.{next_block, all_blocks_made, wires_within}
use Rattle.handshake_expand.proofs.NameLists.{next_wires, no_wires_before}
use Rattle.handshake_expand.proofs.blocks.channel_blocks.Goals as goal

pub loop-channel-init : goal.loop-channel-init
loop-channel-init c =
    let items = c.channels-channel-items.result.now in
    record {
      blocks = ap (λ bs. map block_value bs ++ blocks_from (channel_block (program_of c.args.program.now) []) 0 items) c.new-blocks.ensures.items;
      next = omega (arith, no_wires_before items);
    }

pub overflow_add-next : goal.overflow_add-next
overflow_add-next c =
    let items = c.channels-channel-items.result.now in
    let p = program_of c.args.program.now in
    let step = next_wires items c.loop-channel.channel-index _ c.loop-channel-test.true c.channel-item.is in
    let whole : wires_before items (length items) ≡ wires_before p.channels (length p.channels) =
    ap (λ cs. wires_before cs (length cs)) c.channels-channel-items.ensures in
    omega (arith, step, whole, wires_within items (c.loop-channel.channel-index + 1), c.loop-channel.invariant.next, c.from.ensures, c.requires)

pub loop-channel-preserved : goal.loop-channel-preserved
loop-channel-preserved c =
    let p = program_of c.args.program.now in
    let items = c.channels-channel-items.result.now in
    let i = c.loop-channel.channel-index in
    let step = next_wires items i _ c.loop-channel-test.true c.channel-item.is in
    let from : c.loop-channel.next ≡ channel_from p i = c.loop-channel.invariant.next ∙ ap (λ cs. 2 + wires_before cs i) c.channels-channel-items.ensures in
    let value : block_value c.empty_block.result ≡ channel_block p [] i c.channel-item.result =
    c.empty_block.ensures
    ∙ (ap (λ n. record { from = n; count = 2 * c.from.result + 1; sends = []; receives = []; writes = [] }) from
    ∙ ap (λ n. record { from = channel_from p i; count = 2 * n + 1; sends = []; receives = []; writes = [] }) c.from.ensures) in
    record {
      blocks = ap (λ bs. map block_value bs ++ blocks_from (channel_block p []) (i + 1) (drop (i + 1) items)) c.in_ok-push.ensures.items
          ∙ next_block (channel_block p []) c.loop-channel.blocks.items c.empty_block.result i items _ _ c.loop-channel-test.true c.channel-item.is value
          c.loop-channel.invariant.blocks;
      next = omega (arith, step, c.loop-channel.invariant.next, c.from.ensures);
    }

pub returns-clause-blocks : goal.returns-clause-blocks
returns-clause-blocks c =
    let p = program_of c.args.program.now in
    all_blocks_made (channel_block p []) c.loop-channel.blocks.items c.loop-channel.channel-index c.channels-channel-items.result.now _
    c.loop-channel-test.false c.loop-channel.invariant.blocks
    ∙ ap (blocks_from (channel_block p []) 0) c.channels-channel-items.ensures

pub returns-clause-next : goal.returns-clause-next
returns-clause-next c =
    let items = c.channels-channel-items.result.now in
    let end : c.loop-channel.channel-index ≡ length items = omega (arith, c.loop-channel-test.false, c.loop-channel.auto.channel-index-end) in
    c.loop-channel.invariant.next ∙ (ap (λ n. 2 + wires_before items n) end ∙ ap (λ cs. 2 + wires_before cs (length cs)) c.channels-channel-items.ensures)
