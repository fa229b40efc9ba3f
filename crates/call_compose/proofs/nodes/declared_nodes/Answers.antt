use Rattle.std.proofs.Common.{◌≡◌, length, ap, sym, ◌∙◌, arith}
use Rattle.width_check.specs.Typed.{program_of}
use Rattle.handshake_expand.specs.Layout.{wires_before, blocks_before}
use Rattle.handshake_expand.proofs.Rows.{all_wires, all_blocks, wires_are, blocks_are, no_more_wires, no_more_blocks}
use Rattle.call_compose.proofs.nodes.declared_nodes.Goals as goal

pub returns : goal.returns
returns c =
    let p = program_of c.args.program.now in
    let wires : wires_before p.channels (length p.channels) ≡ all_wires c.channels-channel-items.result.now =
    wires_are p.channels ∙ ap all_wires (sym c.channels-channel-items.ensures) in
    let blocks : blocks_before p.vars (length p.vars) ≡ all_blocks c.vars-var-items.result.now =
    blocks_are p.vars ∙ ap all_blocks (sym c.vars-var-items.ensures) in
    let no_wires = no_more_wires c.channels-channel-items.result.now c.loop-channel.channel-index c.loop-channel-test.false in
    let no_blocks = no_more_blocks c.vars-var-items.result.now c.loop-var.var-index c.loop-var-test.false in
    omega (
      arith,
      wires,
      blocks,
      no_wires,
      no_blocks,
      c.loop-channel.invariant.counted,
      c.loop-channel.invariant.most,
      c.loop-var.invariant.counted,
      c.loop-var.invariant.most,
    )
