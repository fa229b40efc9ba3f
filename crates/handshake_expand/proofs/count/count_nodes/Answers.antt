use Rattle.std.proofs.Common.{◌≡◌, length, ap, sym, ◌∙◌, arith}
use Rattle.width_check.specs.Typed.{program_of}
use Rattle.width_check.specs.View.{process_of}
use Rattle.handshake_expand.specs.Layout.{size_of, wires_before, blocks_before}
use Rattle.handshake_expand.proofs.Rows.{all_wires, all_blocks, wires_are, blocks_are, no_more_wires, no_more_blocks}
use Rattle.handshake_expand.proofs.count.count_nodes.Goals as goal

pub returns : goal.returns
returns c =
    let p = program_of c.args.program.now in
    let wires : wires_before p.channels (length p.channels) ≡ all_wires c.channels-channel-items.result.now =
    wires_are p.channels ∙ ap all_wires (sym c.channels-channel-items.ensures) in
    let blocks : blocks_before p.vars (length p.vars) ≡ all_blocks c.vars-var-items.result.now =
    blocks_are p.vars ∙ ap all_blocks (sym c.vars-var-items.ensures) in
    let no_wires = no_more_wires c.channels-channel-items.result.now c.loop-channel.channel-index c.loop-channel-test.false in
    let no_blocks = no_more_blocks c.vars-var-items.result.now c.loop-var.var-index c.loop-var-test.false in
    let body : size_of p (process_of c.body.result.now) ≡ size_of p p.body = ap (λ s. size_of p (process_of s)) c.body.ensures.body in
    omega (arith, wires, blocks, no_wires, no_blocks, body, c.loop-channel.invariant, c.loop-var.invariant, c.statement_nodes.ensures, c.saturating_add.ensures)
