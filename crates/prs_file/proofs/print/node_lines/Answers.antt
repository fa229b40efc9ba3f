use Rattle.std.proofs.Common.{◌≡◌, length, ap, ◌∙◌, arith}
use Rattle.prs_core.specs.Nets.{name_at, first_at}
use Rattle.prs_file.specs.Spelling.{node_spelling}
use Rattle.prs_file.proofs.Rules.{lines_more}
use Rattle.prs_file.proofs.print.node_lines.Goals as goal

pub loop-node-preserved : goal.loop-node-preserved
loop-node-preserved c =
    let net = c.args.net.now in
    c.in_ok-numbered_line.ensures ∙ lines_more (λ node. node_spelling (name_at net node) (first_at net node)) c.loop-node.node c.args.to.now.items
    c.loop-node.to.items c.loop-node.invariant

pub returns : goal.returns
returns c =
    let whole : c.loop-node.node ≡ length c.args.net.now.first = omega (arith, ap length c.first-node-end.ensures.first) in
    rw (← whole) c.loop-node.invariant
