use Rattle.std.proofs.Common.{◌≡◌, ◌++◌, length, ap, ◌∙◌, arith}
use Rattle.std.specs.List.{flat_map, range_with_len}
use Rattle.prs_core.specs.declared.wires.Wires.{Wires}
use Rattle.prs_core.specs.Nets.{name_at, first_at}
use Rattle.prs_file.specs.Spelling.{head_spelling, version_of, node_spelling, channel_spelling, rules_spelling}
use Rattle.prs_file.proofs.Rules.{lines_more, whole_text}
use Rattle.prs_file.proofs.print.print_net.Goals as goal

pub loop-node-preserved : goal.loop-node-preserved
loop-node-preserved c =
    c.in_ok-rule_lines.ensures ∙ lines_more (rules_spelling c.args.net.now) c.loop-node.node c.channel_lines.new.to.items c.loop-node.text.items
    c.loop-node.invariant

pub returns : goal.returns
returns c =
    let net = c.args.net.now in
    let nodes = range_with_len 0 (length net.first) in
    let whole : c.loop-node.node ≡ length net.first = omega (arith, ap length c.first.ensures.first) in
    let head : c.head_line.new.to.items ≡ c.new-text.result.items ++ head_spelling (version_of net.reset) =
    rw (← c.version.ensures.value) c.in_ok-head_line.ensures.ok in
    let rules : c.loop-node.text.items ≡ c.channel_lines.new.to.items ++ flat_map (rules_spelling net) nodes = rw (← whole) c.loop-node.invariant in
    whole_text (head_spelling (version_of net.reset)) (flat_map (λ node. node_spelling (name_at net node) (first_at net node)) nodes)
    (flat_map (λ (w : Wires). channel_spelling w.channel) net.channels) (flat_map (rules_spelling net) nodes) c.new-text.result.items _ _ _ _
    c.new-text.ensures.items head c.in_ok-node_lines.ensures c.in_ok-channel_lines.ensures rules
