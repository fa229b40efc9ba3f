use Rattle.std.proofs.Common.{length, ap, sym, ◌∙◌, subst}
use Rattle.width_check.specs.Typed.{program_of}
use Rattle.handshake_expand.specs.Expansions.{Expansion, channel_block, var_block}
use Rattle.handshake_expand.specs.Layout.{nodes_of}
use Rattle.handshake_expand.specs.PartText.{HasNodesBelow}
use Rattle.handshake_expand.specs.Sites.{in_body, own_sites}
use Rattle.handshake_expand.proofs.Placing.{values_count}
use Rattle.handshake_expand.proofs.Ranges.{root_below}
use Rattle.handshake_expand.proofs.Trees.{from_read, tree_from}
use Rattle.handshake_expand.proofs.print.print_parts.Goals as goal

pub channel_lines-requires : goal.channel_lines-requires
channel_lines-requires c =
    let p = program_of c.args.program.now in
    ap length c.deref.ensures.value ∙ values_count (channel_block p (in_body p (own_sites p))) c.args.parts.now.channels.items p.channels
    (ap (λ (x : Expansion). x.channels) c.requires)

pub var_lines-requires : goal.var_lines-requires
var_lines-requires c =
    let p = program_of c.args.program.now in
    ap length c.deref-2.ensures.value ∙ values_count (var_block p (in_body p (own_sites p))) c.args.parts.now.vars.items p.vars
    (ap (λ (x : Expansion). x.vars) c.requires)

pub part_lines-requires-clause-root : goal.part_lines-requires-clause-root
part_lines-requires-clause-root c = from_read c.args.parts.now.root ∙ ap (λ (x : Expansion). tree_from x.root) c.requires

pub part_lines-requires-clause-nodes : goal.part_lines-requires-clause-nodes
part_lines-requires-clause-nodes c =
    let p = program_of c.args.program.now in
    subst (HasNodesBelow (nodes_of p)) (ap (λ (x : Expansion). x.root) (sym c.requires)) (root_below p c.body-body.ensures.typed.body_is)
