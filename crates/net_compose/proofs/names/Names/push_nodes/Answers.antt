use Rattle.std.proofs.Common.{refl}
use Rattle.width_check.specs.Typed.{program_of}
use Rattle.net_compose.proofs.NamesPushed.{nodes_more}
use Rattle.net_compose.proofs.names.Names.push_nodes.Goals as goal

pub returns : goal.returns
returns c =
    nodes_more (program_of c.args.program.now) _ _ c.args.count _ _ _ c.args.self.now _ _ _ _ c.channels-channels.ensures c.vars-vars.ensures
    c.in_ok-push_ends.ensures c.in_ok-from.ensures.names c.in_ok-root.ensures.names c.in_ok-push_numbers.ensures c.in_ok-from.ensures.end
    c.in_ok-root.ensures.end refl
