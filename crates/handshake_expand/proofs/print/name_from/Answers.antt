use Rattle.std.proofs.Common.{◌≤◌, sym, subst, ◌∙◌}
use Rattle.width_check.specs.Typed.{program_of}
use Rattle.handshake_expand.proofs.NameLists.{inner_named}
use Rattle.handshake_expand.proofs.print.name_from.Goals as goal

pub returns-else-node-root-clause-name : goal.returns-else-node-root-clause-name
returns-else-node-root-clause-name c =
    c.numbered_name.ensures.name
    ∙ sym (inner_named (program_of c.args.program.now) c.args.node c.body-body.ensures.typed.each_var
    (subst (λ n. n ≤ c.args.node) c.requires.root c.if-node-root.false) c.requires.node)
