use Rattle.std.proofs.Common.{◌<◌, sym, subst}
use Rattle.width_check.specs.Typed.{program_of as typed_of}
use Rattle.command_answers.specs.declared.status.Status.TheVariants.{TooLarge}
use Rattle.command_answers.specs.Answers.{refuses}
use Rattle.command_answers.specs.Lines.{nodes_line}
use Rattle.command_steps.specs.Steps.{FromNodes, Never, most_of_nodes, too_many}
use Rattle.command_steps.proofs.files.counted.Goals as goal

pub returns-then-count-gt-MOST_OF_NODES-clause-stopped : goal.returns-then-count-gt-MOST_OF_NODES-clause-stopped
returns-then-count-gt-MOST_OF_NODES-clause-stopped c =
    let is = c.count_nodes-count.ensures in
    subst (λ count. FromNodes (typed_of c.args.program.now) Never (refuses TooLarge (nodes_line count))) (sym is)
    (too_many (subst (λ count. most_of_nodes < count) is c.if-count-gt-MOST_OF_NODES.true))
