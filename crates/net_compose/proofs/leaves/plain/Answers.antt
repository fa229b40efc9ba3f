use Rattle.std.proofs.Common.{◌∷◌, [], ◌++◌, ap, ◌∙◌}
use Rattle.prs_core.specs.Sites.{site_answer}
use Rattle.width_check.specs.Typed.{program_of}
use Rattle.cell_variable.specs.Variables.{write_answer}
use Rattle.net_compose.specs.Translation.{written_at}
use Rattle.net_compose.proofs.BodyWritten.{on_ok}
use Rattle.net_compose.proofs.BodyDriven.{two_on}
use Rattle.net_compose.proofs.leaves.plain.Goals as goal

pub formula-requires-clause-formed : goal.formula-requires-clause-formed
formula-requires-clause-formed c = c.requires.width.formed

pub formula-requires-clause-reads : goal.formula-requires-clause-reads
formula-requires-clause-reads c = c.requires.width.reads

pub returns-clause-made : goal.returns-clause-made
returns-clause-made c =
    on_ok c.formula.result
    (two_on c.args.drivers.now.items _ _ (write_answer c.args.request (written_at (program_of c.args.program.now) c.args.var) ∷ []) _
    (c.in_ok-push.ensures.items ∙ ap (λ d. c.args.drivers.now.items ++ d ∷ [])
    (c.site.ensures ∙ ap (site_answer c.args.request) c.written_node-written.ensures.written)))
    c.formula.ensures.made
