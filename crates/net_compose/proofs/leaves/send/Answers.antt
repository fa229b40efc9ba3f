use Rattle.std.proofs.Common.{◌∷◌, [], ◌++◌, ap, ◌∙◌}
use Rattle.prs_core.specs.Sites.{site_answer}
use Rattle.width_check.specs.Typed.{program_of}
use Rattle.cell_channel.specs.Ends.{end_answer}
use Rattle.net_compose.specs.Translation.{ack_at}
use Rattle.net_compose.specs.Contacts.{sends}
use Rattle.net_compose.proofs.BodyDriven.{two_on}
use Rattle.net_compose.proofs.leaves.send.Goals as goal

pub formula-requires-clause-formed : goal.formula-requires-clause-formed
formula-requires-clause-formed c = c.requires.process.sent.formed

pub formula-requires-clause-reads : goal.formula-requires-clause-reads
formula-requires-clause-reads c = c.requires.process.sent.reads

pub returns-clause-made : goal.returns-clause-made
returns-clause-made c =
    two_on c.args.drivers.now.items _ _ (end_answer c.args.request (ack_at (program_of c.args.program.now) c.args.chan) ∷ []) _
    (c.in_ok-push.ensures.items ∙ ap (λ d. c.args.drivers.now.items ++ d ∷ [])
    (c.site.ensures ∙ ap (site_answer c.args.request) c.ack_node-ack.ensures.ack))
    c.in_ok-bits.ensures.made

pub returns-clause-contacts : goal.returns-clause-contacts
returns-clause-contacts c =
    c.in_ok-push-2.ensures.items ∙ ap (λ d. c.args.contacts.now.items ++ d ∷ []) (c.send.ensures ∙ ap (sends c.args.chan) c.in_ok-bits.ensures.bits)
