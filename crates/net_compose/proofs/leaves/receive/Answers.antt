use Rattle.std.proofs.Common.{◌∷◌, [], ◌+◌, ◌++◌, ap, append_assoc, ◌∙◌, arith}
use Rattle.std.specs.Prelude.{slice_index_or}
use Rattle.prs_core.specs.Pairs.{pairs_from}
use Rattle.prs_core.specs.Sites.{site_answer}
use Rattle.width_check.specs.Typed.{program_of}
use Rattle.width_check.specs.Typing.{channel_width}
use Rattle.cell_channel.specs.Ends.{end_answer, port_rules}
use Rattle.cell_variable.specs.Variables.{write_answer}
use Rattle.function_blocks.proofs.Emission.{pairs_apart}
use Rattle.net_compose.specs.Translation.{ack_at, rails_at, written_at}
use Rattle.net_compose.proofs.DeclaredRules.{channel_start, wires_before_body}
use Rattle.net_compose.specs.Contacts.{takes, writes}
use Rattle.net_compose.proofs.BodyDriven.{two_on}
use Rattle.net_compose.proofs.leaves.receive.Goals as goal

pub port-requires : goal.port-requires
port-requires c =
    let p = program_of c.args.program.now in
    let first = c.first_of-first.ensures ∙ (ap (λ xs. slice_index_or xs c.args.chan 0) c.deref-3.ensures.value
    ∙ channel_start p c.args.firsts.now.channels.items c.args.chan 0 c.requires.channels c.requires.process.within) in
    let before = wires_before_body p c.args.chan c.requires.process.within in
    omega (arith, first, before, c.channel_bits-width.ensures, c.requires.root, c.requires.room)

pub returns-clause-made : goal.returns-clause-made
returns-clause-made c =
    let p = program_of c.args.program.now in
    let r = c.args.request in
    let old = c.args.drivers.now.items in
    let first = c.first_of-first.ensures ∙ (ap (λ xs. slice_index_or xs c.args.chan 0) c.deref-3.ensures.value
    ∙ channel_start p c.args.firsts.now.channels.items c.args.chan 0 c.requires.channels c.requires.process.within) in
    two_on old _ _ (end_answer r (ack_at p c.args.chan) ∷ []) _
    (c.in_ok-push.ensures.items ∙ ap (λ d. old ++ d ∷ []) (c.site.ensures ∙ ap (site_answer r) c.ack_node-ack.ensures.ack))
    (two_on c.push.new.self.items _ _ (write_answer r (written_at p c.args.var) ∷ []) (port_rules r (rails_at p c.args.chan))
    (c.in_ok-push-2.ensures.items ∙ ap (λ d. c.push.new.self.items ++ d ∷ []) (c.site-2.ensures ∙ ap (site_answer r) c.written_node-written.ensures.written))
    (c.in_ok-port.ensures ∙ (ap (λ w. c.push-2.new.self.items ++ port_rules r (pairs_from w c.first_of-first.result)) c.channel_bits-width.ensures
    ∙ ap (λ n. c.push-2.new.self.items ++ port_rules r (pairs_from (channel_width p.channels c.args.chan) n)) first)))

pub returns-clause-contacts : goal.returns-clause-contacts
returns-clause-contacts c =
    let p = program_of c.args.program.now in
    let old = c.args.contacts.now.items in
    let bits = c.in_ok-bits.ensures ∙ (pairs_apart c.channel_bits-width.result (c.args.from + 2)
    ∙ ap (λ w. pairs_from w (c.args.from + 2)) c.channel_bits-width.ensures) in
    c.in_ok-push-4.ensures.items ∙ (ap (λ d. c.push-3.new.self.items ++ d ∷ []) (c.write.ensures ∙ ap (writes c.args.var) bits)
    ∙ (ap (λ l. l ++ writes c.args.var (pairs_from (channel_width p.channels c.args.chan) (c.args.from + 2)) ∷ [])
    (c.in_ok-push-3.ensures.items ∙ ap (λ d. old ++ d ∷ []) c.take.ensures)
    ∙ append_assoc old (takes c.args.chan (c.args.from + 1) ∷ []) _))
