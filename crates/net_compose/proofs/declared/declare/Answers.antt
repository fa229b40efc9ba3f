use Rattle.std.proofs.Common.{◌∙◌, [], ◌∷◌, ◌++◌, length, All, ap, sym, subst}
use Rattle.width_check.specs.Typed.{program_of}
use Rattle.handshake_expand.specs.Layout.{body_from}
use Rattle.net_compose.specs.SortedContacts.{IsDeclaredContact}
use Rattle.net_compose.proofs.BodyWritten.{on_ok}
use Rattle.net_compose.proofs.ContactsSorted.{statement_declared}
use Rattle.net_compose.proofs.DeclaredDriven.{body_wires, body_blocks}
use Rattle.net_compose.proofs.AllDriven.{declared_driven}
use Rattle.net_compose.proofs.declared.declare.Goals as goal

pub declared-requires-clause-contacts : goal.declared-requires-clause-contacts
declared-requires-clause-contacts c =
    let p = program_of c.args.program.now in
    subst (All (IsDeclaredContact (length p.channels) (length p.vars))) (sym c.requires.contacts)
    (statement_declared p p.body (body_from p) c.body-kept.ensures.typed.body_is)

pub returns : goal.returns
returns c =
    let p = program_of c.args.program.now in
    on_ok c.add-2.result
    (λ last. declared_driven p c.args.latch c.args.answer c.args.drivers.now.items c.declared.new.drivers.items c.add.new.drivers.items
    c.add-2.new.drivers.items _ _ (body_wires p c.args.contacts.items c.requires.contacts 0 p.channels)
    (body_blocks p c.args.contacts.items c.requires.contacts 0 p.vars) c.in_ok-declared.ensures
    (c.in_ok-add.ensures ∙ ap (λ d. c.declared.new.drivers.items ++ d ∷ []) c.child.ensures)
    (last ∙ ap (λ d. c.add.new.drivers.items ++ d ∷ []) c.latch.ensures))
    c.add-2.ensures
