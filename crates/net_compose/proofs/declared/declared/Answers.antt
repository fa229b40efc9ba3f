use Rattle.std.proofs.Common.{◌∙◌, [], ◌∷◌, ◌++◌, length, ap}
use Rattle.width_check.specs.Typed.{program_of}
use Rattle.net_compose.proofs.BodyWritten.{on_ok}
use Rattle.net_compose.proofs.DeclaredDriven.{sorted_wires, sorted_blocks}
use Rattle.net_compose.proofs.AllDriven.{ends_driven}
use Rattle.net_compose.proofs.declared.declared.Goals as goal

pub returns : goal.returns
returns c =
    let p = program_of c.args.program.now in
    let channels = length c.args.program.now.channels in
    let vars = length c.args.program.now.vars in
    on_ok c.vars.result
    (λ last. ends_driven c.args.latch c.args.answer c.args.drivers.now.items c.add.new.drivers.items c.add-2.new.drivers.items
    c.channels.new.drivers.items c.vars.new.drivers.items _ _
    (c.in_ok-add.ensures ∙ ap (λ d. c.args.drivers.now.items ++ d ∷ []) c.undriven.ensures)
    (c.in_ok-add-2.ensures ∙ ap (λ d. c.add.new.drivers.items ++ d ∷ []) c.next.ensures)
    (c.in_ok-channels.ensures ∙ ap (λ rs. c.add-2.new.drivers.items ++ rs)
    (sorted_wires channels vars c.args.contacts.items c.in_ok-sorted.sorted c.in_ok-sorted.ensures 0 c.args.program.now.channels))
    (last ∙ ap (λ rs. c.channels.new.drivers.items ++ rs)
    (sorted_blocks channels vars c.args.contacts.items c.in_ok-sorted.sorted c.in_ok-sorted.ensures p 0 c.args.program.now.vars)))
    c.vars.ensures
