use Rattle.std.proofs.Common.{◌+◌, ap, arith}
use Rattle.chp_syntax.specs.View.{program_tree as tree_of}
use Rattle.width_check.specs.Typed.{program_of}
use Rattle.call_compose.proofs.SharedCircuits.{sites_declared, all_drawn}
use Rattle.call_compose.proofs.circuit.drivers_of.Goals as goal

pub declared-requires-clause-contacts : goal.declared-requires-clause-contacts
declared-requires-clause-contacts c =
    let P = tree_of c.args.program.now in
    let p = program_of c.args.typed.now in
    let h = c.requires.inlined in
    sites_declared P p h c.calls_asked.ensures c.body-body.ensures.typed.body_is c.inner_drivers.new.contacts.items (c.in_ok-root.ensures.contacts h)

pub returns-clause-made : goal.returns-clause-made
returns-clause-made c h =
    let P = tree_of c.args.program.now in
    let p = program_of c.args.typed.now in
    all_drawn P p h (c.in_ok-root.root.request + 1) c.in_ok-root.root.answer c.len-own.result c.inner_drivers.new.contacts.items
    c.inner_drivers.new.drivers.items c.declared.new.drivers.items c.rotate_left.new.self.items (ap (λ n. n + 1) (c.in_ok-root.ensures.root h))
    (c.in_ok-root.ensures.answer h) (c.in_ok-root.ensures.contacts h) (c.in_ok-root.ensures.made h) (omega
    (arith, c.len-own.ensures, c.inner_drivers.new.drivers.ok.0)) c.in_ok-declared.ensures c.rotate_left.ensures.items
