use Rattle.std.proofs.Common.{◌≡◌, ◌∙◌, ◌+◌, ◌-◌, ◌<◌, ◌≤◌, [], ◌∷◌, ◌++◌, length, get_or, map, refl, sym, ap, subst, arith}
use Rattle.std.proofs.lemmas.List.{get_or-map, length-map}
use Rattle.width_check.specs.Typed.{program_of}
use Rattle.width_check.specs.Typing.{IsProcess}
use Rattle.width_check.specs.View.{process_of}
use Rattle.handshake_expand.specs.Layout.{size_of}
use Rattle.net_compose.specs.Contacts.{every_contact}
use Rattle.call_compose.proofs.BodiesPlaced.{rules_more, requests_more, answers_more, placed_more, raised_more, size_here, size_more, counted_more}
use Rattle.call_compose.proofs.procs.place_bodies.Goals as goal

pub statement-requires-clause-process : goal.statement-requires-clause-process
statement-requires-clause-process c =
    let p = program_of c.args.program.now in
    let bodies = c.args.bodies.now in
    let i = c.loop-body.body-index in
    let next = c.loop-body.next in
    let b = process_of c.body-item.result.now in
    let bs = map (λ r. process_of r.now) bodies in
    let is : b ≡ get_or bs i b = sym (get_or-map (λ r. process_of r.now) bodies i c.body-item.result b c.loop-body-test.true
    ∙ ap (λ r. process_of r.now) (sym c.body-item.is)) in
    let within : i < length bs = omega (arith, c.loop-body-test.true, length-map bodies (λ r. process_of r.now)) in
    subst (IsProcess c.args.program.now.channels c.args.program.now.vars) (sym is) (c.requires.typed i b within)

pub statement-requires-clause-root : goal.statement-requires-clause-root
statement-requires-clause-root c = omega (arith, c.requires.root, c.loop-body.invariant.low)

pub statement-requires-clause-own : goal.statement-requires-clause-own
statement-requires-clause-own c =
    let p = program_of c.args.program.now in
    let bodies = c.args.bodies.now in
    let i = c.loop-body.body-index in
    let next = c.loop-body.next in
    let b = process_of c.body-item.result.now in
    let bs = map (λ r. process_of r.now) bodies in
    let is : b ≡ get_or bs i b = sym (get_or-map (λ r. process_of r.now) bodies i c.body-item.result b c.loop-body-test.true
    ∙ ap (λ r. process_of r.now) (sym c.body-item.is)) in
    let within : i < length bs = omega (arith, c.loop-body-test.true, length-map bodies (λ r. process_of r.now)) in
    let size = size_here p bs i b within is next (next + 1 + size_of p b) refl in
    omega (arith, size, c.loop-body.invariant.size, c.loop-body.invariant.count, c.requires.own)

pub overflow_cast-next : goal.overflow_cast-next
overflow_cast-next c =
    let p = program_of c.args.program.now in
    let bodies = c.args.bodies.now in
    let i = c.loop-body.body-index in
    let next = c.loop-body.next in
    let b = process_of c.body-item.result.now in
    let bs = map (λ r. process_of r.now) bodies in
    let is : b ≡ get_or bs i b = sym (get_or-map (λ r. process_of r.now) bodies i c.body-item.result b c.loop-body-test.true
    ∙ ap (λ r. process_of r.now) (sym c.body-item.is)) in
    let within : i < length bs = omega (arith, c.loop-body-test.true, length-map bodies (λ r. process_of r.now)) in
    let size = size_here p bs i b within is next (next + 1 + size_of p b) refl in
    let typed : IsProcess c.args.program.now.channels c.args.program.now.vars b =
    subst (IsProcess c.args.program.now.channels c.args.program.now.vars) (sym is) (c.requires.typed i b within) in
    let grown = counted_more c.loop-body.drivers.items c.add.new.drivers.items c.statement.new.drivers.items _ c.len-begun.result c.len.result (size_of p b)
    (c.in_ok-add.ensures ∙ ap (λ d. c.loop-body.drivers.items ++ d ∷ []) c.undriven.ensures) c.in_ok-answer.ensures.made
    (c.len-begun.ensures ∙ c.loop-body.drivers.ok.0) (c.len.ensures ∙ c.statement.new.drivers.ok.0)
    (c.statements_counted.ensures.statements p b next (next + 1) typed) in
    omega (arith, size, grown, c.loop-body.invariant.size, c.requires.own, c.requires.few)

pub overflow_add-next-in-loop-body : goal.overflow_add-next-in-loop-body
overflow_add-next-in-loop-body c =
    let p = program_of c.args.program.now in
    let bodies = c.args.bodies.now in
    let i = c.loop-body.body-index in
    let next = c.loop-body.next in
    let b = process_of c.body-item.result.now in
    let bs = map (λ r. process_of r.now) bodies in
    let is : b ≡ get_or bs i b = sym (get_or-map (λ r. process_of r.now) bodies i c.body-item.result b c.loop-body-test.true
    ∙ ap (λ r. process_of r.now) (sym c.body-item.is)) in
    let within : i < length bs = omega (arith, c.loop-body-test.true, length-map bodies (λ r. process_of r.now)) in
    let size = size_here p bs i b within is next (next + 1 + size_of p b) refl in
    let typed : IsProcess c.args.program.now.channels c.args.program.now.vars b =
    subst (IsProcess c.args.program.now.channels c.args.program.now.vars) (sym is) (c.requires.typed i b within) in
    let grown = counted_more c.loop-body.drivers.items c.add.new.drivers.items c.statement.new.drivers.items _ c.len-begun.result c.len.result (size_of p b)
    (c.in_ok-add.ensures ∙ ap (λ d. c.loop-body.drivers.items ++ d ∷ []) c.undriven.ensures) c.in_ok-answer.ensures.made
    (c.len-begun.ensures ∙ c.loop-body.drivers.ok.0) (c.len.ensures ∙ c.statement.new.drivers.ok.0)
    (c.statements_counted.ensures.statements p b next (next + 1) typed) in
    omega (arith, size, grown, c.loop-body.invariant.size, c.requires.own, c.requires.few)

pub loop-body-preserved : goal.loop-body-preserved
loop-body-preserved c =
    let p = program_of c.args.program.now in
    let bodies = c.args.bodies.now in
    let i = c.loop-body.body-index in
    let next = c.loop-body.next in
    let b = process_of c.body-item.result.now in
    let bs = map (λ r. process_of r.now) bodies in
    let is : b ≡ get_or bs i b = sym (get_or-map (λ r. process_of r.now) bodies i c.body-item.result b c.loop-body-test.true
    ∙ ap (λ r. process_of r.now) (sym c.body-item.is)) in
    let within : i < length bs = omega (arith, c.loop-body-test.true, length-map bodies (λ r. process_of r.now)) in
    let typed : IsProcess c.args.program.now.channels c.args.program.now.vars b =
    subst (IsProcess c.args.program.now.channels c.args.program.now.vars) (sym is) (c.requires.typed i b within) in
    let grown = counted_more c.loop-body.drivers.items c.add.new.drivers.items c.statement.new.drivers.items _ c.len-begun.result c.len.result (size_of p b)
    (c.in_ok-add.ensures ∙ ap (λ d. c.loop-body.drivers.items ++ d ∷ []) c.undriven.ensures) c.in_ok-answer.ensures.made
    (c.len-begun.ensures ∙ c.loop-body.drivers.ok.0) (c.len.ensures ∙ c.statement.new.drivers.ok.0)
    (c.statements_counted.ensures.statements p b next (next + 1) typed) in
    let step : next + (c.len.result - c.len-begun.result) ≡ next + 1 + size_of p b = omega (arith, grown) in
    record {
      made = rules_more p bs i b within is next _ step c.loop-body.drivers.items c.add.new.drivers.items c.statement.new.drivers.items _
          (c.in_ok-add.ensures ∙ ap (λ d. c.loop-body.drivers.items ++ d ∷ []) c.undriven.ensures) c.in_ok-answer.ensures.made
          c.loop-body.invariant.made;
      requests = requests_more p bs i b within is next _ step c.loop-body.requests.items c.push.new.self.items _ c.in_ok-push.ensures.items
          c.loop-body.invariant.requests;
      answers = answers_more p bs i b within is next _ step c.loop-body.answers.items c.push-in-loop-body.new.self.items _ _
          c.in_ok-answer.ensures.answer c.in_ok-push-2.ensures.items c.loop-body.invariant.answers;
      size = size_more p bs i b within is next _ step _ c.loop-body.invariant.size;
      contacts = placed_more p bs i b within is next _ step (every_contact p) c.loop-body.contacts.items _ _ c.in_ok-answer.ensures.contacts
          c.loop-body.invariant.contacts;
      first = raised_more p bs i b within is next _ step c.loop-body.first _ _ c.in_ok-answer.ensures.first c.loop-body.invariant.first;
      count = c.statement.ensures.count ∙ c.loop-body.invariant.count;
      low = omega (arith, c.loop-body.invariant.low);
    }
