use Rattle.std.proofs.Common.{◌≡◌, ◌∙◌, ◌+◌, ◌-◌, ◌<◌, ◌≤◌, ℕ, List, [], ◌∷◌, ◌++◌, length, drop, map, All, refl, sym, ap, subst, arith}
use Rattle.std.specs.Prelude.{slice_set}
use Rattle.std.proofs.lemmas.List.{length-map, take_at}
use Rattle.prs_core.specs.Pairs.{or_of}
use Rattle.chp_syntax.specs.Trees.{Procedure}
use Rattle.chp_syntax.specs.View.{program_tree as tree_of}
use Rattle.width_check.specs.Processes.{Process, TypedProgram}
use Rattle.width_check.specs.Typed.{program_of}
use Rattle.width_check.specs.Typing.{IsProcess}
use Rattle.width_check.specs.View.{process_of}
use Rattle.handshake_expand.specs.Layout.{root_request}
use Rattle.net_compose.specs.Contacts.{every_contact}
use Rattle.net_compose.specs.Translation.{hidden_high}
use Rattle.net_compose.proofs.Raised.{with_raised}
use Rattle.call_map.specs.Calling.{called_answer, called_requests}
use Rattle.call_map.specs.CallNet.{inlined_program, procs_size, body_sites}
use Rattle.call_compose.specs.CalledForm.{called_form}
use Rattle.call_compose.specs.Inlined.{AreInlined}
use Rattle.call_compose.specs.Placing.{shared_of, answers_from, requests_from, unasked_rules, with_asked}
use Rattle.call_compose.specs.Walking.{requests_of}
use Rattle.call_compose.proofs.BodiesPlaced.{requests_within, unasked_count, answers_count}
use Rattle.call_compose.proofs.InnerDriven.{IsDrawn, IsListed, inner_long}
use Rattle.call_compose.proofs.SharedFacts.{same_program, bodies_typed, count_is, copied, room, each_counted, procs_count}
use Rattle.call_compose.proofs.SharedCircuits.{inner_drawn, inner_listed, inner_raised}
use Rattle.call_compose.proofs.circuit.inner_drivers.Goals as goal

pub place_bodies-requires-clause-typed : goal.place_bodies-requires-clause-typed
place_bodies-requires-clause-typed c =
    let P = tree_of c.args.program.now in
    let p = program_of c.args.typed.now in
    let bs = map (λ b. process_of b.now) c.args.bodies.now in
    let h = c.requires.inlined in
    subst (λ (qs : List Process). All (IsProcess p.channels p.vars) qs) (sym (c.requires.bodies h))
    (bodies_typed P p h c.calls_asked.ensures c.body-body.ensures.typed.body_is)

pub place_bodies-requires-clause-own : goal.place_bodies-requires-clause-own
place_bodies-requires-clause-own c =
    let P = tree_of c.args.program.now in
    let p = program_of c.args.typed.now in
    let bs = map (λ b. process_of b.now) c.args.bodies.now in
    let h = c.requires.inlined in
    omega (arith, count_is P p h, c.requires.own h, ap (procs_size p) (c.requires.bodies h), c.requires.from)

pub overflow_add-request : goal.overflow_add-request
overflow_add-request c =
    let P = tree_of c.args.program.now in
    let p = program_of c.args.typed.now in
    let bs = map (λ b. process_of b.now) c.args.bodies.now in
    let h = c.requires.inlined in
    let next = c.in_ok-placed.placed.next in
    let at : next ≡ root_request p + procs_size p (shared_of h).procs =
    omega (arith, c.in_ok-placed.ensures.next, ap (procs_size p) (c.requires.bodies h), c.requires.from) in
    omega (arith, at, count_is P p h, c.requires.own h, c.requires.few)

pub overflow_add-request-2 : goal.overflow_add-request-2
overflow_add-request-2 c =
    let P = tree_of c.args.program.now in
    let p = program_of c.args.typed.now in
    let bs = map (λ b. process_of b.now) c.args.bodies.now in
    let h = c.requires.inlined in
    let next = c.in_ok-placed.placed.next in
    let at : next ≡ root_request p + procs_size p (shared_of h).procs =
    omega (arith, c.in_ok-placed.ensures.next, ap (procs_size p) (c.requires.bodies h), c.requires.from) in
    omega (arith, at, count_is P p h, c.requires.own h, c.requires.few)

pub called_statement-requires-clause-numbers : goal.called_statement-requires-clause-numbers
called_statement-requires-clause-numbers c =
    let P = tree_of c.args.program.now in
    let p = program_of c.args.typed.now in
    let bs = map (λ b. process_of b.now) c.args.bodies.now in
    let h = c.requires.inlined in
    let listed : length c.args.names.now ≡ length (shared_of h).procs =
    omega (arith, procs_count P p h, length-map P.procs (λ (q : Procedure). q.name.name), ap length c.requires.names) in (
      omega (
        arith,
        ap length c.deref.ensures.value,
        ap length c.in_ok-placed.ensures.answers,
        answers_count p bs c.args.from,
        ap length (c.requires.bodies h),
        listed,
      ),
      omega (arith, listed, each_counted p (shared_of h).procs, count_is P p h, c.requires.own h, c.requires.few),
    )

pub called_statement-requires-clause-room : goal.called_statement-requires-clause-room
called_statement-requires-clause-room c =
    let P = tree_of c.args.program.now in
    let p = program_of c.args.typed.now in
    let bs = map (λ b. process_of b.now) c.args.bodies.now in
    let h = c.requires.inlined in
    let next = c.in_ok-placed.placed.next in
    let at : next ≡ root_request p + procs_size p (shared_of h).procs =
    omega (arith, c.in_ok-placed.ensures.next, ap (procs_size p) (c.requires.bodies h), c.requires.from) in
    room P p h c.args.names.now c.requires.names (process_of c.body-body.result.now) (ap process_of c.body-body.ensures.body) next
    (length c.place_bodies.new.first) at (c.requires.own h ∙ sym c.place_bodies.ensures.count) (omega
    (arith, c.place_bodies.ensures.count, c.requires.few)) c.requires.copies

pub ask_bodies-requires : goal.ask_bodies-requires
ask_bodies-requires c =
    let P = tree_of c.args.program.now in
    let p = program_of c.args.typed.now in
    let bs = map (λ b. process_of b.now) c.args.bodies.now in
    let h = c.requires.inlined in
    let typed : All (IsProcess p.channels p.vars) bs = subst (λ (qs : List Process). All (IsProcess p.channels p.vars) qs) (sym (c.requires.bodies h))
    (bodies_typed P p h c.calls_asked.ensures c.body-body.ensures.typed.body_is) in
    let added = c.in_ok-answer.ensures.added (copied P p h c.args.names.now c.requires.names (process_of c.body-body.result.now)
    (ap process_of c.body-body.ensures.body)) in
    let long = inner_long c.place_bodies.new.drivers.items c.add.new.drivers.items c.add-2.new.drivers.items c.called_statement.new.drivers.items _ _ _
    c.in_ok-add.ensures c.in_ok-add-2.ensures added.made in
    let count = length c.deref_mut.result.now in
    let own = unasked_count p (c.statements_counted.ensures.statements p) bs c.args.from typed in
    let made : c.place_bodies.new.drivers.items ≡ unasked_rules p bs c.args.from =
    c.in_ok-placed.ensures.made ∙ ap (λ l. l ++ unasked_rules p bs c.args.from) c.requires.none.1 in
    subst (λ (l : List ℕ). All (λ r. (c.args.from ≤ r) × (r - c.args.from < count)) l) (sym (c.deref-3.ensures.value ∙ c.in_ok-placed.ensures.requests))
    (requests_within p c.args.from bs c.args.from count (omega arith) (omega
    (arith, own, ap length made, long, ap length c.deref_mut.ensures.value)))

pub index_mut-requires : goal.index_mut-requires
index_mut-requires c =
    let P = tree_of c.args.program.now in
    let p = program_of c.args.typed.now in
    let bs = map (λ b. process_of b.now) c.args.bodies.now in
    let h = c.requires.inlined in
    let added = c.in_ok-answer.ensures.added (copied P p h c.args.names.now c.requires.names (process_of c.body-body.result.now)
    (ap process_of c.body-body.ensures.body)) in
    let long = inner_long c.place_bodies.new.drivers.items c.add.new.drivers.items c.add-2.new.drivers.items c.called_statement.new.drivers.items _ _ _
    c.in_ok-add.ensures c.in_ok-add-2.ensures added.made in
    omega (arith, c.len-latch.ensures, c.place_bodies.new.drivers.ok.0, long, c.called_statement.new.drivers.ok.0)

pub returns : goal.returns
returns c =
    let P = tree_of c.args.program.now in
    let p = program_of c.args.typed.now in
    let bs = map (λ b. process_of b.now) c.args.bodies.now in
    let next = c.in_ok-placed.placed.next in
    let answers = c.deref.result.now in
    let requests = c.deref-3.result.now in
    let calls = c.deref-2.result.now in
    let after = c.called_statement.new.drivers.items in
    let ask = λ (q : ℕ). or_of (requests_of q calls) in
    let x = λ (h : AreInlined P p). called_form (P.decls ++ h.inlined.vars) c.args.names.now P.body in
    let body = λ (h : AreInlined P p).
    let e : x h ≡ (shared_of h).body = ap (λ ns. called_form (P.decls ++ h.inlined.vars) ns P.body) c.requires.names in e in
    let at = λ (h : AreInlined P p). let e : next ≡ root_request p + procs_size p (shared_of h).procs =
    omega (arith, c.in_ok-placed.ensures.next, ap (procs_size p) (c.requires.bodies h), c.requires.from) in e in
    let added = λ (h : AreInlined P p). c.in_ok-answer.ensures.added (copied P p h c.args.names.now c.requires.names
    (process_of c.body-body.result.now) (ap process_of c.body-body.ensures.body)) in
    let drawn = λ (h : AreInlined P p). let procs = (shared_of h).procs in
    let same = c.requires.bodies h in
    let d : IsDrawn p procs (x h) next c.in_ok-answer.answer answers requests calls c.place_bodies.new.drivers.items c.add-2.new.drivers.items after
    c.ask_bodies.new.drivers = record {
      typed = bodies_typed P p h c.calls_asked.ensures c.body-body.ensures.typed.body_is;
      answers_are = c.deref.ensures.value ∙ (c.in_ok-placed.ensures.answers ∙ (ap (λ qs. answers_from p qs c.args.from) same
          ∙ ap (answers_from p procs) c.requires.from));
      requests_are = c.deref-3.ensures.value ∙ (c.in_ok-placed.ensures.requests ∙ (ap (λ qs. requests_from p qs c.args.from) same
          ∙ ap (requests_from p procs) c.requires.from));
      root_is = at h;
      answered = (added h).answered;
      asking = λ q. ap (requests_of q) c.deref-2.ensures.value
          ∙ ((added h).calls q ∙ ap (λ l. requests_of q l ++ called_requests procs p q (x h) next (next + 2)) c.new-calls.ensures.items);
      bodies = c.in_ok-placed.ensures.made ∙ (ap (λ l. l ++ unasked_rules p bs c.args.from) c.requires.none.1
          ∙ (ap (λ qs. unasked_rules p qs c.args.from) same ∙ ap (unasked_rules p procs) c.requires.from));
      behind = (added h).made;
      set = c.in_ok-ask_bodies.ensures.asked ∙ (ap (with_asked ask c.args.from 0 requests) c.deref_mut.ensures.value
          ∙ ap (λ n. with_asked ask n 0 requests after) c.requires.from);
    } in d in
    let listed = λ (h : AreInlined P p). let procs = (shared_of h).procs in
    let same = c.requires.bodies h in
    let l : IsListed p procs (x h) next c.place_bodies.new.contacts.items c.called_statement.new.contacts.items c.args.first.now c.place_bodies.new.first
    c.called_statement.new.first = record {
      root_is = at h;
      bodies = c.in_ok-placed.ensures.contacts ∙ (ap (λ l. l ++ body_sites p (every_contact p) bs c.args.from) c.requires.none.0
          ∙ (ap (λ qs. body_sites p (every_contact p) qs c.args.from) same ∙ ap (body_sites p (every_contact p) procs) c.requires.from));
      body = (added h).contacts;
      low = c.in_ok-placed.ensures.first ∙ (ap (λ qs. with_raised c.args.first.now (body_sites p (hidden_high p) qs c.args.from)) same
          ∙ ap (λ n. with_raised c.args.first.now (body_sites p (hidden_high p) procs n)) c.requires.from);
      high = (added h).first;
    } in l in
    let over = take_at c.ask_bodies.new.drivers (drop (length c.ask_bodies.new.drivers) after) c.called_statement.new.drivers.len (omega
    (arith, c.ask_bodies.ensures.count, ap length c.deref_mut.ensures.value, c.called_statement.new.drivers.ok.0)) in
    record {
      made = λ h. inner_drawn P p h (shared_of h).procs (x h) refl (body h) c.calls_asked.ensures c.statements_counted.ensures.statements next
          c.in_ok-answer.answer (c.len-latch.result + 1) answers requests calls c.place_bodies.new.drivers.items c.add.new.drivers.items
          c.add-2.new.drivers.items after c.ask_bodies.new.drivers _ (drawn h)
          (c.in_ok-add.ensures ∙ ap (λ d. c.place_bodies.new.drivers.items ++ d ∷ []) c.child.ensures)
          (c.in_ok-add-2.ensures ∙ ap (λ d. c.add.new.drivers.items ++ d ∷ []) c.undriven.ensures)
          (ap (λ n. n + 1) (c.len-latch.ensures ∙ c.place_bodies.new.drivers.ok.0))
          (ap (λ l. slice_set l (c.len-latch.result + 1) c.latch.result) over
          ∙ ap (λ d. slice_set c.ask_bodies.new.drivers (c.len-latch.result + 1) d) c.latch.ensures);
      root = λ h. at h ∙ ap (λ (q : TypedProgram). root_request q + procs_size q (shared_of h).procs) (same_program P p h);
      answer = λ h. let C = shared_of h in
          (added h).answered ∙ (ap (λ y. called_answer C.procs p y (next + 2)) (body h)
          ∙ (ap (λ (q : TypedProgram). called_answer C.procs q C.body (next + 2)) (same_program P p h)
          ∙ ap (λ n. called_answer C.procs (inlined_program C) C.body (n + 2))
          (at h ∙ ap (λ (q : TypedProgram). root_request q + procs_size q C.procs) (same_program P p h))));
      contacts = λ h. inner_listed P p h (shared_of h).procs (x h) refl (body h) next _ _ _ _ _ (listed h);
      first = λ h. inner_raised P p h (shared_of h).procs (x h) refl (body h) next _ _ _ _ _ (listed h);
      count = c.called_statement.ensures.count ∙ c.place_bodies.ensures.count;
    }
