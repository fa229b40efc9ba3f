use Rattle.std.proofs.Common.{◌≡◌, ◌==◌, false, length, get_or, Some, refl, sym, ap, ◌∙◌, arith}
use Rattle.prs_file.specs.Indexes.{place_in}
use Rattle.prs_file.specs.Tables.{known_fault_of}
use Rattle.prs_file.proofs.TurnFaults.{unknown_literal, known_is}
use Rattle.prs_file.proofs.Wirings.{place_found}
use Rattle.prs_file.proofs.turns.turn_of.Goals as goal

pub returns-in_default-2-clause-fault : goal.returns-in_default-2-clause-fault
returns-in_default-2-clause-fault c channels are =
    let form = c.args.form.now in
    unknown_literal c.args.nodes.now.index channels (c.args.nodes.now.version == 2) c.args.so_far.place c.args.so_far.literals form.leds.items form.node form.up
    (rw c.deref.ensures.value at (rw c.in_default-2.is at c.in_ok-guard.ensures.none))

pub bounds-driven-node : goal.bounds-driven-node
bounds-driven-node c =
    let names = c.args.nodes.now.index in
    let at : place_in names c.args.form.now.node ≡ Some c.in-Some.node = ap (place_in names) (sym c.bytes.ensures) ∙ sym c.find.ensures ∙ c.in-Some.is in
    omega (arith, (place_found names c.args.form.now.node c.in-Some.node at).0, c.requires.driven)

pub place_of-place-requires : goal.place_of-place-requires
place_of-place-requires c =
    let names = c.args.nodes.now.index in
    let at : place_in names c.args.form.now.node ≡ Some c.in-Some.node = ap (place_in names) (sym c.bytes.ensures) ∙ sym c.find.ensures ∙ c.in-Some.is in
    omega (arith, (place_found names c.args.form.now.node c.in-Some.node at).0, c.requires.count)

pub returns-in-Some-known_fault-clause-fault : goal.returns-in-Some-known_fault-clause-fault
returns-in-Some-known_fault-clause-fault c channels are =
    let names = c.args.nodes.now.index in
    let form = c.args.form.now in
    let so_far = c.args.so_far in
    let reset = c.args.nodes.now.version == 2 in
    let at : place_in names form.node ≡ Some c.in-Some.node = ap (place_in names) (sym c.bytes.ensures) ∙ sym c.find.ensures ∙ c.in-Some.is in
    let some = rw c.deref.ensures.value at (rw c.in-Some-2.is at c.in_ok-guard.ensures.some) in
    let b = get_or c.args.driven.now c.in-Some.node false in
    known_is names channels reset c.args.driven.now so_far.place so_far.literals form.leds.items form.node form.up c.in-Some.node b are at some refl
    ∙ ap (λ p. known_fault_of reset b so_far.place so_far.literals p (length form.leds.items)) (sym c.place_of-place.ensures)
    ∙ ap (λ n. known_fault_of reset b so_far.place so_far.literals c.place_of-place.result n) (sym (c.len.ensures ∙ form.leds.ok.0))
    ∙ sym c.known_fault.ensures ∙ c.in-Some-known_fault.is

pub returns-in-None-clause-sound : goal.returns-in-None-clause-sound
returns-in-None-clause-sound c channels are =
    let names = c.args.nodes.now.index in
    let form = c.args.form.now in
    let so_far = c.args.so_far in
    let reset = c.args.nodes.now.version == 2 in
    let at : place_in names form.node ≡ Some c.in-Some.node = ap (place_in names) (sym c.bytes.ensures) ∙ sym c.find.ensures ∙ c.in-Some.is in
    let some = rw c.deref.ensures.value at (rw c.in-Some-2.is at c.in_ok-guard.ensures.some) in
    let b = get_or c.args.driven.now c.in-Some.node false in
    known_is names channels reset c.args.driven.now so_far.place so_far.literals form.leds.items form.node form.up c.in-Some.node b are at some refl
    ∙ ap (λ p. known_fault_of reset b so_far.place so_far.literals p (length form.leds.items)) (sym c.place_of-place.ensures)
    ∙ ap (λ n. known_fault_of reset b so_far.place so_far.literals c.place_of-place.result n) (sym (c.len.ensures ∙ form.leds.ok.0))
    ∙ sym c.known_fault.ensures ∙ c.in-None.is
