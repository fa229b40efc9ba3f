use Rattle.std.proofs.Common.{◌++◌, ◌∷◌, [], ◌<◌, ◌≤◌, length, get_or, set, sym, ap, ◌∙◌, subst}
use Rattle.prs_file.specs.Indexes.{slot_in, IsIndexed}
use Rattle.prs_file.proofs.Names.{noted_in_slot, noted_with_others}
use Rattle.prs_file.proofs.index.note.Goals as goal

pub returns-in_ok-insert-clause-ok : goal.returns-in_ok-insert-clause-ok
returns-in_ok-insert-clause-ok c =
    let names = c.args.names.now in
    let slots = c.args.slots.now in
    let slot = c.slot_of-slot.ensures.value ∙ ap (slot_in (length slots)) c.bytes.ensures.bytes in
    noted_with_others names slots c.args.others.now c.insert.new.self c.in_ok-key.key c.args.name.now c.requires.indexed
    (c.in_ok-key.ensures.items ∙ c.bytes-then-slots-slot.ensures.bytes) c.requires.fresh
    (subst (λ k. get_or slots k 0 < length names) slot c.if-slots-slot.true) c.in_ok-insert.ensures.updates

pub returns-else-slots-slot-clause-ok : goal.returns-else-slots-slot-clause-ok
returns-else-slots-slot-clause-ok c =
    let names = c.args.names.now in
    let slots = c.args.slots.now in
    let slot = c.slot_of-slot.ensures.value ∙ ap (slot_in (length slots)) c.bytes.ensures.bytes in
    subst (λ k. IsIndexed (names ++ c.args.name.now ∷ []) (set slots k (length names)) c.args.others.now) (sym slot)
    (noted_in_slot names slots c.args.others.now c.args.name.now c.requires.indexed c.requires.fresh
    (subst (λ k. length names ≤ get_or slots k 0) slot c.if-slots-slot.false))
