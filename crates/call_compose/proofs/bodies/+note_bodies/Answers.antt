use Rattle.std.proofs.Common.{◌≡◌, rules, ◌∙◌}
use Rattle.std.specs.Slice.Iter.{iter_rest}
use Rattle.std.specs.Iterator.Adapters.{zip_first, zip_second}
use Rattle.std.proofs.lemmas.Slice.Zip.{either_empty_from_Zip}
use Rattle.std.proofs.lemmas.List.{length-map}
use Rattle.call_compose.proofs.Noting.{then_noted, beside_noted, select_noted, call_noted, unknown_noted}
use Rattle.call_compose.proofs.bodies.+note_bodies.Goals as goal

pub returns-in-None : goal.returns-in-None
returns-in-None t c =
    let first : iter_rest (zip_first c.into_iter-part-iterator.result) ≡ c.in-Then.parts.items = search rules in
    let second : iter_rest (zip_second c.into_iter-part-iterator.result) ≡ c.members.result.now = search rules in
    then_noted c.args.names.now c.args.plain.now c.in-Then.parts c.args.s.now _ _ _ _ _ _ _ c.in-Then.is first second c.members.ensures.turned
    c.loop-part.invariant (either_empty_from_Zip c.loop-part.part-iterator c.next.new.self _ c.in-None.is c.next.ensures.steps)

pub returns-in-None-2 : goal.returns-in-None-2
returns-in-None-2 t c =
    let first : iter_rest (zip_first c.into_iter-part-iterator-in-Beside.result) ≡ c.in-Beside.parts.items = search rules in
    let second : iter_rest (zip_second c.into_iter-part-iterator-in-Beside.result) ≡ c.members-in-Beside.result.now = search rules in
    beside_noted c.args.names.now c.args.plain.now c.in-Beside.parts c.args.s.now _ _ _ _ _ _ _ c.in-Beside.is first second c.members-in-Beside.ensures.abreast
    c.loop-part-2.invariant (either_empty_from_Zip c.loop-part-2.part-iterator
    c.next-in-loop-part-2.new.self _ c.in-None-2.is c.next-in-loop-part-2.ensures.steps)

pub returns-in-None-3 : goal.returns-in-None-3
returns-in-None-3 t c =
    let first : iter_rest (zip_first c.into_iter-arm-iterator.result) ≡ c.in-Select.arms.items = search rules in
    let second : iter_rest (zip_second c.into_iter-arm-iterator.result) ≡ c.choices.result.now = search rules in
    select_noted c.args.names.now c.args.plain.now c.in-Select.again c.in-Select.arms c.args.s.now _ _ _ _ _ _ _ c.in-Select.is first second
    c.choices.ensures.chosen c.loop-arm.invariant
    (either_empty_from_Zip c.loop-arm.arm-iterator c.next-in-loop-arm.new.self _ c.in-None-3.is c.next-in-loop-arm.ensures.steps)

pub returns-in-Some-find : goal.returns-in-Some-find
returns-in-Some-find t c =
    call_noted c.args.names.now c.args.plain.now c.in-Call.of c.args.s c.args.bodies.now c.in-Some-find.place c.in-Call.is c.in-Some-find.ensures.distinct
    c.in-Some-find.ensures.some

pub returns-in_default : goal.returns-in_default
returns-in_default t c =
    unknown_noted c.args.names.now c.args.plain.now c.in-Call.of c.args.s.now _ c.in-Call.is (length-map c.args.bodies.now _ ∙ c.requires)
    c.in_default.ensures.none
