use Rattle.std.proofs.Common.{◌≡◌, ◌+◌, ◌-◌, false, length, take, drop, sym, ap, subst, ◌∙◌, arith}
use Rattle.std.proofs.lemmas.List.{length-drop, take_all}
use Rattle.width_check.specs.Processes.{in_turn}
use Rattle.width_check.specs.Typed.{program_of}
use Rattle.width_check.specs.Typing.{AreProcesses}
use Rattle.width_check.specs.View.{members_in}
use Rattle.handshake_expand.specs.Layout.{capped}
use Rattle.pace_bound.specs.Halving.{turn_first_by}
use Rattle.pace_bound.proofs.Members.{rest_typed, first_some}
use Rattle.pace_bound.proofs.Whole.{turn_first_whole}
use Rattle.pace_bound.proofs.context.member_down.Goals as goal

pub turn_first-requires-clause-members : goal.turn_first-requires-clause-members
turn_first-requires-clause-members c =
    let parts = c.args.parts.now in
    let i = c.args.place + 1 in
    let all : take (length parts - i) (drop i parts) ≡ drop i parts = take_all _ _ (let l = length-drop i parts in omega arith) in
    subst (λ ss. AreProcesses c.args.program.now.channels c.args.program.now.vars (members_in ss)) (sym all)
    (rest_typed c.args.program.now.channels c.args.program.now.vars parts c.args.place c.requires.members)

pub returns-then-place-parts-clause-other : goal.returns-then-place-parts-clause-other
returns-then-place-parts-clause-other c = λ n.
    let P = program_of c.args.program.now in
    let parts = c.args.parts.now in
    let i = c.args.place + 1 in
    let all : take (length parts - i) (drop i parts) ≡ drop i parts = take_all _ _ (let l = length-drop i parts in omega arith) in
    let some = first_some P (in_turn (members_in (drop i parts))) in
    let is = c.turn_first.ensures ∙ (ap (λ ss. capped (turn_first_by false P (members_in ss))) all
    ∙ ap capped (turn_first_whole P (members_in (drop i parts)))) in
    omega (arith, some, is)
