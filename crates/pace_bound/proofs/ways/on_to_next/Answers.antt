use Rattle.std.proofs.Common.{◌≡◌, ◌+◌, ◌≤◌, false, length, drop, refl, sym, ap, subst, ◌∙◌, arith}
use Rattle.std.proofs.lemmas.List.{length-drop, take_rest}
use Rattle.width_check.specs.Processes.{and_member}
use Rattle.width_check.specs.Typed.{program_of}
use Rattle.width_check.specs.Typing.{AreProcesses}
use Rattle.width_check.specs.View.{process_of, members_in}
use Rattle.handshake_expand.specs.Layout.{capped}
use Rattle.handshake_expand.proofs.Rows.{member_at}
use Rattle.round_time.specs.Longest.{low, turn_first}
use Rattle.round_time.specs.Ways.{step_of, to_next, first_step, last_step}
use Rattle.pace_bound.specs.Halving.{turn_first_by}
use Rattle.pace_bound.specs.Whereabouts.{IsLongestOf, onward_ways}
use Rattle.pace_bound.proofs.GroupSteps.{turn_first_more}
use Rattle.pace_bound.proofs.Whole.{turn_first_whole}
use Rattle.pace_bound.proofs.WaysJoined.{nothing, single, ends_at, none_onward, rest_typed}
use Rattle.pace_bound.proofs.ways.on_to_next.Goals as goal

pub turn_first-requires-clause-members : goal.turn_first-requires-clause-members
turn_first-requires-clause-members c =
    let parts = c.args.parts.now in
    subst (λ ss. AreProcesses c.args.program.now.channels c.args.program.now.vars (members_in ss)) (sym (take_rest parts (c.args.place + 1)))
    (rest_typed _ _ parts c.args.place c.requires.there c.requires.members)

pub returns-then-place-parts : goal.returns-then-place-parts
returns-then-place-parts c =
    let P = program_of c.args.program.now in
    let parts = c.args.parts.now in
    let i = c.args.place in
    let s = c.index-parts-place-then-place-parts.result in
    let q = c.index-parts-place.result in
    let p = process_of s in
    let more = members_in (drop (i + 1 + 1) parts) in
    let behind = member_at parts (i + 1) q c.if-place-parts.true c.index-parts-place.is in
    let from : members_in (drop i parts) ≡ and_member p (and_member (process_of q) more) =
    member_at parts i s c.requires.there c.index-parts-place-then-place-parts.is ∙ ap (and_member p) behind in
    let moves = turn_first P (and_member (process_of q) more) in
    let own : c.turn_first.result ≡ capped moves =
    c.turn_first.ensures
    ∙ (ap (λ ss. capped (turn_first_by false P (members_in ss))) (take_rest parts (i + 1))
    ∙ (ap (λ ms. capped (turn_first_by false P ms)) behind ∙ ap capped (turn_first_whole P (and_member (process_of q) more)))) in
    let least = turn_first_more P (process_of q) more in
    let way = ends_at (step_of (last_step P 2 p)) (step_of (process_of c.first_step.result.statement.now)) (step_of (first_step P (process_of q)))
    (low P 2 p + (1 + moves)) (low P 2 p + 1 + moves) c.from_last.result
    (c.from_last.ensures (1 + moves) (omega (arith, own, c.saturating_add-after.ensures))) (omega arith)
    (λ small. ap step_of (c.first_step.ensures.step refl (omega (arith, small, least)))) in
    subst (IsLongestOf c.args.best c.longer.result) (sym (ap (onward_ways P) from))
    (single c.args.best c.from_last.result c.longer.result (to_next P p (process_of q) more) c.longer.ensures way)

pub returns-else-place-parts : goal.returns-else-place-parts
returns-else-place-parts c =
    let parts = c.args.parts.now in
    let few : length (drop c.args.place parts) ≤ 1 = let l = length-drop c.args.place parts in omega arith in
    subst (IsLongestOf c.args.best c.args.best) (sym (none_onward (program_of c.args.program.now) (drop c.args.place parts) few)) (nothing c.args.best)
