use Rattle.std.proofs.Common.{◌≤◌, ◌∙◌, length, replicate, None, [], vec_capacity, List, Bool, refl, sym, ap, subst, arith}
use Rattle.std.specs.Prelude.{Option}
use Rattle.event_sim.specs.Following.{power_of}
use Rattle.event_sim.specs.Stages.{StageValue, stage_with, moves_now}
use Rattle.delay_script.specs.declared.due.Due.{Due}
use Rattle.delay_script.specs.DelayTables.{DelayTable}
use Rattle.delay_script.specs.TimedRuns.{timed_value}
use Rattle.delay_script.specs.Dues.{IsTimedReady, AreFilled}
use Rattle.delay_script.proofs.OnTheWay.{ready}
use Rattle.delay_script.proofs.noted.Noted.begin.Goals as goal

pub invariant_of-result : goal.invariant_of-result
invariant_of-result c =
    let made = c.begin-course.result in
    let slots = vec_capacity made.moves in
    let net = c.args.net in
    let stage = c.in_ok-stage.stage in
    let filled : AreFilled stage c.args.delays (record { cause = 0; time = 0 }) (moves_now stage) (replicate (length net.first) None) made.queue =
    subst (λ (q : List (Option Due)). AreFilled stage c.args.delays (record { cause = 0; time = 0 }) (moves_now stage) q made.queue)
    c.in_ok-state.ensures.queue c.begin-course.ensures.queue in
    let stage_is = c.in_ok-stage.ensures
    ∙ ap (λ (values : List Bool). stage_with net c.args.script values [] c.args.steps) c.in_ok-state.ensures.state in
    let room : c.args.steps ≤ slots = omega (arith, c.begin-course.ensures.slots, c.in_ok-state.ensures.slots) in
    let begun = ready stage net c.args.script (power_of net c.args.high) c.args.delays c.args.high
    (replicate (length net.first) None) made.queue made.moves.items slots c.args.steps (length net.first) stage_is refl
    c.requires.delays refl refl filled (c.begin-course.ensures.moves ∙ c.in_ok-state.ensures.moves) room c.requires.steps in
    subst (λ (s : StageValue). IsTimedReady s made.delays made.queue made.moves.items slots c.args.steps c.args.high) (sym c.begin-course.ensures.stage)
    (subst (λ (d : DelayTable). IsTimedReady stage d made.queue made.moves.items slots c.args.steps c.args.high)
    (sym c.begin-course.ensures.delays) begun)

pub returns : goal.returns
returns c =
    let made = c.begin-course.result in
    ap (λ (s : StageValue). timed_value s.net s.script c.args.steps made.delays c.args.high) (c.begin-course.ensures.stage ∙ c.in_ok-stage.ensures)
    ∙ ap (λ (d : DelayTable). timed_value c.args.net c.args.script c.args.steps d c.args.high) c.begin-course.ensures.delays
