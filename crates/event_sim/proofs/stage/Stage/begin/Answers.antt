use Rattle.std.proofs.Common.{◌≡◌, ◌<◌, ◌-◌, ◌∙◌, vec_capacity, sym, ap, subst, length, ℕ, List, [], map, replicate}
use Rattle.std.proofs.lemmas.List.Elements.{All-nil}
use Rattle.prs_core.specs.declared.wires.Wires.{Wires}
use Rattle.prs_core.specs.Nets.{NetValue}
use Rattle.prs_core.specs.Moves.{high, both_ways}
use Rattle.env_script.specs.Hazards.{least_below}
use Rattle.env_script.specs.Runs.{RunState}
use Rattle.event_sim.specs.Passing.{channel_histories}
use Rattle.event_sim.specs.Stages.{stage_with, IsKeptBeside}
use Rattle.event_sim.proofs.Histories.{no_counts_are}
use Rattle.event_sim.proofs.Staged.{passing_same}
use Rattle.event_sim.proofs.stage.Stage.begin.Goals as goal

pub invariant_of-result : goal.invariant_of-result
invariant_of-result c =
    let x = c.args.indexed in
    let done = c.in_ok-done.done.items in
    let counted : done ≡ map (λ (h : List ℕ). length h) (channel_histories (length x.net.channels) []) =
    no_counts_are (length x.net.channels) done (c.in_ok-done.ensures.done
    ∙ ap (λ (ws : List Wires). replicate (length ws) 0) (c.channels-channels.ensures.channels ∙ ap (λ (n : NetValue). n.channels) c.net-2.ensures.net)) in
    let st : RunState = record { values = c.args.state; histories = channel_histories (length x.net.channels) [] } in
    let passing = passing_same x.net x.script st c.deref.result.now c.add_reset.new.moves (c.deref.ensures.value ∙ counted)
    (c.add_reset.ensures c.deref.result.now c.list_ready.ensures) in
    let room = vec_capacity c.in_ok-done.passed - length c.in_ok-done.passed.items in
    subst (λ (passed : List (ℕ × ℕ)). IsKeptBeside (stage_with x.net x.script c.args.state passed room) done c.args.rows c.add_reset.new.moves
    c.first_pulled-pulled.result)
    (sym c.in_ok-done.ensures.passed) (record {
      net = c.net.ensures.is_net;
      script = c.requires.script;
      values = c.requires.state;
      counts_are = counted;
      passed = All-nil (λ (p : ℕ × ℕ). p.0 < length x.net.channels);
      rows_are = c.requires.rows;
      moves_are = passing;
      pulled_is = c.first_pulled-pulled.ensures
          ∙ ap (λ (n : NetValue). least_below (length n.first) (both_ways n (high c.args.state))) c.net-3.ensures.net;
    })
