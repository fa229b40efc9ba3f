use Rattle.std.proofs.Common.{◌≡◌, ◌+◌, ◌-◌, ◌^◌, ◌<◌, true, refl, ap, ◌∙◌, arith}
use Rattle.width_check.specs.Processes.{choosing}
use Rattle.width_check.specs.Typed.{program_of}
use Rattle.width_check.specs.View.{process_of, choices_in}
use Rattle.handshake_expand.specs.Layout.{capped}
use Rattle.round_time.specs.Longest.{guards_depth, choice_low}
use Rattle.round_time.specs.Ways.{step_of, way, farthest, choice_last_step}
use Rattle.pace_bound.proofs.ways.to_turn.Goals as goal

pub returns : goal.returns
returns c =
    let P = program_of c.args.program.now in
    let cs = choices_in c.args.arms.now in
    let last = c.last_of_arms-last.ensures in
    let long : c.saturating_add-2.result ≡ capped (choice_low P 4 cs + 4 + guards_depth cs) =
    omega (arith, last.moves, c.requires.guards, c.saturating_add.ensures, c.saturating_add-2.ensures) in
    record {
      long = long;
      exact = λ small.
          let few : choice_low P 4 cs < 2 ^ 64 - 1 = omega (arith, small, long) in
          ap (λ p. way (step_of p) (step_of (process_of c.args.itself.now)) c.saturating_add-2.result) (last.step 4 (choosing true cs) refl few)
          ∙ (ap (λ p. way (step_of (farthest (choosing true cs) (choice_last_step P 4 cs))) (step_of p) c.saturating_add-2.result) c.requires.itself
          ∙ ap (way (step_of (farthest (choosing true cs) (choice_last_step P 4 cs))) (step_of (choosing true cs))) (omega (arith, small, long)));
    }
