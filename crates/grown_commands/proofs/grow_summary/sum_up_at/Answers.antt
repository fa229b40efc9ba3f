use Rattle.std.proofs.Common.{◌≡◌, ◌∙◌, List, None, arith, ap}
use Rattle.env_script.specs.Scripts.{OfferValue}
use Rattle.prs_core.specs.Nets.{NetValue}
use Rattle.net_compose.specs.Translation.{translation}
use Rattle.width_check.specs.Typed.{program_of as typed_of}
use Rattle.command_answers.specs.declared.answer.Ending.TheVariants.{Done}
use Rattle.command_answers.specs.Answers.{writes}
use Rattle.simulation_commands.proofs.Asking.{asked_as}
use Rattle.simulation_commands.specs.Simulating.{simulation_for}
use Rattle.grown_commands.specs.Summing.{most_of_summed_moves}
use Rattle.simulation_commands.proofs.Keeping.{still_at}
use Rattle.command_steps.proofs.Stopping.{passed_on}
use Rattle.grown_commands.proofs.Summed.{script_of_net}
use Rattle.grown_commands.proofs.grow_summary.sum_up_at.Goals as goal

pub returns-in_err-program-clause-stopped : goal.returns-in_err-program-clause-stopped
returns-in_err-program-clause-stopped g c = passed_on c.from_residual.result _ _ c.from_residual.ensures.1 c.in_err-program.ensures.stopped

pub returns-in_err-program-clause-played : goal.returns-in_err-program-clause-played
returns-in_err-program-clause-played g c = still_at _ _

pub grown_net-requires : goal.grown_net-requires
grown_net-requires g c = omega (arith, c.in_ok-program.ensures.few, c.requires.growth.most)

pub returns-in_err-net-clause-stopped : goal.returns-in_err-net-clause-stopped
returns-in_err-net-clause-stopped g c = passed_on c.from_residual-in_err-net.result _ _ c.from_residual-in_err-net.ensures.1 c.in_err-net.ensures.stopped

pub returns-in_err-net-clause-played : goal.returns-in_err-net-clause-played
returns-in_err-net-clause-played g c = still_at _ _

pub returns-in-Err-clause-played : goal.returns-in-Err-clause-played
returns-in-Err-clause-played g c = still_at _ _

pub run_summed-requires-clause-script : goal.run_summed-requires-clause-script
run_summed-requires-clause-script g c =
    let growth = c.args.growth.now in
    rw (c.in_ok-net.ensures.net, c.in-Ok.ensures)
    (script_of_net growth.seed growth.stages (typed_of c.in_ok-program.program) _ c.in_ok-net.ensures.carries c.in_ok-program.ensures.wired)

pub returns-in-Ok-summary_text-clause-answered : goal.returns-in-Ok-summary_text-clause-answered
returns-in-Ok-summary_text-clause-answered g c =
    let p = typed_of c.in_ok-program.program in
    let net_is : c.in_ok-net.net ≡ translation p = c.in_ok-net.ensures.net in
    record {
      program = p;
      read = c.in_ok-program.ensures.read;
      ran = c.in-Ok-run_summed.ran;
      run = rw (net_is, c.in-Ok.ensures) at c.in-Ok-run_summed.ensures.led;
      written = ap (λ text. writes Done text) c.in-Ok-summary_text.ensures;
    }

pub returns-in-Ok-summary_text-clause-asked : goal.returns-in-Ok-summary_text-clause-asked
returns-in-Ok-summary_text-clause-asked g c =
    let p = typed_of c.in_ok-program.program in
    record {
      program = p;
      read = c.in_ok-program.ensures.read;
      asked = asked_as _ _ _ _ _ (simulation_for c.in_ok-net.net c.in-Ok.script most_of_summed_moves None) _
          (ap (λ (net : NetValue). simulation_for net c.in-Ok.script most_of_summed_moves None) c.in_ok-net.ensures.net
          ∙ ap (λ (script : List OfferValue). simulation_for (translation p) script most_of_summed_moves None) c.in-Ok.ensures)
          c.in-Ok-run_summed.ensures.asked;
    }
