use Rattle.std.proofs.Common.{◌≡◌, ◌∙◌, List, None, sym, ap, subst}
use Rattle.std.specs.Prelude.{option_map}
use Rattle.env_script.specs.Environment.{net_channels}
use Rattle.env_script.specs.Scripts.{IsScript, OfferValue}
use Rattle.event_sim.specs.Simulating.{RanValue}
use Rattle.prs_core.specs.Nets.{NetValue}
use Rattle.width_check.specs.Typed.{program_of as typed_of}
use Rattle.command_answers.specs.Replies.{told_answer}
use Rattle.run_reports.specs.RunReporting.{IsReported}
use Rattle.simulation_commands.proofs.Asking.{asked_as}
use Rattle.simulation_commands.proofs.Keeping.{still_at}
use Rattle.command_words.proofs.Results.{ok_in}
use Rattle.simulation_commands.proofs.simulate.report_at.Goals as goal

pub returns-in_err-told-clause-played : goal.returns-in_err-told-clause-played
returns-in_err-told-clause-played g c = still_at _ _

pub returns-in_err-sim-clause-played : goal.returns-in_err-sim-clause-played
returns-in_err-sim-clause-played g c = still_at _ _

pub reported-requires : goal.reported-requires
reported-requires g c =
    let net : c.in_ok-ran.ran.net ≡ c.args.net = ap (λ (r : RanValue). r.net) c.in_ok-ran.ensures.led.led ∙ ap (λ s. s.net) c.in_ok-sim.ensures in
    subst (λ (script : List OfferValue). IsScript (net_channels c.in_ok-ran.ran.net) script) (sym c.in_ok-told.ensures)
    (subst (λ (n : NetValue). IsScript (net_channels n) c.args.script) (sym net) c.requires.script)

pub returns-clause-answered : goal.returns-clause-answered
returns-clause-answered g c =
    let program = option_map typed_of c.args.program.now in
    ok_in c.reported.result _ _
    (λ output is. record {
      ran = c.in_ok-ran.ran;
      run = rw (← c.in_ok-sim.ensures) c.in_ok-ran.ensures.led;
      written = subst (λ (script : List OfferValue). IsReported script None c.in_ok-ran.ran program (told_answer output)) c.in_ok-told.ensures is;
    }) c.reported.ensures

pub returns-clause-asked : goal.returns-clause-asked
returns-clause-asked g c =
    ok_in c.reported.result _ _
    (λ output is. asked_as _ _ _ _ _ c.in_ok-sim.sim _ c.in_ok-sim.ensures c.in_ok-ran.ensures.asked) c.reported.ensures
