use Rattle.std.proofs.Common.{◌≡◌, ◌∙◌, List, Some, sym, ap, subst}
use Rattle.std.specs.Prelude.{option_map}
use Rattle.delay_script.specs.TimedRuns.{TimedValue, IsTimedRan}
use Rattle.env_script.specs.Environment.{net_channels}
use Rattle.env_script.specs.Scripts.{IsScript, OfferValue}
use Rattle.prs_core.specs.Nets.{NetValue}
use Rattle.width_check.specs.Typed.{program_of as typed_of}
use Rattle.command_answers.specs.Replies.{told_answer}
use Rattle.run_reports.specs.RunReporting.{IsReported}
use Rattle.command_words.proofs.Results.{ok_in}
use Rattle.simulation_commands.proofs.timing.report_timed.Goals as goal

pub reported-requires : goal.reported-requires
reported-requires c =
    let ran = c.run-run.result.ran in
    let net : ran.net ≡ c.args.net = c.run-run.ensures.1.net ∙ ap (λ (t : TimedValue). t.net) c.in_ok-timed.ensures in
    subst (λ (script : List OfferValue). IsScript (net_channels ran.net) script) (sym c.in_ok-told.ensures)
    (subst (λ (n : NetValue). IsScript (net_channels n) c.args.script) (sym net) c.requires.script)

pub returns : goal.returns
returns c =
    let run = c.run-run.result in
    let program = option_map typed_of c.args.program.now in
    ok_in c.reported.result _ _
    (λ output is. record {
      moves = c.run-run.ensures.0;
      ran = run.ran;
      time = run.time;
      run = subst (λ (t : TimedValue). IsTimedRan t c.run-run.ensures.0 run.ran run.time) c.in_ok-timed.ensures c.run-run.ensures.1;
      written = subst (λ (script : List OfferValue). IsReported script (Some run.time) run.ran program (told_answer output)) c.in_ok-told.ensures is;
    }) c.reported.ensures
