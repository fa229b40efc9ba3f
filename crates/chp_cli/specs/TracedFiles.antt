-- What follows from what `waves` answers.
use Rattle.std.specs.Prelude.{◌≡◌, ℕ, List, Some}
use Rattle.delay_script.specs.DelayTables.{DelayTable}
use Rattle.delay_script.specs.TimedRuns.{moved_nodes, timed_start}
use Rattle.env_script.specs.Environment.{net_channels}
use Rattle.env_script.specs.Scripts.{OfferValue}
use Rattle.prs_core.specs.Nets.{NetValue}
use Rattle.command_answers.specs.Answers.{Given, Answer}
use Rattle.chp_cli.specs.MadeRuns.{MadeRun, made_run}
use Rattle.command_steps.specs.RunSteps.{IsScriptOf}
use Rattle.command_steps.specs.Steps.{IsFileOf}
use Rattle.command_words.specs.WavesWords.{AskedWaves}
use Rattle.command_steps.specs.DelaySteps.{HoldsDelayFile}
use Rattle.simulation_commands.specs.Tracing.{TracesNet, trace_for}

-- The files hold the rule file of a net, a script of its channels, and delays of its nodes, if such a file is named;
-- and the moves of the timed run of this net under this script by these delays are written.
pub record IsFileTraced (w : AskedWaves) (given : Given) (answer : Answer) : Type 0 where
  pub rules : List ℕ
  pub net : NetValue
  pub told : List ℕ
  pub script : List OfferValue
  pub delays : DelayTable
  pub held : given.files w.net ≡ Some rules
  pub file : IsFileOf rules net
  pub held_script : given.files w.script ≡ Some told
  pub told_is : IsScriptOf (net_channels net) told script
  pub said_are : HoldsDelayFile given w.delays net.names delays
  pub traced : TracesNet (trace_for w net script delays) w.causes answer

-- the run that is written
abbrev pub traced_run : (w : AskedWaves) → {given : Given} {answer : Answer} → IsFileTraced w given answer → MadeRun
traced_run w f =
    made_run f.net f.script (timed_start (trace_for w f.net f.script f.delays)) (moved_nodes f.traced.moves) w.steps
    f.traced.ran.end (Some (record { delays = f.delays; time = f.traced.time }))
