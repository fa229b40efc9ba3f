-- What follows from what `simulate` answers with delays.
use Rattle.std.specs.Prelude.{◌≡◌, ℕ, false, List, Option, Some}
use Rattle.delay_script.specs.DelayTables.{DelayTable}
use Rattle.delay_script.specs.TimedRuns.{moved_nodes, timed_start}
use Rattle.env_script.specs.Environment.{net_channels}
use Rattle.env_script.specs.Scripts.{OfferValue}
use Rattle.prs_core.specs.Nets.{NetValue}
use Rattle.width_check.specs.Processes.{TypedProgram}
use Rattle.command_answers.specs.Answers.{Given, Answer}
use Rattle.command_steps.specs.References.{HoldsReference}
use Rattle.chp_cli.specs.MadeRuns.{MadeRun, made_run}
use Rattle.command_steps.specs.RunSteps.{IsScriptOf, lacks_reset}
use Rattle.command_steps.specs.Steps.{IsFileOf}
use Rattle.command_words.specs.SimulateWords.{AskedTiming}
use Rattle.command_steps.specs.DelaySteps.{AreDelaysOf}
use Rattle.simulation_commands.specs.Timing.{TimesNet, timing_for}

-- The files hold the rule file of a net, a script of its channels, delays of its nodes, and the program to compare
-- with, if one is wanted; and the timed run of this net under this script by these delays is reported.
pub record IsFileTimed (t : AskedTiming) (given : Given) (answer : Answer) : Type 0 where
  pub rules : List ℕ
  pub net : NetValue
  pub told : List ℕ
  pub script : List OfferValue
  pub said : List ℕ
  pub delays : DelayTable
  pub program : Option TypedProgram
  pub held : given.files t.net ≡ Some rules
  pub file : IsFileOf rules net
  pub powered : lacks_reset t.power net.reset ≡ false
  pub held_script : given.files t.script ≡ Some told
  pub told_is : IsScriptOf (net_channels net) told script
  pub held_delays : given.files t.delays ≡ Some said
  pub said_are : AreDelaysOf net.names said delays
  pub referred : HoldsReference given t.against program
  pub timed : TimesNet (timing_for t net script delays) program answer

-- the run that is reported
abbrev pub timed_run : (t : AskedTiming) → {given : Given} {answer : Answer} → IsFileTimed t given answer → MadeRun
timed_run t f =
    made_run f.net f.script (timed_start (timing_for t f.net f.script f.delays)) (moved_nodes f.timed.moves) t.steps
    f.timed.ran.end (Some (record { delays = f.delays; time = f.timed.time }))
