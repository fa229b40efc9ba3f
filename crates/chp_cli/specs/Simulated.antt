-- What follows from what `simulate` answers, and what a file holds that `compile` wrote.
use Rattle.std.specs.Prelude.{◌≡◌, ◌⊎◌, ℕ, ◌≤◌, Bool, false, List, Option, Some, None}
use Rattle.env_script.specs.Environment.{net_channels}
use Rattle.env_script.specs.Scripts.{OfferValue}
use Rattle.event_sim.specs.Simulating.{RanValue, picked_moves, start_at}
use Rattle.net_compose.specs.Carries.{Carries, CarriesReset}
use Rattle.prs_core.specs.Nets.{NetValue, IsNet}
use Rattle.prs_file.specs.Spelling.{NetText}
use Rattle.chp_syntax.specs.Shape.{IsShaped}
use Rattle.chp_syntax.specs.Trees.{ProgramTree}
use Rattle.width_check.specs.Accepted.{IsAccepted}
use Rattle.width_check.specs.Form.{typed_form}
use Rattle.width_check.specs.Processes.{TypedProgram}
use Rattle.command_answers.specs.Answers.{Given, Answer}
use Rattle.program_commands.specs.Bodies.{Bodies, counted_with, net_for}
use Rattle.command_steps.specs.Orders.{Played, place_named}
use Rattle.chp_cli.specs.MadeRuns.{MadeRun, made_run}
use Rattle.command_steps.specs.References.{HoldsReference}
use Rattle.run_reports.specs.RunReporting.{IsReported}
use Rattle.command_steps.specs.RunSteps.{IsScriptOf, lacks_reset}
use Rattle.command_words.specs.SimulateWords.{AskedRun}
use Rattle.simulation_commands.specs.Simulating.{HasPlayed, simulation_for}
use Rattle.command_steps.specs.Steps.{IsFileOf, most_of_nodes}

-- The files hold the rule file of a net, a script of its channels, and the program to compare with, if one is wanted;
-- and the order of the wanted name led to a run of this net under this script, which is reported.
pub record IsFileSimulated (s : AskedRun) (given : Given) (played : Played) (answer : Answer) : Type 0 where
  pub rules : List ℕ
  pub net : NetValue
  pub told : List ℕ
  pub script : List OfferValue
  pub program : Option TypedProgram
  pub place : ℕ
  pub ran : RanValue
  pub held : given.files s.net ≡ Some rules
  pub file : IsFileOf rules net
  pub held_script : given.files s.script ≡ Some told
  pub told_is : IsScriptOf (net_channels net) told script
  pub powered : lacks_reset s.power net.reset ≡ false
  pub referred : HoldsReference given s.against program
  pub named : place_named played.before s.order ≡ Some place
  pub run : HasPlayed played place s.seed (simulation_for net script s.steps s.power) ran
  pub written : IsReported script None ran program answer

-- the file holds the rule file of a net that carries the program: from its first values, or with a reset node from
-- every power-up state
pub record HoldsCarrying (given : Given) (file : List ℕ) (p : TypedProgram) : Type 0 where
  pub rules : List ℕ
  pub net : NetValue
  pub held : given.files file ≡ Some rules
  pub kept : IsNet net
  pub spelled : NetText rules net
  pub carries : ((net.reset ≡ None) × Carries net p) ⊎ CarriesReset net p

-- The file holds the one text of a net of the program, in which bodies are copied or shared, with a reset node or
-- without. The program is the typed form of an accepted one that has the shape of the grammar, and the count of nodes
-- is within the limit. Each file that `compile` writes is such a one (the law `written_files_hold`); of a program with
-- calls so is that of the other net, which it doesn't write. So what is said of these files is more than is needed.
pub record HoldsCompiled (given : Given) (file : List ℕ) (p : TypedProgram) : Type 0 where
  pub reset : Bool
  pub text : List ℕ
  pub program : ProgramTree
  pub bodies : Bodies p
  pub held : given.files file ≡ Some text
  pub shaped : IsShaped program
  pub accepted : IsAccepted program
  pub form : p ≡ typed_form program
  pub few : counted_with bodies ≤ most_of_nodes
  pub spells : NetText text (net_for reset bodies)

-- the run that is reported
abbrev pub simulated_run : (s : AskedRun) → {given : Given} {played : Played} {answer : Answer} →
    IsFileSimulated s given played answer → MadeRun
simulated_run s f =
    let sim = simulation_for f.net f.script s.steps s.power in
    made_run f.net f.script (start_at sim) (picked_moves sim f.run.was.log f.run.is.log) s.steps f.ran.end None
