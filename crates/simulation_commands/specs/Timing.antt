-- What `simulate` answers where delays say when each move comes.
use Rattle.std.specs.Prelude.{ℕ, List, Option, Some}
use Rattle.delay_script.specs.declared.noted.NotedMove.{NotedMove}
use Rattle.delay_script.specs.DelayTables.{DelayTable}
use Rattle.delay_script.specs.TimedRuns.{TimedValue, timed_value, IsTimedRan}
use Rattle.env_script.specs.Environment.{net_channels}
use Rattle.env_script.specs.Scripts.{OfferValue}
use Rattle.event_sim.specs.Simulating.{RanValue}
use Rattle.prs_core.specs.Nets.{NetValue}
use Rattle.width_check.specs.Processes.{TypedProgram}
use Rattle.command_answers.specs.Answers.{Given, Answer}
use Rattle.command_steps.specs.References.{FromReference}
use Rattle.run_reports.specs.RunReporting.{IsReported}
use Rattle.command_steps.specs.RunSteps.{FromPower, FromScript, most_of_script}
use Rattle.simulation_commands.specs.Simulating.{power_or_low}
use Rattle.command_steps.specs.Steps.{FromFile, FromNet, most_of_net}
use Rattle.command_words.specs.SimulateWords.{AskedTiming}
use Rattle.command_steps.specs.DelaySteps.{most_of_delays, FromDelays}

-- ---- the run

-- the timed run is reported, with the time of its last move, and compared with the program, if there is one
pub record TimesNet (t : TimedValue) (program : Option TypedProgram) (answer : Answer) : Type 0 where
  pub moves : List NotedMove
  pub ran : RanValue
  pub time : ℕ
  pub run : IsTimedRan t moves ran time
  pub written : IsReported t.script (Some time) ran program answer

abbrev pub timing_for : AskedTiming → NetValue → List OfferValue → DelayTable → TimedValue
timing_for t net script delays = timed_value net script t.steps delays (power_or_low t.power)

-- the net may have the power that is asked for; then come the script, the delays, and what the run is compared with
abbrev pub TimesFile : AskedTiming → Given → NetValue → Answer → Type 0
TimesFile t given net =
    FromPower net t.power
    (FromFile given t.script most_of_script (λ text. FromScript (net_channels net) text (λ script.
    FromFile given t.delays most_of_delays (λ told. FromDelays net.names told (λ delays.
    FromReference given t.against (TimesNet (timing_for t net script delays)))))))

abbrev pub SimulatesTimed : AskedTiming → Given → Answer → Type 0
SimulatesTimed t given = FromFile given t.net most_of_net (λ text. FromNet text (TimesFile t given))
