-- What `waves` answers.
use Rattle.std.specs.Prelude.{◌≡◌, ℕ, Bool, true, false, List}
use Rattle.delay_script.specs.declared.noted.NotedMove.{NotedMove}
use Rattle.delay_script.specs.DelayTables.{DelayTable}
use Rattle.delay_script.specs.TimedRuns.{TimedValue, timed_value, IsTimedRan}
use Rattle.env_script.specs.Environment.{net_channels}
use Rattle.env_script.specs.Scripts.{OfferValue}
use Rattle.event_sim.specs.Following.{power_of}
use Rattle.event_sim.specs.Simulating.{RanValue}
use Rattle.prs_core.specs.Nets.{NetValue}
use Rattle.wave_file.specs.CauseChains.{TellsCauses, values_given}
use Rattle.wave_file.specs.RunWaves.{wave_of_run}
use Rattle.wave_file.specs.WaveReading.{IsWaveText}
use Rattle.command_answers.specs.Answers.{Given, Answer, writes}
use Rattle.run_reports.specs.RunReporting.{ending_for}
use Rattle.command_steps.specs.RunSteps.{FromScript, most_of_script}
use Rattle.command_steps.specs.Steps.{FromFile, FromNet, most_of_net}
use Rattle.command_words.specs.WavesWords.{AskedWaves}
use Rattle.command_steps.specs.DelaySteps.{FromDelayFile}

-- the text reports these moves of a net from power-up on: all of them as a wave, from which they are read back, or the
-- causes of the last one
abbrev pub IsTraceText : NetValue → (high : Bool) → DelayTable → List NotedMove → (causes : Bool) → (text : List ℕ) →
    Type 0
IsTraceText net high delays moves false text = IsWaveText text (wave_of_run net high moves)
IsTraceText net high delays moves true text =
    TellsCauses net.names delays (values_given (power_of net high) moves) moves text

-- the moves of the timed run are written, and the command ends as the run does
pub record TracesNet (t : TimedValue) (causes : Bool) (answer : Answer) : Type 0 where
  pub moves : List NotedMove
  pub ran : RanValue
  pub time : ℕ
  pub text : List ℕ
  pub run : IsTimedRan t moves ran time
  pub traced : IsTraceText t.net t.high t.delays moves causes text
  pub written : answer ≡ writes (ending_for ran.end) text

-- in a net with a reset node those that have rules are low at power-up
abbrev pub trace_for : AskedWaves → NetValue → List OfferValue → DelayTable → TimedValue
trace_for w net script delays = timed_value net script w.steps delays false

-- after the rule file come the script and the delays
abbrev pub TracesFile : AskedWaves → Given → NetValue → Answer → Type 0
TracesFile w given net =
    FromFile given w.script most_of_script (λ text. FromScript (net_channels net) text (λ script.
    FromDelayFile given w.delays net.names (λ delays. TracesNet (trace_for w net script delays) w.causes)))

abbrev pub Traces : AskedWaves → Given → Answer → Type 0
Traces w given = FromFile given w.net most_of_net (λ text. FromNet text (TracesFile w given))
