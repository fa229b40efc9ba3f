-- That the circuit which `compile` writes keeps to what is printed.
use Rattle.std.specs.Prelude.{ℕ, ◌≤◌, List, Option, None}
use Rattle.chp_syntax.specs.Trees.{ProgramTree}
use Rattle.reset_net.specs.Resets.{reset_of}
use Rattle.width_check.specs.Form.{typed_form}
use Rattle.width_check.specs.Processes.{TypedProgram}
use Rattle.net_compose.specs.Time.{KeepsTime}
use Rattle.net_pace.specs.Pace.{KeepsTimeReset, TimedPace, TimedPaceReset}
use Rattle.net_pace.specs.Sums.{PassesRounds}
use Rattle.command_answers.specs.Answers.{Given}
use Rattle.command_steps.specs.Steps.{most_of_nodes}
use Rattle.program_commands.specs.Bodies.{Bodies, HasBodies, counted_with, net_with}
use Rattle.pace_command.specs.Pacing.{AskedPace, IsPaceOf, SummedIf, unscripted, scripted}

-- So many sweeps are enough for what a round of the program passes, and with delays of at most D as many times D; with
-- a reset node, from every power-up state, with two more at the beginning.
pub record KeepsBound {p : TypedProgram} (bodies : Bodies p) (bound : ℕ) : Type 0 where
  pub sweeps : KeepsTime (net_with bodies) p bound
  pub timed : TimedPace (net_with bodies) p bound
  pub reset : KeepsTimeReset (reset_of (net_with bodies)) p bound
  pub timed_reset : TimedPaceReset (reset_of (net_with bodies)) p bound

-- where a script is named, the sum is enough for what the rounds under it pass
abbrev pub KeepsSum : {given : Given} {program : ProgramTree} {p : TypedProgram} {file : Option (List ℕ)} → Bodies p →
    SummedIf given program p file → Type 0
KeepsSum bodies unscripted = Unit {0}
KeepsSum {p = p} bodies (scripted {script = script} holds of) =
    PassesRounds (net_with bodies) p script of.count of.sum

-- so with the net that is written for the program of a printed text, without a buffer, if it isn't too large
abbrev pub IsKept : {given : Given} {asked : AskedPace} {output : List ℕ} → IsPaceOf given asked output → Type 0
IsKept is = (bodies : Bodies (typed_form is.plain)) → HasBodies is.program None bodies →
    counted_with bodies ≤ most_of_nodes → KeepsBound bodies is.bound × KeepsSum bodies is.under
