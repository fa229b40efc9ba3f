-- Runs of rule files that `compile` wrote: by an order, by delays, on a bench, or written as a wave.
use Rattle.std.specs.Prelude.{◌≡◌, ℕ, true, List, Option, Some, None}
use Rattle.width_check.specs.Processes.{TypedProgram}
use Rattle.command_answers.specs.declared.answer.Ending.{Ending}
use Rattle.command_answers.specs.declared.status.Status.{Status}
use Rattle.command_answers.specs.Answers.{Given, Answer, status_with, writes}
use Rattle.command_words.specs.CommandWords.{Asked, simulates, times, benches, traces}
use Rattle.bench_commands.specs.HandedIn.{HandedIn}
use Rattle.command_steps.specs.References.{IsReferredTo}
use Rattle.chp_cli.specs.BenchedFiles.{IsFileBenched, benched_run}
use Rattle.chp_cli.specs.MadeRuns.{MadeRun}
use Rattle.chp_cli.specs.Settings.{Setting}
use Rattle.chp_cli.specs.Simulated.{HoldsCompiled, IsFileSimulated, simulated_run}
use Rattle.chp_cli.specs.TimedFiles.{IsFileTimed, timed_run}
use Rattle.chp_cli.specs.TracedFiles.{IsFileTraced, traced_run}

-- the name of the rule file of which the command makes a run, if it makes one
abbrev pub net_file : Option Asked → Option (List ℕ)
net_file (Some (simulates s)) = Some s.net
net_file (Some (times t)) = Some t.net
net_file (Some (benches b)) = Some b.net
net_file (Some (traces w)) = Some w.net
net_file _ = None

-- the command makes a run of the rule file that `compile` writes for the program, and the shelf's bytes are observable
pub record RunsCompiled (s : Setting) (p : TypedProgram) : Type 0 where
  pub tells : s.given.tells ≡ true
  pub file : List ℕ
  pub made : net_file s.asked ≡ Some file
  pub holds : HoldsCompiled s.given file p

-- it compares the run with this program, or with none, as `bench` and `waves` do
abbrev pub IsComparedWith : Option Asked → Given → TypedProgram → Type 0
IsComparedWith (Some (simulates s)) given p = IsReferredTo given s.against p
IsComparedWith (Some (times t)) given p = IsReferredTo given t.against p
IsComparedWith (Some (benches b)) given p = Unit {0}
IsComparedWith (Some (traces w)) given p = Unit {0}
IsComparedWith _ given p = ⊥

-- the command answers this of its files, which tells of this run
abbrev pub Reports : Option Asked → Given → HandedIn → Answer → MadeRun → Type 0
Reports (Some (simulates s)) given handed answer run =
    (f : IsFileSimulated s given handed.orders answer) × (simulated_run s f ≡ run)
Reports (Some (times t)) given handed answer run = (f : IsFileTimed t given answer) × (timed_run t f ≡ run)
Reports (Some (benches b)) given handed answer run = (f : IsFileBenched b given handed answer) × (benched_run b f ≡ run)
Reports (Some (traces w)) given handed answer run = (f : IsFileTraced w given answer) × (traced_run w f ≡ run)
Reports _ given handed answer run = ⊥

-- the text is the report or the wave of this run of the command's files, and the status says how it ended
pub record IsReportOf (s : Setting) (status : Status) (text : List ℕ) (run : MadeRun) : Type 0 where
  pub end : Ending
  pub ended : status ≡ status_with end
  pub reports : Reports s.asked s.given s.handed (writes end text) run
