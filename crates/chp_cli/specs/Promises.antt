-- What is promised of a call of `chp_main`: each field is a promise.
use Rattle.std.specs.Prelude.{◌≡◌, ◌≢◌, ◌⊎◌, ℕ, true, false, List, [], Option, None, Some}
use Rattle.width_check.specs.Processes.{TypedProgram}
use Rattle.command_answers.specs.declared.status.Status.{Status}
use Rattle.command_answers.specs.declared.status.Status.TheVariants as status
use Rattle.command_answers.specs.Answers.{Answer, Given, status_of}
use Rattle.bench_commands.specs.HandedIn.{HandedIn}
use Rattle.command_answers.specs.Saying.{IsSaid}
use Rattle.command_answers.specs.Statuses.{has_output, is_whole}
use Rattle.command_words.specs.CommandWords.{Asked, compiles}
use Rattle.command_words.specs.CompileWords.{AskedCompilation}
use Rattle.program_commands.specs.Compiling.{IsFaithfulFile}
use Rattle.simulation_commands.specs.Simulating.{StaysUnasked}
use Rattle.chp_cli.specs.Commands.{EndsServed, IsToServe}
use Rattle.chp_cli.specs.CompiledRuns.{IsComparedWith, IsReportOf, RunsCompiled}
use Rattle.chp_cli.specs.Ends.{AnswersTo, Ends, IsFile}
use Rattle.chp_cli.specs.Handed.{Fails, FailsToRead, IsAppended, KeepsShelf, KeepsSink, NothingFails, Objects, ShelfUse, SinkUse, StaysBut, faults_put, faults_read, given_of, handed_of}
use Rattle.chp_cli.specs.MadeRuns.{EndsAllAtRest, FollowsRounds, MadeRun}
use Rattle.chp_cli.specs.Resting.{KeepsPaceWith}
use Rattle.chp_cli.specs.ServedRuns.{IsCompiledToServe}
use Rattle.chp_cli.specs.Settings.{Setting}
use Rattle.chp_cli.specs.Shown.{ShowsEnabled}

-- A call: the command that its words ask for, if they are one's form; the shelf, the output and where the line is said,
-- and the orders and the devices that are handed in, each before it and after it; and the status that it returned.
pub record Call (S K W : Type 0) {B : Type 0} (Order : B → Type 0) {D : Type 0} (Device : D → Type 0) : Type 1 where
  pub asked : Option Asked
  pub shelf : ShelfUse S
  pub out : SinkUse K
  pub say : SinkUse W
  pub objects : Objects Order Device
  pub status : Status

abbrev pub given : {S K W B D : Type 0} {Order : B → Type 0} {Device : D → Type 0} → Call S K W Order Device → Given
given call = given_of call.shelf

abbrev pub handed : {S K W B D : Type 0} {Order : B → Type 0} {Device : D → Type 0} → Call S K W Order Device →
    HandedIn
handed call = handed_of call.objects

abbrev pub setting : {S K W B D : Type 0} {Order : B → Type 0} {Device : D → Type 0} → Call S K W Order Device →
    Setting
setting call = record {
  asked = call.asked;
  given = given call;
  handed = handed call;
  read = faults_read call.shelf;
  put = faults_put call.out;
}

-- It is so, or the status is that of want of memory, for which no cause is asked: it may come at any point.
abbrev pub OrNoMemory : Status → Type 0 → Type 0
OrNoMemory ended Is = Is ⊎ (ended ≡ status.NoMemory)

-- The command makes a run of a rule file that `compile` writes for the program, and this text is the report of this
-- run; that it was appended to the output is said apart.
pub record Reported {S K W B D : Type 0} {Order : B → Type 0} {Device : D → Type 0}
    (call : Call S K W Order Device) (p : TypedProgram) (text : List ℕ) (run : MadeRun) : Type 0 where
  pub runs : RunsCompiled (setting call) p
  pub report : IsReportOf (setting call) call.status text run

pub record Promises {S K W B D : Type 0} {Order : B → Type 0} {Device : D → Type 0} (call : Call S K W Order Device) :
    Type 0 where
  -- it ends in a way of `Ends`, which says what is appended to the output and which line is said; of the line a prefix
  -- is said, and all of it where no fault came. (What a sink took is said where its bytes are observable.)
  pub ended : (appended : List ℕ) × (line : List ℕ) × Ends (setting call) call.status appended line
      × IsAppended call.out appended × IsSaid call.say.members call.say.before call.say.after line
  -- Let the shelf be observable, and let neither it nor the output fail: its status is that of the command's answer to
  -- the files, with the orders and devices as they were and as they are now, if there is one; or it is `NoMemory`;
  pub complete : (answer : Answer) → NothingFails call.shelf call.out → AnswersTo (setting call) answer →
      OrNoMemory call.status (call.status ≡ status_of answer)
  -- where the command is given what it is to be served with, it doesn't refuse, but for that;
  pub served : (command : Asked) → NothingFails call.shelf call.out → call.asked ≡ Some command →
      IsToServe command (given call) (handed call) → OrNoMemory call.status (EndsServed command call.status)
  -- and where it is given what a run of a file that `compile` wrote is to be served with, it ends well, but for that,
  -- if it is to compare that run with the file's program or with none
  pub compiled : (p : TypedProgram) → NothingFails call.shelf call.out → IsCompiledToServe (setting call) p →
      IsComparedWith call.asked (given call) p → OrNoMemory call.status (call.status ≡ status.Done)
  -- with these statuses the words are no form of a command; a file of the command isn't there or the shelf failed; the
  -- output failed
  pub usage : call.status ≡ status.Usage → call.asked ≡ None
  pub read : call.status ≡ status.Read → (name : List ℕ) × IsFile call.asked name × FailsToRead call.shelf name
  pub write : call.status ≡ status.Write → Fails call.out
  -- nothing is appended but where all is written or the output failed
  pub silent : is_whole call.status ≡ false → call.status ≢ status.Write → IsAppended call.out []
  -- all orders and devices are there, and none was used but the ones that are asked for; and these weren't, where the
  -- words are no form, a file can't be read or it refuses
  pub stay : StaysBut call.asked call.objects
  pub unasked : StaysUnasked call.status call.objects.before call.objects.after
  -- where there was an output, also one that failed, the order that was asked for got its seed, and before each move of
  -- the run the list of all enabled moves
  pub shown : (command : Asked) → call.asked ≡ Some command → has_output call.status ≡ true →
      ShowsEnabled command (given call) call.objects
  -- what `compile` wrote is the rule file of a net that carries the program of its file, with the buffer if one is
  -- asked for, and keeps pace with it (the file's where the shelf is observable, else that of some text)
  pub carried : (c : AskedCompilation) → call.asked ≡ Some (compiles c) → call.status ≡ status.Done →
      (file : List ℕ) × IsAppended call.out file × IsFaithfulFile c (given call) file
  -- of a run of a file that holds the net of a program, as each does that `compile` wrote: it finds no hazard;
  -- compared with that program or with none it doesn't differ; and what is written whole is the report of a run
  pub calm : (p : TypedProgram) → RunsCompiled (setting call) p → call.status ≢ status.Hazard
  pub agreed : (p : TypedProgram) → RunsCompiled (setting call) p → IsComparedWith call.asked (given call) p →
      call.status ≢ status.Differs
  pub reported : (p : TypedProgram) → RunsCompiled (setting call) p → is_whole call.status ≡ true →
      (text : List ℕ) × (run : MadeRun) × IsAppended call.out text × Reported call p text run
  -- of each run of which a text is the report: from its start, under its script, no order makes it longer where it
  -- ended at rest; it passes a prefix of what its program passes, and at rest all; and it comes to rest where that
  -- does, if its limit is high enough, and keeps up with it by time
  pub longest : (p : TypedProgram) (text : List ℕ) (run : MadeRun) → Reported call p text run → EndsAllAtRest run
  pub follows : (p : TypedProgram) (text : List ℕ) (run : MadeRun) → Reported call p text run → FollowsRounds p run
  pub keeps_pace : (p : TypedProgram) (text : List ℕ) (run : MadeRun) (is : Reported call p text run) →
      KeepsPaceWith is.runs.holds.reset is.runs.holds.bodies run
  -- the shelf holds what it held; it and both sinks are as observable as they were, and no count of faults has fallen
  pub shelf : KeepsShelf call.shelf
  pub out : KeepsSink call.out
  pub say : KeepsSink call.say
