-- What `run` answers.
use Rattle.std.specs.Prelude.{ℕ, ◌<◌, ◌≤◌, List}
use Rattle.env_script.specs.Scripts.{OfferValue}
use Rattle.width_check.specs.Processes.{TypedProgram}
use Rattle.chp_meaning.specs.declared.run.RunEnd.TheVariants.{Rest, Spent}
use Rattle.chp_meaning.specs.Rounds.{rounds}
use Rattle.chp_meaning.specs.Ends.{CanStep, held_in}
use Rattle.history_report.specs.RoundsReports.{rounds_report_of}
use Rattle.command_answers.specs.declared.answer.Ending.TheVariants.{Done}
use Rattle.command_answers.specs.declared.status.Status.TheVariants.{TooLarge}
use Rattle.command_answers.specs.Answers.{Given, Answer, writes, refuses}
use Rattle.command_steps.specs.BufferSteps.{FromProgramFile}
use Rattle.command_answers.specs.Lines.{values_line}
use Rattle.command_words.specs.RoundsWords.{AskedRounds}
use Rattle.command_steps.specs.RunSteps.{FromScript, most_of_script}
use Rattle.command_steps.specs.Steps.{FromFile}

-- the most values that may have passed on all channels together
abbrev pub most_of_values : ℕ
most_of_values = 1048576

-- After n rounds too many values have passed, which is refused; or the report says whether a further step is enabled.
pub data ReportsRounds (p : TypedProgram) (script : List OfferValue) (n : ℕ) : Answer → Type 0 where
  too_full : most_of_values < held_in (rounds p script n) → ReportsRounds p script n (refuses TooLarge values_line)
  at_rest : held_in (rounds p script n) ≤ most_of_values → ¬ CanStep (rounds p script n) →
      ReportsRounds p script n (writes Done (rounds_report_of p.channels n Rest (rounds p script n)))
  spent : held_in (rounds p script n) ≤ most_of_values → CanStep (rounds p script n) →
      ReportsRounds p script n (writes Done (rounds_report_of p.channels n Spent (rounds p script n)))

-- the script of the program is read, and its rounds are reported
abbrev pub RunsProgram : AskedRounds → Given → TypedProgram → Answer → Type 0
RunsProgram r given p =
    FromFile given r.script most_of_script (λ text. FromScript p.channels text (λ script.
    ReportsRounds p script r.rounds))

-- the program comes first, with a buffer where one is asked for
abbrev pub Runs : AskedRounds → Given → Answer → Type 0
Runs r given = FromProgramFile given r.file r.buffer (RunsProgram r given)
