-- What is reported of a run, and how a command ends with it.
use Rattle.std.specs.Prelude.{◌≡◌, ℕ, List, ◌++◌, Option, Some, None}
use Rattle.env_script.specs.Scripts.{OfferValue}
use Rattle.event_sim.specs.declared.ran.End.{End}
use Rattle.event_sim.specs.declared.ran.End.TheVariants.{AtRest, Spent}
use Rattle.event_sim.specs.Simulating.{RanValue}
use Rattle.history_report.specs.declared.comparison.Against.{Against}
use Rattle.history_report.specs.declared.comparison.Against.TheVariants.{Agrees}
use Rattle.history_report.specs.Comparing.{IsAgainst, against_line}
use Rattle.history_report.specs.Reports.{report_of}
use Rattle.width_check.specs.Processes.{TypedProgram}
use Rattle.command_answers.specs.declared.answer.Ending.{Ending}
use Rattle.command_answers.specs.declared.answer.Ending.TheVariants.{Done, Hazard, Differs}
use Rattle.command_answers.specs.Answers.{Answer, writes}

-- a hazard was found, or none
abbrev pub ending_for : End → Ending
ending_for AtRest = Done
ending_for Spent = Done
ending_for _ = Hazard

-- the run agrees with the program, or doesn't
abbrev pub ending_against : Against → Ending
ending_against Agrees = Done
ending_against _ = Differs

-- The report of the run is written, with its time where it has one; and after it the comparison of the run with the
-- rounds of a program, where there is one and the run has no hazard.
pub data IsReported (script : List OfferValue) (time : Option ℕ) (ran : RanValue) : Option TypedProgram → Answer →
    Type 0 where
  alone : IsReported script time ran None (writes (ending_for ran.end) (report_of ran time))
  hazardous : {p : TypedProgram} → ending_for ran.end ≡ Hazard →
      IsReported script time ran (Some p) (writes Hazard (report_of ran time))
  compared : {p : TypedProgram} (against : Against) → ending_for ran.end ≡ Done → IsAgainst ran p script against →
      IsReported script time ran (Some p)
      (writes (ending_against against) (report_of ran time ++ against_line ran.net against))
