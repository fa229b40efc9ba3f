-- `run` has at most one answer.
use Rattle.std.proofs.Common.{◌≡◌, ℕ, ◌<◌, ◌≤◌, true, List, refl, arith}
use Rattle.chp_syntax.specs.Trees.{ProgramTree}
use Rattle.env_script.specs.Scripts.{OfferValue}
use Rattle.width_check.specs.Processes.{TypedProgram}
use Rattle.command_answers.specs.Answers.{Given, Answer, OneAnswer}
use Rattle.round_commands.specs.RoundsReporting.{ReportsRounds, too_full, at_rest, spent, RunsProgram, Runs}
use Rattle.command_words.specs.RoundsWords.{AskedRounds}
use Rattle.command_steps.specs.Steps.{FromChecks}
use Rattle.command_steps.proofs.OneAnswers.{file_once, program_file_once}
use Rattle.command_steps.proofs.OneRunSteps.{script_once}

too_many : {X : Type 0} {held most : ℕ} → most < held → held ≤ most → X
too_many over within = absurd (omega arith)

report_once : (p : TypedProgram) (script : List OfferValue) (n : ℕ) (a b : Answer) → ReportsRounds p script n a → ReportsRounds p script n b → a ≡ b
report_once p script n a b (too_full over) (too_full also) = refl
report_once p script n a b (too_full over) (at_rest within still) = too_many over within
report_once p script n a b (too_full over) (spent within can) = too_many over within
report_once p script n a b (at_rest within still) (too_full over) = too_many over within
report_once p script n a b (at_rest within still) (at_rest also rests) = refl
report_once p script n a b (at_rest within still) (spent also can) = absurd (still can)
report_once p script n a b (spent within can) (too_full over) = too_many over within
report_once p script n a b (spent within can) (at_rest also still) = absurd (still can)
report_once p script n a b (spent within can) (spent also could) = refl

module _ (checked : (program : ProgramTree) (Next : ProgramTree → Answer → Type 0) → ((plain : ProgramTree) → OneAnswer (Next plain)) →
    OneAnswer (FromChecks program Next)) where
  pub rounds_once : (r : AskedRounds) (given : Given) → given.tells ≡ true → OneAnswer (Runs r given)
  rounds_once r given told = program_file_once checked given r.file r.buffer (RunsProgram r given) told
      (λ p. file_once given r.script _ _ told (λ words. script_once p.channels words _ (λ script. report_once p script r.rounds)))
