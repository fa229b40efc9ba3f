-- `grow` has at most one answer.
use Rattle.std.proofs.Common.{◌≡◌, ◌∙◌, ℕ, Bool, true, false, sym, ap, subst}
use Rattle.chp_syntax.specs.Trees.{ProgramTree}
use Rattle.event_sim.specs.Simulating.{RanValue}
use Rattle.width_check.specs.Form.{typed_form}
use Rattle.width_check.specs.Processes.{TypedProgram}
use Rattle.command_answers.specs.declared.answer.Ending.TheVariants.{Done}
use Rattle.command_words.specs.declared.grow_words.Growth.{Growth}
use Rattle.command_answers.specs.Answers.{writes, OneAnswer}
use Rattle.grown_commands.specs.Growing.{Grows, GrowsTo}
use Rattle.command_steps.specs.Inlined.{Means}
use Rattle.command_steps.specs.Orders.{Played}
use Rattle.simulation_commands.specs.Simulating.{HasPlayed}
use Rattle.grown_commands.specs.Summing.{SumsUp, summary_of, summed_run, summing_order}
use Rattle.simulation_commands.proofs.OneRuns.{played_once}
use Rattle.command_steps.proofs.OneMeaning.{means_once}
use Rattle.command_steps.proofs.OneRunSteps.{order_once}

sums_once : (growth : Growth) (played : Played) (place : ℕ) → OneAnswer (SumsUp growth played place)
sums_once growth played place a b p q =
    let trees : q.read.tree ≡ p.read.tree = p.read.read.only q.read.tree q.read.read.reads in
    let plains : q.read.is.plain ≡ p.read.is.plain =
    means_once q.read.is.means (subst (λ (t : ProgramTree). Means t p.read.is.plain) (sym trees) p.read.is.means) in
    let programs : q.program ≡ p.program = q.read.is.form ∙ (ap typed_form plains ∙ sym p.read.is.form) in
    let run : HasPlayed played place 0 (summed_run growth p.program) q.ran =
    subst (λ (r : TypedProgram). HasPlayed played place 0 (summed_run growth r) q.ran) programs q.run in
    p.written ∙ (ap (λ (ran : RanValue). writes Done (summary_of ran)) (played_once played place 0 (summed_run growth p.program) p.ran q.ran p.run run)
    ∙ sym q.written)

pub growth_once : (growth : Growth) (played : Played) → OneAnswer (Grows growth played)
growth_once growth played = go growth.sum
  where
    go : (sum : Bool) → OneAnswer (GrowsTo sum growth played)
    go false = λ a b is are. is ∙ sym are
    go true = order_once played summing_order (SumsUp growth played) (sums_once growth played)
