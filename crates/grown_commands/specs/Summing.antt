-- What `grow --sum` answers: a summary of the program that is made of the numbers.
use Rattle.std.specs.Prelude.{◌≡◌, ℕ, ◌+◌, ◌-◌, ◌*◌, ◌==◌, ◌≤◌, if◌then◌else◌, List, [], ◌∷◌, ◌++◌, length, map, replicate, sum_by, Some, None, codes, decimal}
use Rattle.std.specs.List.{concat}
use Rattle.env_script.specs.declared.script.Count.{Count}
use Rattle.env_script.specs.Scripts.{OfferValue, gives, takes, nothing}
use Rattle.event_sim.specs.Asking.{PickerValue}
use Rattle.event_sim.specs.Simulating.{RanValue, SimValue}
use Rattle.handshake_expand.specs.Layout.{node_count}
use Rattle.history_report.specs.Reports.{report_of}
use Rattle.net_compose.specs.Translation.{translation}
use Rattle.program_maker.specs.Drawn.{drawn_values}
use Rattle.program_maker.specs.Generated.{generated_text}
use Rattle.prs_core.specs.Nets.{GuardValue, NetValue}
use Rattle.width_check.specs.Processes.{TypedProgram}
use Rattle.command_answers.specs.declared.answer.Ending.TheVariants.{Done}
use Rattle.command_words.specs.declared.grow_words.Growth.{Growth}
use Rattle.command_answers.specs.Answers.{Answer, writes}
use Rattle.command_steps.specs.HeldPrograms.{IsProgramOf}
use Rattle.command_steps.specs.Orders.{Played, place_named}
use Rattle.run_reports.specs.RunReporting.{ending_for}
use Rattle.command_steps.specs.RunSteps.{FromOrder}
use Rattle.simulation_commands.specs.Asked.{IsAskedAt, order_of_picker, simulated_enabled}
use Rattle.simulation_commands.specs.Simulating.{HasPlayed, simulation_for}

-- ---- the run

-- what the environment does to a program of so many stages: it sends the four values that are drawn for the first
-- channel, has no part in those between two stages, and receives whatever comes on the last one
abbrev pub grown_script : (seed stages : ℕ) → List OfferValue
grown_script seed stages = gives (drawn_values seed stages) ∷ replicate (stages - 1) nothing ++ takes Count.All ∷ []

-- the most moves
abbrev pub most_of_summed_moves : ℕ
most_of_summed_moves = 20000

-- the simulation of the program's net
abbrev pub summed_run : Growth → TypedProgram → SimValue
summed_run growth program =
    simulation_for (translation program) (grown_script growth.seed growth.stages) most_of_summed_moves None

-- ---- what is written

-- a guard with terms is a rule, one without any is none
abbrev pub guard_rules : GuardValue → ℕ
guard_rules guard = if length guard == 0 then 0 else 1

-- how many rules the net has
abbrev pub rule_count : NetValue → ℕ
rule_count net = sum_by guard_rules net.up + sum_by guard_rules net.down

-- the numbers of the net's nodes and rules, and the report of the run
abbrev pub summary_of : RanValue → List ℕ
summary_of ran =
    concat (codes "nodes " ∷ decimal (length ran.net.first)
    ∷ codes "\nrules " ∷ decimal (rule_count ran.net)
    ∷ codes "\n" ∷ report_of ran None
    ∷ [])

-- ---- the answer

-- The text of the numbers reads as an accepted program; the order at this place, given the seed 0, led to a run of its
-- net; and the summary of that is written. Neither the text nor the net is ever refused.
pub record SumsUp (growth : Growth) (played : Played) (place : ℕ) (answer : Answer) : Type 0 where
  pub program : TypedProgram
  pub read : IsProgramOf (generated_text growth.seed growth.stages) program
  pub ran : RanValue
  pub run : HasPlayed played place 0 (summed_run growth program) ran
  pub written : answer ≡ writes Done (summary_of ran)

-- the order that chooses the moves
abbrev pub summing_order : List ℕ
summing_order = codes "lowest"

abbrev pub Summarizes : Growth → Played → Answer → Type 0
Summarizes growth played = FromOrder played summing_order (SumsUp growth played)

-- ---- with which lists of moves the order is asked

-- the order at this place, in the run of the net of the program that the text of the numbers reads as
pub record AsksSumAt {P K : Type 0} (known : P → PickerValue K) (growth : Growth) (place : ℕ) (before after : List P) :
    Type 0 where
  pub program : TypedProgram
  pub read : IsProgramOf (generated_text growth.seed growth.stages) program
  pub asked : IsAskedAt known place (simulated_enabled (summed_run growth program)) 0 before after

-- it is the first one of its name
pub record AsksSum {P K : Type 0} (known : P → PickerValue K) (growth : Growth) (before after : List P) : Type 0 where
  pub place : ℕ
  pub named : place_named (map (λ p. order_of_picker (known p)) before) summing_order ≡ Some place
  pub asked : AsksSumAt known growth place before after

-- ---- what follows from that

-- the program has at most 20 nodes and 154 for each stage, and the run found no hazard
pub record IsCalmSummary (growth : Growth) (program : TypedProgram) (ran : RanValue) : Type 0 where
  pub few : node_count program ≤ 20 + 154 * growth.stages
  pub calm : ending_for ran.end ≡ Done
