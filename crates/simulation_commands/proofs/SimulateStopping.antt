-- The steps of `simulate` within it.
use Rattle.std.proofs.Common.{◌≡◌, ℕ, suc, ◌≤◌, false, List, [], ◌∷◌, Option, Some, None, arith}
use Rattle.std.specs.Prelude.{Contains, option_to_list}
use Rattle.env_script.specs.Environment.{net_channels}
use Rattle.env_script.specs.Scripts.{OfferValue}
use Rattle.prs_core.specs.Nets.{NetValue}
use Rattle.width_check.specs.Processes.{TypedProgram}
use Rattle.command_answers.specs.declared.answer.Stop.{Stop}
use Rattle.command_answers.specs.Answers.{Given, Answer}
use Rattle.command_steps.specs.Held.{HoldsNet, HoldsScript}
use Rattle.command_steps.specs.Orders.{Played, place_named}
use Rattle.command_steps.specs.References.{FromReference, HoldsReference}
use Rattle.command_answers.specs.Replies.{Stops}
use Rattle.run_reports.specs.RunReporting.{IsReported}
use Rattle.command_steps.specs.RunSteps.{has_power, a_script, lacks_reset, an_order, FromScript, most_of_script}
use Rattle.command_words.specs.SimulateWords.{AskedRun}
use Rattle.simulation_commands.specs.Simulating.{SimulatesAt, SimulatesNet, simulation_for, Simulates, SimulatesFile}
use Rattle.command_steps.specs.Steps.{FromFile, a_file, Never, FromNet, a_net, most_of_net}
use Rattle.command_steps.proofs.RunStopping.{file_as, script_goes, first_file, second_file}
use Rattle.command_steps.proofs.Stopping.{stops_in, net_goes}
use Rattle.command_steps.proofs.Referring.{reference_goes, reference_answers}

behind_two : (a b : List ℕ) (rest : List (List ℕ)) (name : List ℕ) → Contains rest name → Contains (a ∷ b ∷ rest) name
behind_two a b rest name (k, within, is) = (suc (suc k), omega (arith, within), is)

module _ (run : AskedRun) (given : Given) (played : Played) (place : ℕ) where
  abbrev files : List (List ℕ)
  files = run.net ∷ run.script ∷ option_to_list run.against

  pub net_stops : (before after : ℕ) (stop : Stop) →
      Stops (FromFile given run.net most_of_net (λ text. FromNet text Never)) (run.net ∷ []) given before after stop
      → Stops (SimulatesAt run given played place) files given before after stop
  net_stops before after stop stops =
      stops_in (FromFile given run.net most_of_net (λ text. FromNet text Never)) (SimulatesAt run given played place)
      (λ answer is. file_as (λ text there. net_goes there) is) (run.net ∷ []) files given before before after
      (λ name own. first_file run.net run.script (option_to_list run.against) name own) (omega arith) stop stops

  module _ (net : NetValue) (holds : HoldsNet given run.net net) where
    pub file_answers : (a : Answer) → SimulatesFile run given played place net a → SimulatesAt run given played place a
    file_answers a is = a_file holds.gives holds.short (a_net holds.is is)

    module _ (powered : lacks_reset run.power net.reset ≡ false) where
      pub script_stops : (first before after : ℕ) → first ≤ before → (stop : Stop) →
          Stops (FromFile given run.script most_of_script (λ text. FromScript (net_channels net) text Never)) (run.script ∷ []) given before after stop
          → Stops (SimulatesAt run given played place) files given first after stop
      script_stops first before after early stop stops =
          stops_in (FromFile given run.script most_of_script (λ text. FromScript (net_channels net) text Never)) (SimulatesAt run given played place)
          (λ answer is. file_answers answer (has_power powered (file_as (λ text there. script_goes there) is)))
          (run.script ∷ []) files given first before after (λ name own. second_file run.net run.script (option_to_list run.against) name own) early stop stops

module _ (run : AskedRun) (given : Given) (played : Played) (place : ℕ) (net : NetValue) (holds : HoldsNet given run.net net)
    (powered : lacks_reset run.power net.reset ≡ false) (script : List OfferValue) (told : HoldsScript given run.script (net_channels net) script) where
  abbrev Reports : Option TypedProgram → Answer → Type 0
  Reports program = SimulatesNet played place run.seed (simulation_for net script run.steps run.power) (λ ran. IsReported script None ran program)

  behind_script : (a : Answer) → FromReference given run.against Reports a → SimulatesAt run given played place a
  behind_script a is = file_answers run given played place net holds a (has_power powered (a_file told.gives told.short (a_script told.is is)))

  pub reference_stops : (first before after : ℕ) → first ≤ before → (stop : Stop) →
      Stops (FromReference given run.against Never) (option_to_list run.against) given before after stop
      → Stops (SimulatesAt run given played place) (run.net ∷ run.script ∷ option_to_list run.against) given first after stop
  reference_stops first before after early stop stops =
      stops_in (FromReference given run.against Never) (SimulatesAt run given played place)
      (λ answer is. behind_script answer (reference_goes given Reports run.against answer is))
      (option_to_list run.against) (run.net ∷ run.script ∷ option_to_list run.against) given first before after
      (λ name own. behind_two run.net run.script (option_to_list run.against) name own) early stop stops

  pub report_answers : (program : Option TypedProgram) → HoldsReference given run.against program → (a : Answer) → Reports program a →
      SimulatesAt run given played place a
  report_answers program refers a is = behind_script a (reference_answers given Reports run.against program a refers is)

-- ---- behind the order

pub order_stops : (run : AskedRun) (given : Given) (played : Played) (place : ℕ) → place_named played.before run.order ≡ Some place →
    (before after : ℕ) (stop : Stop)
    → Stops (SimulatesAt run given played place) (run.net ∷ run.script ∷ option_to_list run.against) given before after stop
    → Stops (Simulates run given played) (run.net ∷ run.script ∷ option_to_list run.against) given before after stop
order_stops run given played place named before after stop stops =
    let files = run.net ∷ run.script ∷ option_to_list run.against in
    stops_in (SimulatesAt run given played place) (Simulates run given played) (λ answer is. an_order named is) files files given before before after
    (λ name own. own) (omega arith) stop stops
