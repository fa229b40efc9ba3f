-- Steps of a timed simulation by themselves and within it.
use Rattle.std.proofs.Common.{◌≡◌, ℕ, zero, suc, ◌≤◌, false, List, [], ◌∷◌, Option, arith}
use Rattle.std.specs.Prelude.{Contains, option_to_list}
use Rattle.delay_script.specs.DelayTables.{DelayTable}
use Rattle.env_script.specs.Environment.{net_channels}
use Rattle.env_script.specs.Scripts.{OfferValue}
use Rattle.prs_core.specs.Nets.{NetValue}
use Rattle.width_check.specs.Processes.{TypedProgram}
use Rattle.command_answers.specs.declared.answer.Stop.{Stop}
use Rattle.command_answers.specs.Answers.{Given, Answer}
use Rattle.command_steps.specs.Held.{HoldsNet, HoldsScript}
use Rattle.command_steps.specs.References.{FromReference, HoldsReference}
use Rattle.command_answers.specs.Replies.{Stops}
use Rattle.command_steps.specs.RunSteps.{FromScript, a_script, has_power, lacks_reset, most_of_script}
use Rattle.command_steps.specs.Steps.{FromFile, a_file, FromNet, a_net, Never, most_of_net}
use Rattle.command_words.specs.SimulateWords.{AskedTiming}
use Rattle.command_steps.specs.DelaySteps.{FromDelays, delays_refused, delays_read, HoldsDelays, most_of_delays}
use Rattle.simulation_commands.specs.Timing.{TimesNet, TimesFile, SimulatesTimed, timing_for}
use Rattle.command_steps.proofs.Referring.{reference_answers, reference_goes}
use Rattle.command_steps.proofs.RunStopping.{file_as, first_file, script_goes, second_file}
use Rattle.command_steps.proofs.Stopping.{net_goes, stops_in}

pub delays_go : {names : List (List ℕ)} {text : List ℕ} {Next : DelayTable → Answer → Type 0} {a : Answer} → FromDelays names text Never a →
    FromDelays names text Next a
delays_go (delays_refused none) = delays_refused none
delays_go (delays_read are never) = absurd never

third_file : (a b d : List ℕ) (rest : List (List ℕ)) (name : List ℕ) → Contains (d ∷ []) name → Contains (a ∷ b ∷ d ∷ rest) name
third_file a b d rest name (zero, within, is) = (2, omega arith, is)
third_file a b d rest name (suc k, within, is) = absurd (omega arith)

behind_three : (a b d : List ℕ) (rest : List (List ℕ)) (name : List ℕ) → Contains rest name → Contains (a ∷ b ∷ d ∷ rest) name
behind_three a b d rest name (k, within, is) = (suc (suc (suc k)), omega (arith, within), is)

module _ (t : AskedTiming) (given : Given) where
  abbrev files : List (List ℕ)
  files = t.net ∷ t.script ∷ t.delays ∷ option_to_list t.against

  pub net_stopped : (before after : ℕ) (stop : Stop) →
      Stops (FromFile given t.net most_of_net (λ text. FromNet text Never)) (t.net ∷ []) given before after stop
      → Stops (SimulatesTimed t given) files given before after stop
  net_stopped before after stop stops =
      stops_in (FromFile given t.net most_of_net (λ text. FromNet text Never)) (SimulatesTimed t given)
      (λ answer is. file_as (λ text there. net_goes there) is) (t.net ∷ []) files given before before after
      (λ name own. first_file t.net t.script (t.delays ∷ option_to_list t.against) name own) (omega arith) stop stops

  module _ (net : NetValue) (holds : HoldsNet given t.net net) where
    pub timed_answers : (a : Answer) → TimesFile t given net a → SimulatesTimed t given a
    timed_answers a is = a_file holds.gives holds.short (a_net holds.is is)

    module _ (powered : lacks_reset t.power net.reset ≡ false) where
      pub script_stopped : (first before after : ℕ) → first ≤ before → (stop : Stop) →
          Stops (FromFile given t.script most_of_script (λ text. FromScript (net_channels net) text Never)) (t.script ∷ []) given before after stop
          → Stops (SimulatesTimed t given) files given first after stop
      script_stopped first before after early stop stops =
          stops_in (FromFile given t.script most_of_script (λ text. FromScript (net_channels net) text Never)) (SimulatesTimed t given)
          (λ answer is. timed_answers answer (has_power powered (file_as (λ text there. script_goes there) is)))
          (t.script ∷ []) files given first before after
          (λ name own. second_file t.net t.script (t.delays ∷ option_to_list t.against) name own) early stop stops

      module _ (script : List OfferValue) (told : HoldsScript given t.script (net_channels net) script) where
        abbrev Reports : DelayTable → Option TypedProgram → Answer → Type 0
        Reports delays = TimesNet (timing_for t net script delays)

        behind_script : (a : Answer) → FromFile given t.delays most_of_delays (λ text. FromDelays net.names text
            (λ delays. FromReference given t.against (Reports delays))) a → SimulatesTimed t given a
        behind_script a is = timed_answers a (has_power powered (a_file told.gives told.short (a_script told.is is)))

        pub delays_stopped : (first before after : ℕ) → first ≤ before → (stop : Stop) →
            Stops (FromFile given t.delays most_of_delays (λ text. FromDelays net.names text Never)) (t.delays ∷ []) given before after stop
            → Stops (SimulatesTimed t given) files given first after stop
        delays_stopped first before after early stop stops =
            stops_in (FromFile given t.delays most_of_delays (λ text. FromDelays net.names text Never)) (SimulatesTimed t given)
            (λ answer is. behind_script answer (file_as (λ text there. delays_go there) is)) (t.delays ∷ []) files given first before after
            (λ name own. third_file t.net t.script t.delays (option_to_list t.against) name own) early stop stops

        module _ (delays : DelayTable) (said : HoldsDelays given t.delays net.names delays) where
          behind_delays : (a : Answer) → FromReference given t.against (Reports delays) a → SimulatesTimed t given a
          behind_delays a is = behind_script a (a_file said.gives said.short (delays_read said.is is))

          pub reference_stopped : (first before after : ℕ) → first ≤ before → (stop : Stop) →
              Stops (FromReference given t.against Never) (option_to_list t.against) given before after stop
              → Stops (SimulatesTimed t given) files given first after stop
          reference_stopped first before after early stop stops =
              stops_in (FromReference given t.against Never) (SimulatesTimed t given)
              (λ answer is. behind_delays answer (reference_goes given (Reports delays) t.against answer is)) (option_to_list t.against) files
              given first before after (λ name own. behind_three t.net t.script t.delays (option_to_list t.against) name own) early stop stops

          pub report_timed : (program : Option TypedProgram) → HoldsReference given t.against program → (a : Answer) → Reports delays program a →
              SimulatesTimed t given a
          report_timed program refers a is = behind_delays a (reference_answers given (Reports delays) t.against program a refers is)
