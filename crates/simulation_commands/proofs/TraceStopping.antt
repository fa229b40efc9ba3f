-- Steps of `waves` by themselves and within it.
use Rattle.std.proofs.Common.{ℕ, suc, ◌≤◌, List, [], ◌∷◌, Option, Some, None, subst, arith}
use Rattle.std.specs.Prelude.{Contains, option_to_list}
use Rattle.delay_script.specs.DelayTables.{DelayTable}
use Rattle.env_script.specs.Environment.{net_channels}
use Rattle.env_script.specs.Scripts.{OfferValue}
use Rattle.prs_core.specs.Nets.{NetValue}
use Rattle.command_answers.specs.declared.answer.Stop.{Stop}
use Rattle.command_answers.specs.Answers.{Given, Answer}
use Rattle.command_steps.specs.Held.{HoldsNet, HoldsScript}
use Rattle.command_answers.specs.Replies.{Stops}
use Rattle.command_steps.specs.RunSteps.{FromScript, a_script, most_of_script}
use Rattle.command_steps.specs.Steps.{FromFile, a_file, FromNet, a_net, Never, most_of_net}
use Rattle.command_steps.specs.DelaySteps.{delays_read, FromDelayFile, HoldsDelayFile}
use Rattle.command_words.specs.WavesWords.{AskedWaves}
use Rattle.simulation_commands.specs.Tracing.{TracesNet, TracesFile, Traces, trace_for}
use Rattle.command_steps.proofs.RunStopping.{file_as, first_file, script_goes, second_file}
use Rattle.command_steps.proofs.Stopping.{net_goes, stops_in}
use Rattle.simulation_commands.proofs.TimingStopping.{delays_go}

-- ---- the step to delays that may have no file

module _ (given : Given) (names : List (List ℕ)) (Next : DelayTable → Answer → Type 0) where
  pub delay_file_goes : (file : Option (List ℕ)) (a : Answer) → FromDelayFile given file names Never a → FromDelayFile given file names Next a
  delay_file_goes None a is = absurd is
  delay_file_goes (Some file) a is = file_as (λ text there. delays_go there) is

  -- what comes of it goes on
  pub delay_file_answers : (file : Option (List ℕ)) (delays : DelayTable) (a : Answer) → HoldsDelayFile given file names delays → Next delays a →
      FromDelayFile given file names Next a
  delay_file_answers None delays a holds is = subst (λ (d : DelayTable). Next d a) holds is
  delay_file_answers (Some file) delays a holds is = a_file holds.gives holds.short (delays_read holds.is is)

behind_both : (a b : List ℕ) (rest : List (List ℕ)) (name : List ℕ) → Contains rest name → Contains (a ∷ b ∷ rest) name
behind_both a b rest name (k, within, is) = (suc (suc k), omega (arith, within), is)

-- ---- within `waves`

module _ (w : AskedWaves) (given : Given) where
  abbrev trace_files : List (List ℕ)
  trace_files = w.net ∷ w.script ∷ option_to_list w.delays

  pub traced_net_stops : (before after : ℕ) (stop : Stop) →
      Stops (FromFile given w.net most_of_net (λ text. FromNet text Never)) (w.net ∷ []) given before after stop
      → Stops (Traces w given) trace_files given before after stop
  traced_net_stops before after stop stops =
      stops_in (FromFile given w.net most_of_net (λ text. FromNet text Never)) (Traces w given)
      (λ answer is. file_as (λ text there. net_goes there) is) (w.net ∷ []) trace_files given before before after
      (λ name own. first_file w.net w.script (option_to_list w.delays) name own) (omega arith) stop stops

  module _ (net : NetValue) (holds : HoldsNet given w.net net) where
    traced_answers : (a : Answer) → TracesFile w given net a → Traces w given a
    traced_answers a is = a_file holds.gives holds.short (a_net holds.is is)

    pub traced_script_stops : (first before after : ℕ) → first ≤ before → (stop : Stop) →
        Stops (FromFile given w.script most_of_script (λ text. FromScript (net_channels net) text Never)) (w.script ∷ []) given before after stop
        → Stops (Traces w given) trace_files given first after stop
    traced_script_stops first before after early stop stops =
        stops_in (FromFile given w.script most_of_script (λ text. FromScript (net_channels net) text Never)) (Traces w given)
        (λ answer is. traced_answers answer (file_as (λ text there. script_goes there) is))
        (w.script ∷ []) trace_files given first before after (λ name own. second_file w.net w.script (option_to_list w.delays) name own) early stop stops

    module _ (script : List OfferValue) (told : HoldsScript given w.script (net_channels net) script) where
      abbrev Told : DelayTable → Answer → Type 0
      Told delays = TracesNet (trace_for w net script delays) w.causes

      behind_script : (a : Answer) → FromDelayFile given w.delays net.names Told a → Traces w given a
      behind_script a is = traced_answers a (a_file told.gives told.short (a_script told.is is))

      pub traced_delays_stop : (first before after : ℕ) → first ≤ before → (stop : Stop) →
          Stops (FromDelayFile given w.delays net.names Never) (option_to_list w.delays) given before after stop
          → Stops (Traces w given) trace_files given first after stop
      traced_delays_stop first before after early stop stops =
          stops_in (FromDelayFile given w.delays net.names Never) (Traces w given)
          (λ answer is. behind_script answer (delay_file_goes given net.names Told w.delays answer is)) (option_to_list w.delays) trace_files given first
          before after (λ name own. behind_both w.net w.script (option_to_list w.delays) name own) early stop stops

      pub trace_answers : (delays : DelayTable) → HoldsDelayFile given w.delays net.names delays → (a : Answer) →
          TracesNet (trace_for w net script delays) w.causes a → Traces w given a
      trace_answers delays said a is = behind_script a (delay_file_answers given net.names Told w.delays delays a said is)
