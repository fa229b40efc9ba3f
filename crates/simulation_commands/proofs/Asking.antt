-- With which lists an order is asked that is at its place among others.
use Rattle.std.proofs.Common.{◌≡◌, ◌∙◌, ℕ, ◌<◌, List, length, get_or, set, slice_get, Some, refl, sym, ap, subst}
use Rattle.std.proofs.lemmas.Option.{slice_get-get_or}
use Rattle.env_script.specs.Environment.{net_channels}
use Rattle.env_script.specs.Scripts.{OfferValue}
use Rattle.event_sim.specs.Asking.{PickerValue, IsAskedAlong}
use Rattle.event_sim.specs.Simulating.{SimValue, growth}
use Rattle.prs_core.specs.Nets.{NetValue}
use Rattle.command_answers.specs.Answers.{Given}
use Rattle.command_steps.specs.Held.{HoldsNet, HoldsScript}
use Rattle.command_words.specs.SimulateWords.{AskedRun}
use Rattle.simulation_commands.specs.Asked.{AsksAt, IsAskedAt, IsAskedThrough, simulated_enabled}
use Rattle.simulation_commands.specs.Simulating.{simulation_for}
use Rattle.simulation_commands.proofs.Keeping.{get_same}

module _ {P K : Type 0} (known : P → PickerValue K) where
  pub asked_through : (enabled : List ℕ → List ℕ) (seed : ℕ) (was ready is : P) → (known ready).kind ≡ (known was).kind
      → (known ready).seeded ≡ Some (seed, length (known was).log) → (known ready).log ≡ (known was).log
      → IsAskedAlong known enabled (growth (known ready).log (known is).log) ready is
      → IsAskedThrough known enabled seed was is
  asked_through enabled seed was ready is alike seeded same asked = record {
    ready = ready;
    kind = alike;
    log = same;
    seeded = seeded;
    asked = subst (λ (log : List ℕ). IsAskedAlong known enabled (growth log (known is).log) ready is) same asked;
  }

  pub asked_at : (enabled : List ℕ → List ℕ) (seed : ℕ) (xs : List P) (place : ℕ) (item x : P) → place < length xs → item ≡ get_or xs place item
      → IsAskedThrough known enabled seed item x → IsAskedAt known place enabled seed xs (set xs place x)
  asked_at enabled seed xs place item x within there through = record {
    was = item;
    is = x;
    held = slice_get-get_or xs place item within ∙ ap (λ y. Some y) (sym there);
    holds = get_same xs place x within;
    through = through;
  }

  -- the same simulation
  pub asked_as : (place seed : ℕ) (before after : List P) (s t : SimValue) → s ≡ t → IsAskedAt known place (simulated_enabled s) seed before after
      → IsAskedAt known place (simulated_enabled t) seed before after
  asked_as place seed before after s t same asked =
      subst (λ (r : SimValue). IsAskedAt known place (simulated_enabled r) seed before after) same asked

  pub asks_at : (run : AskedRun) (given : Given) (place : ℕ) (net : NetValue) (script : List OfferValue) (before after : List P)
      → HoldsNet given run.net net → HoldsScript given run.script (net_channels net) script
      → IsAskedAt known place (simulated_enabled (simulation_for net script run.steps run.power)) run.seed before after
      → AsksAt known run given place before after
  asks_at run given place net script before after holds told asked = record {
    s = simulation_for net script run.steps run.power;
    files = record { net = holds; script = told; steps = refl; high = refl };
    asked = asked;
  }
