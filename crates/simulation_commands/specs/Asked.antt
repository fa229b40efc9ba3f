-- With which lists of moves an order is asked.
use Rattle.std.specs.Prelude.{◌≡◌, ℕ, List, length, map, slice_get, Some}
use Rattle.env_script.specs.Environment.{net_channels}
use Rattle.event_sim.specs.Asking.{PickerValue, IsAskedAlong, enabled_after}
use Rattle.event_sim.specs.Simulating.{SimValue, growth, start_at}
use Rattle.command_answers.specs.Answers.{Given}
use Rattle.command_steps.specs.Held.{HoldsNet, HoldsScript}
use Rattle.command_steps.specs.Orders.{OrderState, order_state, place_named}
use Rattle.command_words.specs.SimulateWords.{AskedRun}
use Rattle.simulation_commands.specs.Simulating.{power_or_low}

-- An order got this seed. Then an object of its kind, with its log and this seed, was asked before each move of a run
-- with the list of the moves that were enabled, which `enabled` says after some picks; and its picks are the new
-- entries of its log.
pub record IsAskedThrough {P K : Type 0} (known : P → PickerValue K) (enabled : List ℕ → List ℕ) (seed : ℕ)
    (was is : P) : Type 0 where
  pub ready : P
  pub kind : (known ready).kind ≡ (known was).kind
  pub log : (known ready).log ≡ (known was).log
  pub seeded : (known ready).seeded ≡ Some (seed, length (known was).log)
  pub asked : IsAskedAlong known enabled (growth (known was).log (known is).log) ready is

-- so the order at this index was
pub record IsAskedAt {P K : Type 0} (known : P → PickerValue K) (place : ℕ) (enabled : List ℕ → List ℕ) (seed : ℕ)
    (before after : List P) : Type 0 where
  pub was : P
  pub is : P
  pub held : slice_get before place ≡ Some was
  pub holds : slice_get after place ≡ Some is
  pub through : IsAskedThrough known enabled seed was is

-- the moves that are enabled in a simulation after some picks
abbrev pub simulated_enabled : SimValue → (picks : List ℕ) → List ℕ
simulated_enabled s = enabled_after s.net s.script (start_at s)

-- the simulation is that of the net and the script that the files hold, as it is asked for
pub record HoldsSimulation (run : AskedRun) (given : Given) (s : SimValue) : Type 0 where
  pub net : HoldsNet given run.net s.net
  pub script : HoldsScript given run.script (net_channels s.net) s.script
  pub steps : s.steps ≡ run.steps
  pub high : s.high ≡ power_or_low run.power

-- the order at this index was asked so in the simulation of the files
pub record AsksAt {P K : Type 0} (known : P → PickerValue K) (run : AskedRun) (given : Given) (place : ℕ)
    (before after : List P) : Type 0 where
  pub s : SimValue
  pub files : HoldsSimulation run given s
  pub asked : IsAskedAt known place (simulated_enabled s) run.seed before after

abbrev pub order_of_picker : {K : Type 0} → PickerValue K → OrderState
order_of_picker p = order_state p.name p.log p.seeded

-- it is the first order of the wanted name
pub record AsksOrder {P K : Type 0} (known : P → PickerValue K) (run : AskedRun) (given : Given)
    (before after : List P) : Type 0 where
  pub place : ℕ
  pub named : place_named (map (λ p. order_of_picker (known p)) before) run.order ≡ Some place
  pub asked : AsksAt known run given place before after
