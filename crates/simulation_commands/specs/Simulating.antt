-- What `simulate` answers.
use Rattle.std.specs.Prelude.{◌≡◌, ◌≢◌, ℕ, Bool, true, false, List, ◌++◌, length, map, slice_get, Option, Some, None}
use Rattle.std.specs.declared.alloc.Global.{Global}
use Rattle.std.specs.declared.dyn_box.DynBox.{DynBox}
use Rattle.prs_core.specs.Nets.{NetValue}
use Rattle.prs_core.specs.Moves.{high}
use Rattle.env_script.specs.Environment.{net_channels}
use Rattle.env_script.specs.Scripts.{OfferValue}
use Rattle.env_script.specs.Runs.{after}
use Rattle.event_sim.specs.declared.ran.End.{End}
use Rattle.event_sim.specs.Ends.{EndsSo}
use Rattle.event_sim.specs.Following.{ArePicks}
use Rattle.event_sim.specs.Passing.{passed_in}
use Rattle.event_sim.specs.Simulating.{SimValue, RanValue, start_at, growth, picked_moves}
use Rattle.command_answers.specs.declared.status.Status.{Status}
use Rattle.command_answers.specs.declared.status.Status.TheVariants.{Done, Hazard, Differs, Write, NoMemory}
use Rattle.command_answers.specs.Answers.{Given, Answer}
use Rattle.command_steps.specs.Orders.{OrderState, Played}
use Rattle.command_steps.specs.References.{FromReference}
use Rattle.run_reports.specs.RunReporting.{IsReported}
use Rattle.command_steps.specs.RunSteps.{FromOrder, FromPower, FromScript, most_of_script}
use Rattle.command_steps.specs.Steps.{FromFile, FromNet, most_of_net}
use Rattle.command_words.specs.SimulateWords.{AskedRun}

-- low where none is given
abbrev pub power_or_low : Option Bool → Bool
power_or_low None = false
power_or_low (Some high) = high

abbrev pub simulation_for : NetValue → List OfferValue → (steps : ℕ) → (power : Option Bool) → SimValue
simulation_for net script steps power =
    record { net = net; script = script; steps = steps; high = power_or_low power }

-- An order was given this seed, and then led to a run of the simulation that ended so: each new entry of its log
-- indexes the list of enabled moves, one for each move.
pub record IsPlayed (s : SimValue) (seed : ℕ) (was is : OrderState) (end : End) : Type 0 where
  pub seeded : is.seeded ≡ Some (seed, length was.log)
  pub grown : is.log ≡ was.log ++ growth was.log is.log
  pub picks : ArePicks s.net s.script (start_at s) (growth was.log is.log)
  pub ends : EndsSo s.net s.script s.steps (start_at s) (picked_moves s was.log is.log) end

-- what is reported of the run that the new entries of a log lead to
abbrev pub ran_value : SimValue → (before now : List ℕ) → End → RanValue
ran_value s before now end = record {
  net = s.net;
  end = end;
  moves = length (picked_moves s before now);
  done_high = high (after s.net (start_at s) (picked_moves s before now)).values 1;
  passed = passed_in s.net (start_at s) (picked_moves s before now);
}

-- Objects in boxes are still there, each in its place: each but the one at the index that is asked for, if any is, is
-- as it was, and that one is of the kind that it was, by its table of methods.
pub record SameObjects {B : Type 0} {Object : B → Type 0} (asked : Option ℕ)
    (before after : List (DynBox B Global Object)) : Type 0 where
  pub kinds : map (λ box. box.vtable) after ≡ map (λ box. box.vtable) before
  pub others : (place : ℕ) → asked ≢ Some place → slice_get after place ≡ slice_get before place

-- the statuses of calls in which an order may have been used: the output was written, or cut off, or memory ran out
abbrev pub may_have_asked : Status → Bool
may_have_asked Done = true
may_have_asked Hazard = true
may_have_asked Differs = true
may_have_asked Write = true
may_have_asked NoMemory = true
may_have_asked _ = false

-- where the words are no command, a file can't be read, or the call refuses, nothing that was handed in is used
abbrev pub StaysUnasked : {Handed : Type 0} → Status → (before after : Handed) → Type 0
StaysUnasked status before after = may_have_asked status ≡ false → after ≡ before

-- the order at this index led to this run of the simulation
pub record HasPlayed (played : Played) (place seed : ℕ) (s : SimValue) (ran : RanValue) : Type 0 where
  pub was : OrderState
  pub is : OrderState
  pub before : slice_get played.before place ≡ Some was
  pub after : slice_get played.after place ≡ Some is
  pub run : IsPlayed s seed was is ran.end
  pub led : ran ≡ ran_value s was.log is.log ran.end

-- the order at this index led to a run of the simulation, and it continues with the result
pub record SimulatesNet (played : Played) (place seed : ℕ) (s : SimValue) (Next : RanValue → Answer → Type 0)
    (answer : Answer) : Type 0 where
  pub ran : RanValue
  pub run : HasPlayed played place seed s ran
  pub written : Next ran answer

-- the net may have the power that is asked for; the script is read after it, and then what the run is compared with
abbrev pub SimulatesFile : AskedRun → Given → Played → (place : ℕ) → NetValue → Answer → Type 0
SimulatesFile s given played place net =
    FromPower net s.power
    (FromFile given s.script most_of_script (λ text. FromScript (net_channels net) text (λ script.
    FromReference given s.against (λ program.
    SimulatesNet played place s.seed (simulation_for net script s.steps s.power)
    (λ ran. IsReported script None ran program)))))

-- the order at this index is asked for, and the rule file is read
abbrev pub SimulatesAt : AskedRun → Given → Played → (place : ℕ) → Answer → Type 0
SimulatesAt s given played place =
    FromFile given s.net most_of_net (λ text. FromNet text (SimulatesFile s given played place))

abbrev pub Simulates : AskedRun → Given → Played → Answer → Type 0
Simulates s given played = FromOrder played s.order (SimulatesAt s given played)
