-- In each state that is reached a silent step of an own node lets no own silent move begin but of a shorter trail than the step's phase, and gives no
-- other a longer one.
--
-- P: the program; r: how the state x is reached; s, q: spots; on: that a move is enabled; does: that it is a step.
use Rattle.std.proofs.Common.{◌≡◌, ◌≢◌, ℕ, ◌<◌, ◌≤◌, true, false, List}
use Rattle.std.specs.Prelude.{◌⊎◌}
use Rattle.env_script.specs.Scripts.{OfferValue}
use Rattle.width_check.specs.Processes.{TypedProgram}
use Rattle.chp_meaning.specs.Steps.{Configuration}
use Rattle.function_blocks.specs.Rails.{one_rule_fires}
use Rattle.circuit_places.specs.Lines.{Seen}
use Rattle.circuit_places.specs.Circuit.{GuardedSpot, guarded_rule, turned_guarded}
use Rattle.circuit_places.specs.Whole.{Whole, wires_seen, own_node, enabled, cells_moved}
use Rattle.circuit_places.proofs.Flow.{Backed}
use Rattle.circuit_places.proofs.Meets.{Meets}
use Rattle.circuit_places.proofs.Places.{Mode, idle, running, answered, returning, asks, GuardedAt, guarded_cells, guarded_shown, guarded_moves}
use Rattle.circuit_places.proofs.Stepping.{guarded_steps}
use Rattle.circuit_places.proofs.StillSteps.{guarded_rises, guarded_value}
use Rattle.circuit_places.proofs.OwnSteps.{guarded_none}
use Rattle.circuit_places.proofs.System.{Fitted}
use Rattle.circuit_places.proofs.Carry.{Reached, may, next_reached}
use Rattle.circuit_time.proofs.OwnTrails.{Shorter}
use Rattle.circuit_pace.proofs.Counts.{counts}
use Rattle.circuit_pace.proofs.OwnLowers.{own_trail, backed, own_shorter}
use Rattle.circuit_sums.proofs.Phases.{guarded_phase}
use Rattle.circuit_sums.proofs.OwnStepped.{no_step, guarded_stepped}

-- what is said of a spot behind the step
abbrev Said : (P : TypedProgram) (env : Seen) (s : GuardedSpot P.body) (m : Mode) → GuardedAt P.body m → Type 0
Said P env s m g = (q : GuardedSpot P.body) → one_rule_fires (guarded_rule P.body env (asks m) (turned_guarded P.body (guarded_cells g) s) q) ≡ true
    → (guarded_rises q ≡ true → guarded_value P.body (turned_guarded P.body (guarded_cells g) s) q ≡ true)
    → Shorter s q (guarded_moves env g q) (own_trail P (turned_guarded P.body (guarded_cells g) s) q) (own_trail P (guarded_cells g) q)
    (guarded_phase P 0 P.body s)

said_of : (P : TypedProgram) (env : Seen) → Meets P P.body → (s : GuardedSpot P.body) (m : Mode) (g : GuardedAt P.body m)
    → Backed P.body (guarded_shown g) env → guarded_moves env g s ≡ true → guarded_steps g s ≡ true → Said P env s m g
said_of P env meets s running g behind e z = (guarded_stepped P (counts P) env 0 0 g meets behind s e z).each
said_of P env meets s idle g behind e z = no_step _ (guarded_none g (λ i. cc i) s) z
said_of P env meets s answered g behind e z = no_step _ (guarded_none g (λ i. cc i) s) z
said_of P env meets s returning g behind e z = no_step _ (guarded_none g (λ i. cc i) s) z

module _ (P : TypedProgram) (script : List OfferValue) (fitted : Fitted P script) {from : Configuration} {moves : ℕ} {x : Whole P.body}
    (r : Reached P script from moves x) (s : GuardedSpot P.body) (on : enabled P script x (own_node s) ≡ true) (does : guarded_steps r.place s ≡ true) where
  pub own_steps : (q : GuardedSpot P.body) → enabled P script (cells_moved P x (own_node s)) (own_node q) ≡ true
      → guarded_steps (next_reached P script fitted r (own_node s) on).place q ≡ false
      → (own_trail P (turned_guarded P.body x.root s) q < guarded_phase P 0 P.body s)
      ⊎ ((s ≢ q) × (enabled P script x (own_node q) ≡ true) × (guarded_steps r.place q ≡ false)
      × (own_trail P (turned_guarded P.body x.root s) q ≤ own_trail P x.root q))
  own_steps q on_q still_q = own_shorter P script fitted r (guarded_phase P 0 P.body s) s q on
      (said_of P (wires_seen P x.wires) r.good.meets s r.mode r.place (backed P script fitted r) (may P script r (own_node s) on) does q) on_q still_q
