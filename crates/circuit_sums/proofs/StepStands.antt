-- In each state that is reached, at the place of an own node's step stands the statement that the spot tells, whose phase is that of the node at least.
--
-- P: the program; r: how the state x is reached; g: where its body is; s: the spot; does: that its move is a step.
use Rattle.std.proofs.Common.{◌≡◌, ℕ, ◌≤◌, Bool, true, List, ap, ◌∙◌}
use Rattle.std.specs.Prelude.{Some}
use Rattle.env_script.specs.Scripts.{OfferValue}
use Rattle.width_check.specs.Processes.{Process, TypedProgram}
use Rattle.chp_meaning.specs.Terms.{Term, statement_at}
use Rattle.chp_meaning.specs.Steps.{Configuration}
use Rattle.circuit_places.specs.Lines.{Line}
use Rattle.circuit_places.specs.Circuit.{GuardedSpot}
use Rattle.circuit_places.specs.Whole.{Whole, line_ack, own_node}
use Rattle.circuit_places.proofs.Flow.{not_both}
use Rattle.circuit_places.proofs.Places.{Mode, idle, running, answered, returning, GuardedAt}
use Rattle.circuit_places.proofs.Stepping.{guarded_steps}
use Rattle.circuit_places.proofs.StepPlaces.{guarded_place}
use Rattle.circuit_places.proofs.StillSteps.{guarded_was_low}
use Rattle.circuit_places.proofs.OwnSteps.{guarded_none}
use Rattle.circuit_places.proofs.System.{root_left}
use Rattle.circuit_places.proofs.Carry.{Reached}
use Rattle.round_time.specs.Phases.{phase}
use Rattle.circuit_sums.proofs.Passes.{node_phase}
use Rattle.circuit_sums.proofs.Statements.{guarded_statement, guarded_stands}
use Rattle.circuit_sums.proofs.StatementPhases.{own_phase_of}

root_stands : (ack : Line → Bool) {p : Process} (m : Mode) (g : GuardedAt p m) (s : GuardedSpot p) → guarded_steps g s ≡ true
    → statement_at (root_left ack g) (guarded_place s) ≡ Some (guarded_statement p s)
root_stands ack running g s z = guarded_stands ack g s z
root_stands ack idle g s z = absurd (not_both (guarded_none g (λ e. cc e) s) z)
root_stands ack answered g s z = absurd (not_both (guarded_none g (λ e. cc e) s) z)
root_stands ack returning g s z = absurd (not_both (guarded_none g (λ e. cc e) s) z)

module _ (P : TypedProgram) (script : List OfferValue) {from : Configuration} {moves : ℕ} {x : Whole P.body} (r : Reached P script from moves x)
    (s : GuardedSpot P.body) (does : guarded_steps r.place s ≡ true) where
  pub own_stands : (statement_at r.followed.to.term (guarded_place s) ≡ Some (guarded_statement P.body s))
      × (node_phase P (own_node s) ≤ phase P (guarded_statement P.body s))
  own_stands = (
    ap (λ (t : Term). statement_at t (guarded_place s)) r.followed.term ∙ root_stands (line_ack P x.wires) r.mode r.place s does,
    own_phase_of P s (guarded_was_low r.place s does).0,
  )
