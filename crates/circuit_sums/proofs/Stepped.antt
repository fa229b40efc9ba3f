-- Behind each step of the program each silent move has a rank below the step's phase, or was silent before and has no higher rank than then.
--
-- P: the program; r: how the state x is reached; n, m: nodes; on: that the step is enabled; does: that it is one.
use Rattle.std.proofs.Common.{◌≡◌, ◌≢◌, ℕ, ◌<◌, ◌≤◌, true, List, refl}
use Rattle.std.specs.Prelude.{◌⊎◌}
use Rattle.env_script.specs.Scripts.{OfferValue}
use Rattle.width_check.specs.Processes.{TypedProgram}
use Rattle.chp_meaning.specs.Steps.{Configuration}
use Rattle.circuit_places.specs.Lines.{of_var}
use Rattle.circuit_places.specs.Whole.{Whole, line_ack, wrote_turned, joint_turned, Node, own_node, go_node, rail_node, ack_node, bit_node, wrote_node, joint_node, enabled, cells_moved}
use Rattle.circuit_places.proofs.Places.{guarded_shown}
use Rattle.circuit_places.proofs.System.{Fitted}
use Rattle.circuit_places.proofs.Quiet.{is_step}
use Rattle.circuit_places.proofs.Carry.{Reached, next_reached}
use Rattle.circuit_time.proofs.Levels.{Rank, Silent}
use Rattle.circuit_ranks.proofs.Ranks.{rank}
use Rattle.circuit_ranks.proofs.Claims.{of_spots}
use Rattle.circuit_sums.proofs.Passes.{node_phase}
use Rattle.circuit_sums.proofs.StepsOwn.{own_steps}
use Rattle.circuit_sums.proofs.StepsFar.{far_behind}
use Rattle.circuit_sums.proofs.StepsWires.{ack_behind, wrote_behind, joint_behind, high_by, assigned}

-- of ranks, and of phases of nodes, that none depends on the state
abbrev pub StepsLead : (P : TypedProgram) (script : List OfferValue) (fitted : Fitted P script) → Rank P → (phase : Node P.body → ℕ) → Type 0
StepsLead P script fitted rank phase = (from : Configuration) (moves : ℕ) (x : Whole P.body) (r : Reached P script from moves x) (n : Node P.body)
    (on : enabled P script x n ≡ true) → is_step P r.place x.wires n ≡ true → (m : Node P.body)
    → Silent P script fitted rank (next_reached P script fitted r n on) m
    → (rank (cells_moved P x n) m < phase n) ⊎ ((n ≢ m) × Silent P script fitted rank r m × (rank (cells_moved P x n) m ≤ rank x m))

module _ (P : TypedProgram) (script : List OfferValue) (fitted : Fitted P script) where
  pub stepped : StepsLead P script fitted (rank P) (node_phase P)
  stepped from moves x r (own_node s) on does (own_node q) t = of_spots P script fitted r s q (own_steps P script fitted r s on does q t.on t.still)
  stepped from moves x r (own_node s) on does go_node t = far_behind P script fitted r s on does go_node refl t.on t.still
  stepped from moves x r (own_node s) on does (rail_node k i one) t = far_behind P script fitted r s on does (rail_node k i one) refl t.on t.still
  stepped from moves x r (own_node s) on does (ack_node c) t = far_behind P script fitted r s on does (ack_node c) refl t.on t.still
  stepped from moves x r (own_node s) on does (bit_node v i one) t = far_behind P script fitted r s on does (bit_node v i one) refl t.on t.still
  stepped from moves x r (own_node s) on does (wrote_node v i) t = far_behind P script fitted r s on does (wrote_node v i) refl t.on t.still
  stepped from moves x r (own_node s) on does (joint_node v k) t = far_behind P script fitted r s on does (joint_node v k) refl t.on t.still
  stepped from moves x r (ack_node c) on does m t = ack_behind P script fitted r c on (high_by (x.wires.ack c) does) m t
  stepped from moves x r (wrote_node v i) on does m t = wrote_behind P script fitted r v i on
      (assigned (line_ack P x.wires (of_var v)) ((guarded_shown r.place).says (of_var v)) (line_ack P (wrote_turned x.wires v i) (of_var v)) does).1 m t
  stepped from moves x r (joint_node v k) on does m t = joint_behind P script fitted r v k on
      (assigned (line_ack P x.wires (of_var v)) ((guarded_shown r.place).says (of_var v)) (line_ack P (joint_turned x.wires v k) (of_var v)) does).1 m t
  stepped from moves x r go_node on does m t = absurd (cc does)
  stepped from moves x r (rail_node k i one) on does m t = absurd (cc does)
  stepped from moves x r (bit_node v i one) on does m t = absurd (cc does)
