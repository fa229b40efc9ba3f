-- What a silent move of any node outside of all statements lets any node do: none begins but of a lower rank.
--
-- P: the program; r: how a state is reached; n, m: nodes; s, t: that a move is silent.
use Rattle.std.proofs.Common.{◌≡◌, ◌≢◌, ℕ, true, List}
use Rattle.env_script.specs.Scripts.{OfferValue}
use Rattle.width_check.specs.Processes.{TypedProgram}
use Rattle.width_check.specs.Typing.{IsProcess}
use Rattle.chp_meaning.specs.Steps.{Configuration}
use Rattle.circuit_places.specs.Circuit.{GuardedSpot}
use Rattle.circuit_places.specs.Whole.{Whole, Node, go_node, own_node, rail_node, ack_node, bit_node, wrote_node, joint_node}
use Rattle.circuit_places.proofs.System.{Fitted}
use Rattle.circuit_places.proofs.Carry.{Reached, next_reached}
use Rattle.circuit_time.proofs.Levels.{Silent}
use Rattle.circuit_pace.proofs.Counts.{covered}
use Rattle.circuit_pace.proofs.OwnBounded.{all_ordered}
use Rattle.circuit_ranks.proofs.Ranks.{rank}
use Rattle.circuit_ranks.proofs.Claims.{is_far, Lowered}
use Rattle.circuit_ranks.proofs.FarStates.{Lower}
use Rattle.circuit_ranks.proofs.FarFar.{wire_lower}
use Rattle.circuit_ranks.proofs.GoFirst.{go_lower}

module _ (P : TypedProgram) (script : List OfferValue) (fitted : Fitted P script) (typed : IsProcess P.channels P.vars P.body) where
  pub far_any : {from : Configuration} {moves : ℕ} {x : Whole P.body} (r : Reached P script from moves x) (n m : Node P.body) → is_far n ≡ true
      → Lowered P script fitted r n m
  far_any r n m far = λ s t. by n far s m t
    where
      wires : (n : Node P.body) → n ≢ go_node → ((q : GuardedSpot P.body) → n ≢ own_node q) → (s : Silent P script fitted (rank P) r n) (m : Node P.body)
          → Silent P script fitted (rank P) (next_reached P script fitted r n s.on) m → Lower P script fitted r n m
      wires = wire_lower P script fitted r (covered P (all_ordered P.channels P.vars P.body typed))

      by : (n : Node P.body) → is_far n ≡ true → (s : Silent P script fitted (rank P) r n) (m : Node P.body)
          → Silent P script fitted (rank P) (next_reached P script fitted r n s.on) m → Lower P script fitted r n m
      by (own_node q) far s m t = absurd (cc far)
      by go_node far s m t = go_lower P script fitted r s m t
      by (rail_node l i one) far s m t = wires (rail_node l i one) (λ e. cc e) (λ q e. cc e) s m t
      by (ack_node c) far s m t = wires (ack_node c) (λ e. cc e) (λ q e. cc e) s m t
      by (bit_node v i one) far s m t = wires (bit_node v i one) (λ e. cc e) (λ q e. cc e) s m t
      by (wrote_node v i) far s m t = wires (wrote_node v i) (λ e. cc e) (λ q e. cc e) s m t
      by (joint_node v k) far s m t = wires (joint_node v k) (λ e. cc e) (λ q e. cc e) s m t
