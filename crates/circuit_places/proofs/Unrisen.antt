-- Which moves of a circuit are no steps of the program.
use Rattle.std.proofs.Common.{◌≡◌, ◌⊎◌, ℕ, Bool, true, false}
use Rattle.width_check.specs.Processes.{Process, TypedProgram}
use Rattle.circuit_places.specs.Lines.{of_var}
use Rattle.circuit_places.specs.Whole.{Wires, line_ack, Node, ack_node, wrote_node, joint_node, wrote_turned, joint_turned}

-- the variable's acknowledge doesn't rise, but under a receive
abbrev pub Unrisen : TypedProgram → (x : ℕ) → (w now : Wires) → (after : ℕ → Bool) → Type 0
Unrisen P x w now after = (line_ack P now (of_var x) ≡ line_ack P w (of_var x)) ⊎ ((line_ack P now (of_var x) ≡ false) ⊎ (after x ≡ true))

-- where a move is no step
abbrev pub Stays : {p : Process} → TypedProgram → Wires → (after : ℕ → Bool) → (step : Bool) → Node p → Type 0
Stays P w after step (ack_node k) = w.ack k ≡ true
Stays P w after step (wrote_node x i) = Unrisen P x w (wrote_turned w x i) after
Stays P w after step (joint_node x k) = Unrisen P x w (joint_turned w x k) after
Stays P w after step _ = step ≡ false
