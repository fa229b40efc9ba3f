-- The four phases of a channel's handshake (Martin), and which moves break them.
use Rattle.std.specs.Prelude.{ℕ, Bool, true, not, ◌&&◌, ◌||◌, ◌==◌, if◌then◌else◌, List, [], ◌∷◌, position, Option, None}
use Rattle.prs_core.specs.declared.wires.Wires.{Wires}
use Rattle.prs_core.specs.Nets.{NetValue}
use Rattle.prs_core.specs.Moves.{neutral}
use Rattle.env_script.specs.Environment.{in_reset, valid}

-- a rail rises only where the acknowledge and the bit's other rail are low, and falls only where the acknowledge is
-- high
abbrev pub rail_keeps : (ℕ → Bool) → (ack rail other : ℕ) → Bool
rail_keeps v ack rail other = if v rail then v ack else not (v ack) && not (v other)

abbrev pub pair_keeps : (ℕ → Bool) → (ack t f n : ℕ) → Bool
pair_keeps v ack t f n = (not (n == t) || rail_keeps v ack t f) && (not (n == f) || rail_keeps v ack f t)

abbrev pub rails_keep : (ℕ → Bool) → ℕ → List ℕ → ℕ → Bool
rails_keep v ack [] n = true
rails_keep v ack (t ∷ []) n = true
rails_keep v ack (t ∷ f ∷ rest) n = pair_keeps v ack t f n && rails_keep v ack rest n

-- an acknowledge rises only where each bit has exactly one rail high, and falls only where all rails are low
abbrev pub ack_keeps : (ℕ → Bool) → ℕ → List ℕ → Bool
ack_keeps v ack rails = if v ack then neutral v rails else valid v rails

-- a change of the node keeps the channel's phases
abbrev pub phases_keep : (ℕ → Bool) → Wires → ℕ → Bool
phases_keep v w n = rails_keep v w.ack w.rails n && (not (n == w.ack) || ack_keeps v w.ack w.rails)

-- the channel whose phases a change of the node would break; while a reset node is high there is none
abbrev pub phase_fault : NetValue → (ℕ → Bool) → ℕ → Option ℕ
phase_fault net v n = if in_reset net.reset v then None else position (λ w. not (phases_keep v w n)) net.channels
