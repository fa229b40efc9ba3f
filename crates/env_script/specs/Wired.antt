-- The wires of a channel, as nodes of a net.
use Rattle.std.specs.Prelude.{◌≡◌, ℕ, ◌*◌, ◌<◌, ◌≤◌, length, All}
use Rattle.prs_core.specs.declared.wires.Wires.{Wires}

-- a pair of rails for each of at most 64 bits, and an acknowledge, all of them among so many nodes
pub record IsWired (count : ℕ) (w : Wires) : Type 0 where
  pub pairs : (bits : ℕ) × (length w.rails ≡ 2 * bits)
  pub most : length w.rails ≤ 128
  pub rails : All (λ rail. rail < count) w.rails
  pub ack : w.ack < count
