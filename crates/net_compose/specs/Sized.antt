-- The number of nodes of a net.
use Rattle.std.specs.Prelude.{◌≡◌, ℕ, length}
use Rattle.prs_core.specs.Nets.{NetValue}

-- a name, a first value and two guards for each of so many nodes
pub record IsOfSize (net : NetValue) (nodes : ℕ) : Type 0 where
  pub names : length net.names ≡ nodes
  pub first : length net.first ≡ nodes
  pub up : length net.up ≡ nodes
  pub down : length net.down ≡ nodes
