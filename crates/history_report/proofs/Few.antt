-- A net has few channels.
use Rattle.std.proofs.Common.{◌<◌, ◌≤◌, ◌^◌, ℕ, length, arith}
use Rattle.std.specs.Prelude.{Option, Some, None}
use Rattle.prs_core.specs.Nets.{NetValue, IsNet, most_nodes}
use Rattle.env_script.proofs.Wires.{few_channels}

few_nodes : (reset : Option ℕ) → most_nodes reset ≤ 65537
few_nodes None = omega arith
few_nodes (Some node) = omega arith

pub channels_fit : (net : NetValue) → IsNet net → length net.channels < 2 ^ 32
channels_fit net is =
    let few = few_channels net is in
    let most = few_nodes net.reset in
    omega (arith, few, most, is.most)
