-- The port that a call writes keeps its contract.
use Rattle.std.proofs.Common.{ℕ, List, ap, ◌∙◌}
use Rattle.cell_channel.specs.Ends.{port_owned}
use Rattle.cell_channel.specs.Handshakes.{PortKeeps, port_bits}
use Rattle.cell_channel.proofs.PortKeeps.{port_kept}
use Rattle.cell_channel.proofs.PortPlaces.{numbered}

pub ports_keep : (request : ℕ) (rails : List ℕ) (from : ℕ) → PortKeeps request rails from
ports_keep request rails from ack pairs same apart =
    (port_kept request ack (port_bits pairs from) apart, numbered request from pairs ∙ ap (λ l. port_owned request l from) same)
