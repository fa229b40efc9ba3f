-- Wires of channels whose numbers are below a number.
use Rattle.std.specs.Prelude.{ℕ, ◌<◌, List, [], ◌∷◌}
use Rattle.prs_core.specs.declared.wires.Wires.{Wires}

abbrev pub RailsBelow : ℕ → List ℕ → Type 0
RailsBelow k [] = Unit {0}
RailsBelow k (r ∷ rs) = (r < k) × RailsBelow k rs

abbrev pub WiresBelow : ℕ → List Wires → Type 0
WiresBelow k [] = Unit {0}
WiresBelow k (w ∷ ws) = (w.ack < k) × RailsBelow k w.rails × WiresBelow k ws
