-- Why there is no net.
use Rattle.std.specs.Prelude.{ℕ}
use Rattle.net_compose.specs.declared.net.NetError.{NetError}
use Rattle.net_compose.specs.declared.net.NetError.TheVariants.{TooManyNodes, NoMemory}

-- what holds of the number of nodes, where there are too many
abbrev pub IfTooMany : (ℕ → Type 0) → NetError → Type 0
IfTooMany P (TooManyNodes count) = P count
IfTooMany P (NoMemory e) = Unit {0}
