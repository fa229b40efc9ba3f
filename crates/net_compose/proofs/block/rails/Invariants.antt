use Rattle.std.proofs.Common.{◌≡◌, ◌-◌, ◌++◌}
use Rattle.net_compose.specs.Translation.{rail_rules}
use Rattle.net_compose.proofs.block.rails.Given as goal

abbrev pub invariant-loop-bit : goal.invariant-loop-bit
invariant-loop-bit l = l.drivers.items ++ rail_rules l.sites l.bit (l.width - l.bit) ≡ l.fn.drivers.items ++ rail_rules l.sites 0 l.width
