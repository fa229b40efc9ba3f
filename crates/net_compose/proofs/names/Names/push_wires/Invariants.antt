use Rattle.std.proofs.Common.{◌≡◌, ◌++◌}
use Rattle.prs_core.specs.Nets.{rail_names}
use Rattle.net_compose.proofs.names.Names.push_wires.Given as goal

abbrev pub invariant-loop-bit : goal.invariant-loop-bit
invariant-loop-bit l = l.self ≡ l.initial.self ++ rail_names l.channel.name l.bit
