use Rattle.std.proofs.Common.{◌≡◌, ◌++◌}
use Rattle.std.specs.List.{flat_map, range_with_len}
use Rattle.handshake_expand.specs.Named.{bit_names}
use Rattle.net_compose.proofs.names.Names.push_bits.Given as goal

abbrev pub invariant-loop-bit : goal.invariant-loop-bit
invariant-loop-bit l = l.self ≡ l.initial.self ++ flat_map (bit_names l.var.name) (range_with_len 0 l.bit)
