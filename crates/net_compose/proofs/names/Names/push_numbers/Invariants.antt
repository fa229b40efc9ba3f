use Rattle.std.proofs.Common.{◌≡◌, ◌++◌}
use Rattle.handshake_expand.specs.Named.{numbered_from}
use Rattle.net_compose.proofs.names.Names.push_numbers.Given as goal

abbrev pub invariant-loop-place : goal.invariant-loop-place
invariant-loop-place l = l.self ≡ l.initial.self ++ numbered_from l.from l.place
