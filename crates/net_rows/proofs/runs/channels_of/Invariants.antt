use Rattle.std.proofs.Common.{◌≡◌, map, take}
use Rattle.prs_core.specs.declared.wires.Wires.{Wires}
use Rattle.net_rows.proofs.runs.channels_of.Given as goal

abbrev pub invariant-loop-wires : goal.invariant-loop-wires
invariant-loop-wires l = l.channels.items ≡ map (λ (w : Wires). w.channel) (take l.wires-index l.wires-items)
