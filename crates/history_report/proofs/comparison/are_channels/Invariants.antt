use Rattle.std.proofs.Common.{◌≡◌, map, take}
use Rattle.prs_core.specs.declared.wires.Wires.{Wires}
use Rattle.history_report.proofs.comparison.are_channels.Given as goal

abbrev pub invariant-loop-chan : goal.invariant-loop-chan
invariant-loop-chan l = take l.chan (map (λ (w : Wires). w.channel) l.wires) ≡ take l.chan l.channels
