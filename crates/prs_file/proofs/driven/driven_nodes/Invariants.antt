use Rattle.std.proofs.Common.{map, take}
use Rattle.std.specs.Prelude.{◌==◌}
use Rattle.prs_core.specs.declared.wires.Wires.{Wires}
use Rattle.prs_file.specs.DrivenTold.{AreDriven}
use Rattle.prs_file.proofs.driven.driven_nodes.Given as goal

abbrev pub invariant-loop-wires : goal.invariant-loop-wires
invariant-loop-wires l =
    AreDriven (l.nodes.version == 2) (map (λ (w : Wires). w.channel) (take l.wires-index l.channels)) l.nodes.index l.driven.items
