use Rattle.std.proofs.Common.{◌≡◌, ◌++◌, take}
use Rattle.std.specs.List.{flat_map}
use Rattle.prs_core.specs.declared.wires.Wires.{Wires}
use Rattle.prs_file.specs.Spelling.{channel_spelling}
use Rattle.prs_file.proofs.print.channel_lines.Given as goal

abbrev pub invariant-loop-wires : goal.invariant-loop-wires
invariant-loop-wires l =
    l.to.items ≡ l.initial.to.items ++ flat_map (λ (w : Wires). channel_spelling w.channel) (take l.wires-index l.wires-items)
