use Rattle.std.proofs.Common.{◌≡◌, ◌++◌}
use Rattle.std.specs.List.{flat_map, range_with_len}
use Rattle.prs_core.specs.Nets.{name_at, first_at}
use Rattle.prs_file.specs.Spelling.{node_spelling}
use Rattle.prs_file.proofs.print.node_lines.Given as goal

abbrev pub invariant-loop-node : goal.invariant-loop-node
invariant-loop-node l =
    l.to.items ≡ l.initial.to.items ++ flat_map (λ node. node_spelling (name_at l.net node) (first_at l.net node)) (range_with_len 0 l.node)
