use Rattle.std.proofs.Common.{◌≡◌, ◌++◌}
use Rattle.std.specs.List.{flat_map, range_with_len}
use Rattle.prs_file.specs.Spelling.{rules_spelling}
use Rattle.prs_file.proofs.print.print_net.Given as goal

abbrev pub invariant-loop-node : goal.invariant-loop-node
invariant-loop-node l = l.text.items ≡ l.initial.text.items ++ flat_map (rules_spelling l.net) (range_with_len 0 l.node)
