use Rattle.std.proofs.Common.{◌≡◌, ◌++◌, drop}
use Rattle.prs_file.proofs.Rules.{literals_behind}
use Rattle.prs_file.proofs.print.term_text.Given as goal

abbrev pub invariant-loop-literal : goal.invariant-loop-literal
invariant-loop-literal l =
    l.to.items ++ literals_behind l.net l.next (drop l.literal-index l.literal-items) ≡ l.initial.to.items ++ literals_behind l.net l.fn.lead l.literal-items
