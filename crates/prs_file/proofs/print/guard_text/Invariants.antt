use Rattle.std.proofs.Common.{◌≡◌, ◌++◌, drop}
use Rattle.prs_file.specs.declared.forms.Lead.TheVariants.{Rule}
use Rattle.prs_file.proofs.Rules.{terms_behind}
use Rattle.prs_file.proofs.print.guard_text.Given as goal

abbrev pub invariant-loop-term : goal.invariant-loop-term
invariant-loop-term l =
    l.to.items ++ terms_behind l.net l.next (drop l.term-index l.term-items) ≡ l.initial.to.items ++ terms_behind l.net Rule l.term-items
