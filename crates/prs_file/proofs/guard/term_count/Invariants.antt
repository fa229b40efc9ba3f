use Rattle.std.proofs.Common.{◌≡◌, ◌+◌, take}
use Rattle.std.specs.List.{count_by}
use Rattle.prs_file.specs.declared.rule.Led.{Led}
use Rattle.prs_file.specs.Terms.{begins_term}
use Rattle.prs_file.proofs.guard.term_count.Given as goal

abbrev pub invariant-loop-led : goal.invariant-loop-led
invariant-loop-led l = l.count ≡ count_by (λ (k : Led). begins_term k.lead) (take l.led-index l.further) + 1
