use Rattle.std.proofs.Common.{length}
use Rattle.prs_file.proofs.RuleLines.{IsRead}
use Rattle.prs_file.proofs.rule.rule_form.Given as goal

abbrev pub invariant-loop-next : goal.invariant-loop-next
invariant-loop-next l = IsRead l.line l.leds.items l.rest

abbrev pub decreases-loop-next : goal.decreases-loop-next
decreases-loop-next l = length l.rest
