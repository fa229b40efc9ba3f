use Rattle.std.proofs.Common.{◌+◌, ◌-◌, ◌*◌, ◌≤◌, ◌<◌, length, drop, map}
use Rattle.chp_syntax.specs.View.{link_of, expression_of}
use Rattle.chp_syntax.proofs.Group.{Members}
use Rattle.chp_syntax.proofs.Expressions.{Linked, height, parts_group}
use Rattle.chp_syntax.proofs.parser.expression.+expression_parts.Given as goal

abbrev pub decreases-primary : goal.decreases-primary
decreases-primary l = 16 * (length l.tokens.now - l.at.now) + 0

abbrev pub decreases-negated : goal.decreases-negated
decreases-negated l = 16 * (length l.tokens.now - l.at.now) + 1

abbrev pub decreases-operand : goal.decreases-operand
decreases-operand l = 16 * (length l.tokens.now - l.at.now) + height l.level

abbrev pub decreases-links : goal.decreases-links
decreases-links l = 16 * (length l.tokens.now - l.at.now) + height l.level

abbrev pub decreases-chained : goal.decreases-chained
decreases-chained l = 16 * (length l.tokens.now - l.at.now) + (height l.level + 1)

abbrev pub decreases-comparison : goal.decreases-comparison
decreases-comparison l = 16 * (length l.tokens.now - l.at.now) + 4

abbrev pub decreases-parts : goal.decreases-parts
decreases-parts l = 16 * (length l.tokens.now - l.at.now) + 11

abbrev pub invariant-links-loop-op : goal.invariant-links-loop-op
invariant-links-loop-op l = record {
  within : l.at ≤ length l.tokens;
  kept : l.fn.at ≤ l.at;
  read : Linked l.level (drop l.fn.at l.tokens) (drop l.at l.tokens) (map link_of l.tail.links.items) l.tail.last;
}

abbrev pub decreases-links-loop-op : goal.decreases-links-loop-op
decreases-links-loop-op l = length l.tokens - l.at

abbrev pub invariant-parts-loop-alloc : goal.invariant-parts-loop-alloc
invariant-parts-loop-alloc l = record {
  within : l.at ≤ length l.tokens;
  moved : l.fn.at < l.at;
  read : Members parts_group (λ c. c.expression) (drop l.fn.at l.tokens) (drop l.at l.tokens) (map expression_of l.members.items);
}

abbrev pub decreases-parts-loop-alloc : goal.decreases-parts-loop-alloc
decreases-parts-loop-alloc l = length l.tokens - l.at
