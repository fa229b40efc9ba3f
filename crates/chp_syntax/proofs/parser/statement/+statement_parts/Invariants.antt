use Rattle.std.proofs.Common.{◌+◌, ◌-◌, ◌*◌, ◌≤◌, ◌<◌, length, drop, map}
use Rattle.chp_syntax.specs.View.{statement_of, guarded_of}
use Rattle.chp_syntax.proofs.Group.{Members}
use Rattle.chp_syntax.proofs.Statements.{height, Ahead, choices_group}
use Rattle.chp_syntax.proofs.parser.statement.+statement_parts.Given as goal

abbrev pub decreases-atom : goal.decreases-atom
decreases-atom l = 16 * (length l.tokens.now - l.at.now) + 1

abbrev pub decreases-bracketed : goal.decreases-bracketed
decreases-bracketed l = 16 * (length l.tokens.now - l.at.now) + 0

abbrev pub decreases-repetition : goal.decreases-repetition
decreases-repetition l = 16 * (length l.tokens.now - l.at.now) + 0

abbrev pub decreases-selection : goal.decreases-selection
decreases-selection l = 16 * (length l.tokens.now - l.at.now) + 0

abbrev pub decreases-member : goal.decreases-member
decreases-member l = 16 * (length l.tokens.now - l.at.now) + height l.group

abbrev pub decreases-grouped : goal.decreases-grouped
decreases-grouped l = 16 * (length l.tokens.now - l.at.now) + (height l.group + 1)

abbrev pub decreases-branch : goal.decreases-branch
decreases-branch l = 16 * (length l.tokens.now - l.at.now) + 8

abbrev pub decreases-choices : goal.decreases-choices
decreases-choices l = 16 * (length l.tokens.now - l.at.now) + 9

abbrev pub decreases-inside : goal.decreases-inside
decreases-inside l = 16 * (length l.tokens.now - l.at.now) + 10

abbrev pub invariant-grouped-loop-alloc : goal.invariant-grouped-loop-alloc
invariant-grouped-loop-alloc l = record {
  within : l.at ≤ length l.tokens;
  moved : l.fn.at ≤ l.at;
  read : Ahead l.group (drop l.fn.at l.tokens) (drop l.at l.tokens) (map statement_of l.parts.items);
}

abbrev pub decreases-grouped-loop-alloc : goal.decreases-grouped-loop-alloc
decreases-grouped-loop-alloc l = length l.tokens - l.at

abbrev pub invariant-choices-loop-alloc : goal.invariant-choices-loop-alloc
invariant-choices-loop-alloc l = record {
  within : l.at ≤ length l.tokens;
  moved : l.fn.at < l.at;
  read : Members choices_group (λ b. b) (drop l.fn.at l.tokens) (drop l.at l.tokens) (map guarded_of l.arms.items);
}

abbrev pub decreases-choices-loop-alloc : goal.decreases-choices-loop-alloc
decreases-choices-loop-alloc l = length l.tokens - l.at
