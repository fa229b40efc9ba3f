use Rattle.std.proofs.Common.{◌≡◌, map, take}
use Rattle.chp_syntax.specs.View.{expression_of, link_of}
use Rattle.slack_buffer.proofs.copy.+copied_expression.Given as goal

abbrev pub invariant-loop-part : goal.invariant-loop-part
invariant-loop-part l = map expression_of l.made.items ≡ map expression_of (take l.part-index l.part-items)

abbrev pub invariant-loop-link : goal.invariant-loop-link
invariant-loop-link l = map link_of l.made.items ≡ map link_of (take l.link-index l.link-items)
