use Rattle.std.proofs.Common.{◌≡◌, map, take}
use Rattle.chp_syntax.specs.View.{statement_of, guarded_of}
use Rattle.slack_buffer.specs.BufferedTrees.{rerouted_statement}
use Rattle.slack_buffer.proofs.Copies.{rerouted_guarded}
use Rattle.slack_buffer.proofs.copy.+rerouted_box.Given as goal

abbrev pub invariant-loop-part : goal.invariant-loop-part
invariant-loop-part l = map statement_of l.made.items ≡ map (λ s. rerouted_statement l.chan l.copy (statement_of s)) (take l.part-index l.part-items)

abbrev pub invariant-loop-arm : goal.invariant-loop-arm
invariant-loop-arm l = map guarded_of l.made.items ≡ map (rerouted_guarded l.chan l.copy) (take l.arm-index l.arm-items)
