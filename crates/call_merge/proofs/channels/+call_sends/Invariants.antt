use Rattle.std.proofs.Common.{◌≡◌, map, take}
use Rattle.chp_syntax.specs.View.{statement_of, guarded_of}
use Rattle.call_merge.specs.CallSites.{call_sends, zero_expression}
use Rattle.call_merge.proofs.Copying.{mapped_arm}
use Rattle.call_merge.proofs.channels.+call_sends.Given as goal

abbrev pub invariant-loop-part : goal.invariant-loop-part
invariant-loop-part l = map statement_of l.made.items ≡ map (λ s. call_sends (statement_of s)) (take l.part-index l.part-items)

abbrev pub invariant-loop-arm : goal.invariant-loop-arm
invariant-loop-arm l = map guarded_of l.made.items ≡ map (mapped_arm call_sends (λ e. zero_expression)) (take l.arm-index l.arm-items)
