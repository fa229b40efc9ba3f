use Rattle.std.proofs.Common.{take, true}
use Rattle.std.specs.Prelude.{IfOk}
use Rattle.std.specs.declared.alloc.Global.{Global}
use Rattle.std.specs.declared.boxed.Box.{Box}
use Rattle.width_check.specs.Processes.{in_turn, side_by_side, choosing}
use Rattle.width_check.proofs.Statements.{members_of, arms_of}
use Rattle.sharing_check.specs.declared.deeds.Deeds.{Deeds}
use Rattle.sharing_check.specs.Tells.{Tells}
use Rattle.sharing_check.proofs.deeds.+deeds_of.Given as goal

abbrev pub invariant-loop-part : goal.invariant-loop-part
invariant-loop-part l = IfOk l.all (λ (d : Box Deeds Global). Tells l.cause (in_turn (members_of (take l.part-index l.part-items))) d.value)

abbrev pub invariant-loop-branch : goal.invariant-loop-branch
invariant-loop-branch l = IfOk l.all (λ (d : Box Deeds Global). Tells l.cause (side_by_side (members_of (take l.branch-index l.branch-items))) d.value)

abbrev pub invariant-loop-arm : goal.invariant-loop-arm
invariant-loop-arm l = IfOk l.all (λ (d : Box Deeds Global). Tells l.cause (choosing true (arms_of (take l.arm-index l.arm-items))) d.value)
