use Rattle.std.proofs.Common.{◌≡◌, false, drop}
use Rattle.std.specs.Prelude.{IfOk}
use Rattle.std.specs.declared.alloc.Global.{Global}
use Rattle.std.specs.declared.vec.Vec.{Vec}
use Rattle.chp_syntax.specs.Shape.{AreShapedMembers, AreShapedArms}
use Rattle.width_check.specs.Calls.{some_has_call, arm_has_call}
use Rattle.width_check.specs.declared.typed.TArm.{TArm}
use Rattle.width_check.specs.declared.typed.TStmt.{TStmt}
use Rattle.width_check.specs.Form.{processes_form, choices_form}
use Rattle.width_check.specs.Sound.{IsSound}
use Rattle.width_check.specs.Walk.{met_of_each, met_of_arms, statements_in, arms_in}
use Rattle.width_check.proofs.Makings.{before_members, before_arms}
use Rattle.width_check.proofs.making.+make_statement.Given as goal

abbrev pub invariant-loop-part : goal.invariant-loop-part
invariant-loop-part l = record {
  made : IfOk l.made (λ (m : Vec TStmt Global). before_members m.items (processes_form l.scope.decls.now (statements_in (drop l.part-index l.part-items))) ≡
      processes_form l.scope.decls.now (statements_in l.part-items));
  shaped : AreShapedMembers (statements_in (drop l.part-index l.part-items));
  free : some_has_call (statements_in (drop l.part-index l.part-items)) ≡ false;
  sound : IsSound l.scope.decls.now (met_of_each l.scope.decls.now (statements_in (drop l.part-index l.part-items)));
}

abbrev pub invariant-loop-arm : goal.invariant-loop-arm
invariant-loop-arm l = record {
  made : IfOk l.made (λ (m : Vec TArm Global). before_arms m.items (choices_form l.scope.decls.now (arms_in (drop l.arm-index l.arm-items))) ≡
      choices_form l.scope.decls.now (arms_in l.arm-items));
  shaped : AreShapedArms (arms_in (drop l.arm-index l.arm-items));
  free : arm_has_call (arms_in (drop l.arm-index l.arm-items)) ≡ false;
  sound : IsSound l.scope.decls.now (met_of_arms l.scope.decls.now (arms_in (drop l.arm-index l.arm-items)));
}

abbrev pub decreases-make_statement : goal.decreases-make_statement
decreases-make_statement l = goal.size-make_statement l
