use Rattle.std.proofs.Common.{◌≡◌, ◌+◌, ◌<◌, ◌^◌, drop}
use Rattle.width_check.specs.Walk.{statements_in, arms_in}
use Rattle.call_merge.specs.Bodies.{procedures_in}
use Rattle.call_merge.specs.CallForms.{capped_forms}
use Rattle.call_merge.proofs.FormSteps.{inlined_forms, inlined_arm_forms}
use Rattle.call_merge.proofs.forms.+inlined_forms.Given as goal

abbrev pub invariant-loop-part : goal.invariant-loop-part
invariant-loop-part l = record {
  sum : capped_forms (l.forms + inlined_forms (procedures_in l.procs) (statements_in (drop l.part-index l.part-items)))
      ≡ capped_forms (1 + inlined_forms (procedures_in l.procs) (statements_in l.part-items));
  small : l.forms < 2 ^ 64;
}

abbrev pub invariant-loop-arm : goal.invariant-loop-arm
invariant-loop-arm l = record {
  sum : capped_forms (l.forms + inlined_arm_forms (procedures_in l.procs) (arms_in (drop l.arm-index l.arm-items)))
      ≡ capped_forms (1 + inlined_arm_forms (procedures_in l.procs) (arms_in l.arm-items));
  small : l.forms < 2 ^ 64;
}
