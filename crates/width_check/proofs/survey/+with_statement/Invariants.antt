use Rattle.std.proofs.Common.{◌≡◌, drop}
use Rattle.width_check.specs.Walk.{noted, met_of_each, met_of_arms, statements_in, arms_in}
use Rattle.width_check.proofs.survey.+with_statement.Given as goal

abbrev pub invariant-loop-part : goal.invariant-loop-part
invariant-loop-part l = noted l.scope.decls.now l.findings (met_of_each l.scope.decls.now (statements_in (drop l.part-index l.part-items))) ≡
    noted l.scope.decls.now l.initial.findings (met_of_each l.scope.decls.now (statements_in l.part-items))

abbrev pub invariant-loop-arm : goal.invariant-loop-arm
invariant-loop-arm l = noted l.scope.decls.now l.findings (met_of_arms l.scope.decls.now (arms_in (drop l.arm-index l.arm-items))) ≡
    noted l.scope.decls.now l.initial.findings (met_of_arms l.scope.decls.now (arms_in l.arm-items))
