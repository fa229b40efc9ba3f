use Rattle.std.proofs.Common.{◌≤◌, ◌-◌, ◌^◌}
use Rattle.std.specs.Slice.Iter.{iter_rest}
use Rattle.std.specs.Iterator.Adapters.{zip_first, zip_second}
use Rattle.width_check.specs.Typed.{program_of}
use Rattle.width_check.specs.Typing.{AreProcesses, AreChoices}
use Rattle.width_check.specs.View.{members_in, choices_in}
use Rattle.call_compose.proofs.CalledCounts.{MembersCounted, ArmsCounted}
use Rattle.call_compose.proofs.nodes.+statements.Given as goal

abbrev pub invariant-members_nodes-loop-part : goal.invariant-members_nodes-loop-part
invariant-members_nodes-loop-part l = record {
  formed : AreProcesses l.program.channels l.program.vars (members_in (iter_rest (zip_second l.part-iterator)));
  most : l.count ≤ 2 ^ 64 - 1;
  counted : MembersCounted (program_of l.program)
      (iter_rest (zip_first l.initial.part-iterator)) (iter_rest (zip_second l.initial.part-iterator))
      (iter_rest (zip_first l.part-iterator)) (iter_rest (zip_second l.part-iterator)) l.count;
}

abbrev pub invariant-arms_nodes-loop-arm : goal.invariant-arms_nodes-loop-arm
invariant-arms_nodes-loop-arm l = record {
  formed : AreChoices l.program.channels l.program.vars (choices_in (iter_rest (zip_second l.arm-iterator)));
  most : l.count ≤ 2 ^ 64 - 1;
  counted : ArmsCounted (program_of l.program)
      (iter_rest (zip_first l.initial.arm-iterator)) (iter_rest (zip_second l.initial.arm-iterator))
      (iter_rest (zip_first l.arm-iterator)) (iter_rest (zip_second l.arm-iterator)) l.count;
}
