use Rattle.std.proofs.Common.{◌≡◌, ◌≤◌, ◌+◌, ◌-◌, ◌^◌, drop}
use Rattle.width_check.specs.Typed.{program_of}
use Rattle.width_check.specs.Typing.{AreProcesses, AreChoices}
use Rattle.width_check.specs.View.{process_of}
use Rattle.handshake_expand.specs.Layout.{size_of, capped}
use Rattle.handshake_expand.proofs.Rows.{members_in, choices_in, members_size, arms_size}
use Rattle.handshake_expand.proofs.count.+statement_nodes.Given as goal

abbrev pub invariant-loop-part : goal.invariant-loop-part
invariant-loop-part l = record {
  counted : capped (l.count + members_size (program_of l.program) (members_in (drop l.part-index l.part-items))) ≡
      capped (size_of (program_of l.fn.program) (process_of l.fn.s));
  formed : AreProcesses l.program.channels l.program.vars (members_in (drop l.part-index l.part-items));
  most : l.count ≤ 2 ^ 64 - 1;
}

abbrev pub invariant-loop-branch : goal.invariant-loop-branch
invariant-loop-branch l = record {
  counted : capped (l.count + members_size (program_of l.program) (members_in (drop l.branch-index l.branch-items))) ≡
      capped (size_of (program_of l.fn.program) (process_of l.fn.s));
  formed : AreProcesses l.program.channels l.program.vars (members_in (drop l.branch-index l.branch-items));
  most : l.count ≤ 2 ^ 64 - 1;
}

abbrev pub invariant-loop-arm : goal.invariant-loop-arm
invariant-loop-arm l = record {
  counted : capped (l.count + arms_size (program_of l.program) (choices_in (drop l.arm-index l.arm-items))) ≡
      capped (size_of (program_of l.fn.program) (process_of l.fn.s));
  formed : AreChoices l.program.channels l.program.vars (choices_in (drop l.arm-index l.arm-items));
  most : l.count ≤ 2 ^ 64 - 1;
}
