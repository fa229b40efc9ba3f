use Rattle.std.proofs.Common.{◌≡◌, ◌+◌, ◌<◌, ◌^◌, drop}
use Rattle.width_check.specs.Typed.{program_of}
use Rattle.width_check.specs.Typing.{AreProcesses}
use Rattle.width_check.specs.View.{process_of, members_in}
use Rattle.handshake_expand.specs.Answers.{answer_of, turn_answer}
use Rattle.handshake_expand.specs.Layout.{turn_size}
use Rattle.handshake_expand.proofs.answer.+answer_node.Given as goal

abbrev pub invariant-loop-place : goal.invariant-loop-place
invariant-loop-place l = record {
  answer : turn_answer (program_of l.program) (members_in (drop l.place l.parts.items)) l.next ≡ answer_of (program_of l.fn.program) (process_of l.fn.s)
      l.fn.from;
  room : l.next + turn_size (program_of l.program) (members_in (drop l.place l.parts.items)) < 2 ^ 32;
  formed : AreProcesses l.program.channels l.program.vars (members_in (drop l.place l.parts.items));
}
