use Rattle.std.proofs.Common.{◌≡◌, ◌+◌, ◌-◌, ◌<◌, ◌≤◌, length, drop}
use Rattle.width_check.specs.Processes.{choosing}
use Rattle.width_check.specs.Typed.{program_of}
use Rattle.width_check.specs.Typing.{AreProcesses, AreChoices}
use Rattle.width_check.specs.View.{members_in, choices_in}
use Rattle.width_check.specs.Walk.{statements_in, arms_in}
use Rattle.handshake_expand.specs.Layout.{size_of, turn_size, branches_size, bodies_size}
use Rattle.call_compose.specs.CalledForm.{called_forms, called_arms}
use Rattle.call_compose.specs.Walking.{answer_at, pieces}
use Rattle.call_compose.proofs.CopiedMembers.{TurnCopied, SidesCopied, ChosenCopied, left_of, arms_left}
use Rattle.call_compose.proofs.CalledSteps.{TurnLeft, BranchesLeft, ChoicesLeft}
use Rattle.call_compose.proofs.walk.+called_statements.Given as goal

abbrev pub invariant-called_sequence-loop-place : goal.invariant-called_sequence-loop-place
invariant-called_sequence-loop-place l =
    let p = program_of l.program in
    let behind = members_in (drop l.place l.members) in
    record {
      left : (k : TurnCopied l.procs l.members l.parts)
          → TurnLeft k.bodies p (answer_at l.answers) (called_forms k.decls l.procs (statements_in l.parts))
          (left_of l.procs k.bodies k.decls l.parts l.place) l.fn.request l.fn.from l.asked l.next
          (pieces l.fn.drivers.items l.fn.contacts.items l.fn.first l.fn.calls.items) (pieces l.drivers.items l.contacts.items l.first l.calls.items);
      values : length l.first ≡ length l.fn.first;
      formed : AreProcesses l.program.channels l.program.vars behind;
      low : l.fn.from ≤ l.next;
      few : l.next ≤ 65536;
      above : l.next + turn_size p behind ≤ l.fn.from + turn_size p (members_in l.members);
      as_many : length l.members ≡ length l.parts;
    }

abbrev pub invariant-called_parallel-loop-place : goal.invariant-called_parallel-loop-place
invariant-called_parallel-loop-place l =
    let p = program_of l.program in
    let behind = members_in (drop l.place l.branches) in
    record {
      left : (k : SidesCopied l.procs l.branches l.parts)
          → BranchesLeft k.bodies p (answer_at l.answers) (called_forms k.decls l.procs (statements_in l.parts))
          (left_of l.procs k.bodies k.decls l.parts l.place) l.request l.fn.from l.next
          (pieces l.fn.drivers.items l.fn.contacts.items l.fn.first l.fn.calls.items) (pieces l.drivers.items l.contacts.items l.first l.calls.items)
          l.ends.items;
      values : length l.first ≡ length l.fn.first;
      formed : AreProcesses l.program.channels l.program.vars behind;
      low : l.fn.from ≤ l.next;
      few : l.next ≤ 65536;
      above : l.next + branches_size p behind ≤ l.fn.from + branches_size p (members_in l.branches);
      as_many : length l.branches ≡ length l.parts;
    }

abbrev pub invariant-called_selection-loop-place : goal.invariant-called_selection-loop-place
invariant-called_selection-loop-place l =
    let p = program_of l.program in
    let behind = choices_in (drop l.place l.arms) in
    record {
      left : (k : ChosenCopied l.procs l.again l.arms l.parts)
          → ChoicesLeft k.bodies p (answer_at l.answers) l.again (called_arms k.decls l.procs (arms_in l.parts))
          (arms_left l.procs k.bodies k.decls l.parts l.place) l.request l.fn.from l.start l.next
          (pieces l.fn.drivers.items l.fn.contacts.items l.fn.first l.fn.calls.items) (pieces l.drivers.items l.contacts.items l.first l.calls.items)
          l.ends.items;
      values : length l.first ≡ length l.fn.first;
      formed : AreChoices l.program.channels l.program.vars behind;
      low : l.fn.from ≤ l.next;
      few : l.next ≤ 65536;
      above : l.next + bodies_size p behind ≤ l.fn.from + size_of p (choosing l.again (choices_in l.arms));
      as_many : length l.arms ≡ length l.parts;
      starts : l.start + (length l.arms - l.place) ≤ l.next;
      within : length l.fn.drivers.items + 2 < length l.drivers.items;
    }
