use Rattle.std.proofs.Common.{◌≡◌, ◌+◌, ◌-◌, ◌≤◌, ◌++◌, length, drop}
use Rattle.width_check.specs.Processes.{choosing, choice_count}
use Rattle.width_check.specs.Typed.{program_of}
use Rattle.width_check.specs.Typing.{AreProcesses, AreChoices}
use Rattle.width_check.specs.View.{members_in, choices_in}
use Rattle.handshake_expand.specs.Layout.{size_of, turn_size, branches_size, bodies_size}
use Rattle.handshake_expand.specs.Answers.{turn_answer, bodies_from}
use Rattle.handshake_expand.specs.PartTree.{expanded_in_turn, expanded_branches, expanded_bodies, own_before}
use Rattle.handshake_expand.specs.Sites.{own_sites, sites_in_turn, sites_in_branches, sites_in_bodies}
use Rattle.handshake_expand.proofs.Trees.{in_front}
use Rattle.handshake_expand.proofs.tree.+parts.Given as goal

abbrev pub invariant-sequence-loop-place : goal.invariant-sequence-loop-place
invariant-sequence-loop-place l =
    let p = program_of l.program in
    record {
      children : in_front l.children.items (expanded_in_turn p (members_in (drop l.place l.members)) l.asked l.next) ≡ expanded_in_turn p (members_in l.members)
          l.fn.request l.fn.from;
      sites : l.sites.items ++ sites_in_turn p (own_sites p) (members_in (drop l.place l.members)) l.next ≡ l.fn.sites.items
          ++ sites_in_turn p (own_sites p) (members_in l.members) l.fn.from;
      size : l.next + turn_size p (members_in (drop l.place l.members)) ≡ l.fn.from + turn_size p (members_in l.members);
      answer : turn_answer p (members_in (drop l.place l.members)) l.next ≡ turn_answer p (members_in l.members) l.fn.from;
      formed : AreProcesses l.program.channels l.program.vars (members_in (drop l.place l.members));
      low : l.fn.from ≤ l.next;
    }

abbrev pub invariant-parallel-loop-branch : goal.invariant-parallel-loop-branch
invariant-parallel-loop-branch l =
    let p = program_of l.program in
    record {
      children : in_front l.children.items (expanded_branches p (members_in (drop l.branch-index l.branches)) l.next) ≡
          expanded_branches p (members_in l.branches) l.fn.from;
      sites : l.sites.items ++ sites_in_branches p (own_sites p) (members_in (drop l.branch-index l.branches)) l.next ≡ l.fn.sites.items
          ++ sites_in_branches p (own_sites p) (members_in l.branches) l.fn.from;
      size : l.next + branches_size p (members_in (drop l.branch-index l.branches)) ≡ l.fn.from + branches_size p (members_in l.branches);
      formed : AreProcesses l.program.channels l.program.vars (members_in (drop l.branch-index l.branches));
    }

abbrev pub invariant-selection-loop-arm : goal.invariant-selection-loop-arm
invariant-selection-loop-arm l =
    let p = program_of l.program in
    let own = own_before l.fn.again in
    let choices = choices_in l.arms in
    record {
      children : in_front l.children.items (expanded_bodies p (choices_in (drop l.arm-index l.arms)) l.start l.next) ≡
          expanded_bodies p choices (l.fn.from + own + choice_count choices) (bodies_from choices own l.fn.from);
      sites : l.sites.items ++ sites_in_bodies p (own_sites p) (choices_in (drop l.arm-index l.arms)) l.next ≡ l.fn.sites.items
          ++ sites_in_bodies p (own_sites p) choices (bodies_from choices own l.fn.from);
      size : l.next + bodies_size p (choices_in (drop l.arm-index l.arms)) ≡ l.fn.from + size_of p (choosing l.fn.again choices);
      starts : l.start + (length l.arms - l.arm-index) ≤ l.fn.from + size_of p (choosing l.fn.again choices);
      formed : AreChoices l.program.channels l.program.vars (choices_in (drop l.arm-index l.arms));
    }
