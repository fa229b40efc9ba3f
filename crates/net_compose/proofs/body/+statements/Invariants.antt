use Rattle.width_check.specs.View.{members_in, choices_in}
use Rattle.std.proofs.Common.{◌≡◌, ◌+◌, ◌-◌, ◌<◌, ◌≤◌, ◌++◌, length, drop}
use Rattle.width_check.specs.Processes.{choosing}
use Rattle.width_check.specs.Typed.{program_of}
use Rattle.width_check.specs.Typing.{AreProcesses, AreChoices}
use Rattle.handshake_expand.specs.Layout.{size_of, turn_size, branches_size, bodies_size}
use Rattle.handshake_expand.specs.Answers.{turn_answer, bodies_from}
use Rattle.handshake_expand.specs.PartTree.{own_before}
use Rattle.net_compose.specs.Contacts.{every_contact}
use Rattle.handshake_expand.specs.Sites.{sites_in_turn, sites_in_branches, sites_in_bodies}
use Rattle.net_compose.specs.Translation.{rules_of, turn_rules, branches_rules, bodies_rules, branch_ends, branch_answers, hidden_high}
use Rattle.net_compose.proofs.BodyDriven.{with_joined}
use Rattle.net_compose.proofs.Raised.{with_raised}
use Rattle.net_compose.proofs.body.+statements.Given as goal

abbrev pub invariant-sequence-loop-place : goal.invariant-sequence-loop-place
invariant-sequence-loop-place l =
    let p = program_of l.program in
    let behind = members_in (drop l.place l.members) in
    record {
      made : l.drivers.items ++ turn_rules p behind l.asked l.next ≡ l.fn.drivers.items
          ++ turn_rules p (members_in l.members) l.fn.request l.fn.from;
      contacts : l.contacts.items ++ sites_in_turn p (every_contact p) behind l.next ≡ l.fn.contacts.items ++ sites_in_turn p (every_contact p)
          (members_in l.members) l.fn.from;
      first : with_raised l.first (sites_in_turn p (hidden_high p) behind l.next) ≡ with_raised l.fn.first
          (sites_in_turn p (hidden_high p) (members_in l.members) l.fn.from);
      values : length l.first ≡ length l.fn.first;
      size : l.next + turn_size p behind ≡ l.fn.from + turn_size p (members_in l.members);
      formed : AreProcesses l.program.channels l.program.vars behind;
      low : l.fn.from ≤ l.next;
      answer : turn_answer p behind l.next ≡ turn_answer p (members_in l.members) l.fn.from;
    }

abbrev pub invariant-parallel-loop-branch : goal.invariant-parallel-loop-branch
invariant-parallel-loop-branch l =
    let p = program_of l.program in
    let behind = members_in (drop l.branch-index l.branches) in
    record {
      made : l.drivers.items ++ branches_rules p behind l.request l.next ≡ l.fn.drivers.items
          ++ branches_rules p (members_in l.branches) l.request l.fn.from;
      contacts : l.contacts.items ++ sites_in_branches p (every_contact p) behind l.next ≡ l.fn.contacts.items ++ sites_in_branches p
          (every_contact p) (members_in l.branches) l.fn.from;
      first : with_raised l.first (sites_in_branches p (hidden_high p) behind l.next) ≡ with_raised l.fn.first
          (sites_in_branches p (hidden_high p) (members_in l.branches) l.fn.from);
      ends : l.ends.items ++ branch_ends p behind l.next ≡ branch_ends p (members_in l.branches) l.fn.from;
      values : length l.first ≡ length l.fn.first;
      size : l.next + branches_size p behind ≡ l.fn.from + branches_size p (members_in l.branches);
      formed : AreProcesses l.program.channels l.program.vars behind;
      low : l.fn.from ≤ l.next;
    }

abbrev pub invariant-selection-loop-arm : goal.invariant-selection-loop-arm
invariant-selection-loop-arm l =
    let p = program_of l.program in
    let choices = choices_in l.arms in
    let behind = choices_in (drop l.arm-index l.arms) in
    let bodies = bodies_from choices (own_before l.again) l.fn.from in
    record {
      made : with_joined p l.again choices l.fn.from (length l.fn.drivers.items) l.drivers.items ++ bodies_rules p behind l.start l.next ≡ l.fn.drivers.items
          ++ rules_of p (choosing l.again choices) l.request l.fn.from;
      contacts : l.contacts.items ++ sites_in_bodies p (every_contact p) behind l.next ≡ l.fn.contacts.items ++ sites_in_bodies p
          (every_contact p) choices bodies;
      first : with_raised l.first (sites_in_bodies p (hidden_high p) behind l.next) ≡ with_raised l.fn.first
          (sites_in_bodies p (hidden_high p) choices bodies);
      values : length l.first ≡ length l.fn.first;
      size : l.next + bodies_size p behind ≡ l.fn.from + size_of p (choosing l.again choices);
      formed : AreChoices l.program.channels l.program.vars behind;
      low : l.fn.from ≤ l.next;
      starts : l.start + (length l.arms - l.arm-index) ≤ l.next;
      answers : l.answers.items ++ branch_answers p behind l.next ≡ branch_answers p choices bodies;
      within : length l.fn.drivers.items + 2 < length l.drivers.items;
    }
