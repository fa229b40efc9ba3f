use Rattle.std.proofs.Common.{◌≡◌, ◌+◌, ◌-◌, ◌<◌, ◌≤◌, List, ℕ, [], ◌∷◌, ◌++◌, length, get_or, drop, refl, sym, ap, ◌∙◌, subst, rules, arith}
use Rattle.std.specs.Prelude.{Bool, slice_set, if◌then◌else◌}
use Rattle.std.proofs.lemmas.List.{get_or_read, append-nil, length-append}
use Rattle.prs_core.specs.Nets.{NodeRules}
use Rattle.prs_core.specs.Pairs.{no_rules}
use Rattle.std.specs.declared.alloc.Global.{Global}
use Rattle.std.specs.declared.vec.Vec.{Vec}
use Rattle.width_check.specs.declared.typed.TArm.{TArm}
use Rattle.width_check.specs.declared.typed.TStmt.{TStmt, Then, Beside, Select, the_lemmas}
use Rattle.width_check.specs.Processes.{Process, assigning, sending, receiving, in_turn, side_by_side, Processes, choosing, repeating, choice_count, TypedProgram}
use Rattle.width_check.specs.Typed.{program_of}
use Rattle.width_check.specs.Typing.{IsProcess}
use Rattle.width_check.specs.View.{formula_of, process_of, members_in, choices_in}
use Rattle.handshake_expand.specs.Layout.{size_of, branches_size, root_request}
use Rattle.handshake_expand.specs.Answers.{answer_of, turn_answer, bodies_from}
use Rattle.handshake_expand.specs.PartTree.{own_before}
use Rattle.handshake_expand.proofs.Branches.{branch_size_here, branch_size_end, body_size_here, arm_typed, choosing_size, sites_more, sites_done}
use Rattle.handshake_expand.proofs.Rows.{then_is, beside_is, select_is, members_counted, arms_counted}
use Rattle.handshake_expand.proofs.Turns.{this_typed, size_here, size_last, answer_here, answer_last}
use Rattle.handshake_expand.specs.Sites.{sites_in, sites_in_turn, sites_in_branches, sites_in_bodies}
use Rattle.cell_sequence.specs.Sequence.{loop_request}
use Rattle.cell_parallel.specs.Trees.{tree_rules}
use Rattle.cell_select.specs.Selections.{joined_answer}
use Rattle.net_compose.specs.Contacts.{every_contact}
use Rattle.net_compose.specs.Translation.{branch_ends, branch_answers, branches_end, branches_rules, bodies_rules, q_rules, turn_rules, rules_of, hidden_high}
use Rattle.net_compose.proofs.BodyDriven.{two_on, element_answered, element_counted, element_within, loop_answered, with_joined, joined_more, own_some, choice_left, choice_counted}
use Rattle.net_compose.proofs.BodyWritten.{raised_more, raised_done, on_ok, if_ok, given}
use Rattle.net_compose.proofs.FlatRules.{length-branch_ends, branches_end_is}
use Rattle.net_compose.proofs.Raised.{with_raised}
use Rattle.net_compose.proofs.RulesInTurn.{turn_rules_here, turn_rules_last, branch_rules_here, branch_rules_end, body_rules_here, body_rules_end, body_answers_here, body_answers_end, turn_sites_here, turn_sites_last, branch_sites_here, branch_sites_end, branch_ends_here, branch_ends_end, body_sites_here, body_sites_end, choosing_sites}
use Rattle.net_compose.proofs.body.+statements.Goals as goal

-- sequences

pub sequence-statement-requires : goal.sequence-statement-requires
sequence-statement-requires t c =
    let p = program_of c.args.program.now in
    let next = c.loop-place.next in
    let s = process_of c.index-members-place.result in
    let size = size_here p c.args.members.now c.loop-place.place _ c.index-members-place.is (omega arith) in
    let typed = (this_typed _ _ c.args.members.now c.loop-place.place _ c.index-members-place.is (omega arith) c.loop-place.invariant.formed).0 in
    let root : root_request p ≤ next + 3 = omega (arith, c.requires.root, c.loop-place.invariant.low) in
    let room : next + 3 + size_of p s ≤ length c.loop-place.first =
    omega (arith, size, c.loop-place.invariant.size, c.loop-place.invariant.values, c.requires.own) in
    let few : length c.loop-place.first ≤ 65536 = omega (arith, c.loop-place.invariant.values, c.requires.few) in
    (search (rules, the_lemmas, get_or_read), (c.requires.channels, (c.requires.vars, (typed, (root, (room, few))))))

pub sequence-close_element-requires : goal.sequence-close_element-requires
sequence-close_element-requires t c = element_within c.loop-place.drivers.items c.begin_element.new.drivers.items c.statement.new.drivers.items _ _ _
    (c.len-begun.ensures ∙ c.loop-place.drivers.ok.0) c.in_ok-begin_element.ensures refl c.in_ok-answer.ensures.made

pub sequence-loop-place-preserved : goal.sequence-loop-place-preserved
sequence-loop-place-preserved t c =
    let p = program_of c.args.program.now in
    let members = c.args.members.now in
    let i = c.loop-place.place in
    let m = c.index-members-place.result in
    let s = process_of m in
    let at = c.index-members-place.is in
    let next = c.loop-place.next in
    let asked = c.loop-place.asked in
    let behind = members_in (drop (i + 1) members) in
    let within : i + 1 < length members = omega arith in
    let size = size_here p members i m at within in
    let typed = this_typed _ _ members i m at (omega (arith, within)) c.loop-place.invariant.formed in
    let counted = c.statements_counted.ensures.statements p s next (next + 3) typed.0 in
    let here = element_answered c.loop-place.drivers.items c.begin_element.new.drivers.items c.statement.new.drivers.items c.close_element.new.drivers.items
    _ _ _ _ _ (c.len-begun.ensures ∙ c.loop-place.drivers.ok.0) c.in_ok-begin_element.ensures c.in_ok-answer.ensures.made c.close_element.ensures in
    let all = element_counted c.loop-place.drivers.items c.begin_element.new.drivers.items c.statement.new.drivers.items c.close_element.new.drivers.items
    _ _ _ _ _ (c.len-begun.ensures ∙ c.loop-place.drivers.ok.0) c.in_ok-begin_element.ensures c.in_ok-answer.ensures.made c.close_element.ensures in
    let step : next + (c.len.result - c.len-begun.result) ≡ next + 3 + size_of p s = omega (arith, counted, all, c.len-begun.ensures, c.len.ensures) in
    record {
      made = sites_more c.loop-place.drivers.items c.close_element.new.drivers.items
          (q_rules asked c.in_ok-answer.answer next ++ rules_of p s next (next + 3))
          (turn_rules p behind (next + 2) (next + (c.len.result - c.len-begun.result))) _ _ here
          (turn_rules_here p members i m at asked next within
          ∙ (ap (λ a. q_rules asked a next ++ (rules_of p s next (next + 3) ++ turn_rules p behind (next + 2) (next + 3 + size_of p s)))
          (sym c.in_ok-answer.ensures.answer)
          ∙ ap (λ n. q_rules asked c.in_ok-answer.answer next ++ (rules_of p s next (next + 3) ++ turn_rules p behind (next + 2) n)) (sym step)))
          c.loop-place.invariant.made;
      contacts = sites_more c.loop-place.contacts.items _ (sites_in p (every_contact p) s (next + 3)) _ _ _ c.in_ok-answer.ensures.contacts
          (turn_sites_here p members i m at (every_contact p) next within ∙ ap
          (λ n. sites_in p (every_contact p) s (next + 3) ++ sites_in_turn p (every_contact p) behind n) (sym step))
          c.loop-place.invariant.contacts;
      first = raised_more c.loop-place.first _ _ (sites_in p (hidden_high p) s (next + 3)) _ _ c.in_ok-answer.ensures.first
          (turn_sites_here p members i m at (hidden_high p) next within ∙ ap
          (λ n. sites_in p (hidden_high p) s (next + 3) ++ sites_in_turn p (hidden_high p) behind n) (sym step))
          c.loop-place.invariant.first;
      values = omega (arith, c.statement.ensures.count, c.loop-place.invariant.values);
      size = omega (arith, size, step, c.loop-place.invariant.size);
      formed = typed.1;
      low = omega (arith, c.loop-place.invariant.low);
      answer = ap (turn_answer p behind) step ∙ (sym (answer_here p members i m at next within) ∙ c.loop-place.invariant.answer);
    }

pub sequence-statement-requires-2 : goal.sequence-statement-requires-2
sequence-statement-requires-2 t c =
    let p = program_of c.args.program.now in
    let members = c.args.members.now in
    let i = c.loop-place.place in
    let m = c.index-members-last.result in
    let end : length members - 1 ≡ i = omega arith in
    let whole : i + 1 ≡ length members = omega (arith, end, c.requires.process.0, members_counted members) in
    let at : m ≡ get_or members i m = c.index-members-last.is ∙ ap (λ n. get_or members n m) end in
    let size = size_last p members i m at whole in
    let typed = (this_typed _ _ members i m at (omega (arith, whole)) c.loop-place.invariant.formed).0 in
    let root : root_request p ≤ c.loop-place.next = omega (arith, c.requires.root, c.loop-place.invariant.low) in
    let room : c.loop-place.next + size_of p (process_of m) ≤ length c.loop-place.first =
    omega (arith, size, c.loop-place.invariant.size, c.loop-place.invariant.values, c.requires.own) in
    let few : length c.loop-place.first ≤ 65536 = omega (arith, c.loop-place.invariant.values, c.requires.few) in
    (search (rules, the_lemmas, get_or_read), (c.requires.channels, (c.requires.vars, (typed, (root, (room, few))))))

pub sequence-returns : goal.sequence-returns
sequence-returns t c =
    let p = program_of c.args.program.now in
    let members = c.args.members.now in
    let i = c.loop-place.place in
    let m = c.index-members-last.result in
    let next = c.loop-place.next in
    let end : length members - 1 ≡ i = omega arith in
    let whole : i + 1 ≡ length members = omega (arith, end, c.requires.process.0, members_counted members) in
    let at : m ≡ get_or members i m = c.index-members-last.is ∙ ap (λ n. get_or members n m) end in
    let before = c.loop-place.invariant in
    record {
      made = on_ok c.statement-2.result (λ f. f ∙ (ap (λ rs. c.loop-place.drivers.items ++ rs)
          (sym (turn_rules_last p members i m at c.loop-place.asked next whole)) ∙ before.made)) c.statement-2.ensures.made;
      answer = if_ok c.statement-2.result _ _ (λ v f. f ∙ (sym (answer_last p members i m at next whole) ∙ before.answer)) c.statement-2.ensures.answer;
      contacts = on_ok c.statement-2.result (λ f. f ∙ (ap (λ xs. c.loop-place.contacts.items ++ xs)
          (sym (turn_sites_last p members i m at (every_contact p) next whole)) ∙ before.contacts)) c.statement-2.ensures.contacts;
      first = on_ok c.statement-2.result (λ f. f ∙ (ap (with_raised c.loop-place.first) (sym (turn_sites_last p members i m at (hidden_high p) next whole))
          ∙ before.first)) c.statement-2.ensures.first;
      count = c.statement-2.ensures.count ∙ before.values;
    }

-- parallel compositions

pub parallel-loop-branch-init : goal.parallel-loop-branch-init
parallel-loop-branch-init t c =
    record {
      made = refl;
      contacts = refl;
      first = refl;
      ends = ap (λ ns. ns ++ branch_ends (program_of c.args.program.now) (members_in c.args.branches.now) c.args.from) c.new-ends.ensures.items;
      values = refl;
      size = refl;
      formed = c.requires.process.1;
      low = omega arith;
    }

pub parallel-statement-requires : goal.parallel-statement-requires
parallel-statement-requires t c =
    let p = program_of c.args.program.now in
    let next = c.loop-branch.next in
    let s = process_of c.branch-item.result in
    let size = branch_size_here p c.args.branches.now c.loop-branch.branch-index _ c.loop-branch-test.true c.branch-item.is in
    let typed = (this_typed _ _ c.args.branches.now c.loop-branch.branch-index _ c.branch-item.is c.loop-branch-test.true c.loop-branch.invariant.formed).0 in
    let root : root_request p ≤ next + 3 = omega (arith, c.requires.root, c.loop-branch.invariant.low) in
    let room : next + 3 + size_of p s ≤ length c.loop-branch.first =
    omega (arith, size, c.loop-branch.invariant.size, c.loop-branch.invariant.values, c.requires.own) in
    let few : length c.loop-branch.first ≤ 65536 = omega (arith, c.loop-branch.invariant.values, c.requires.few) in
    (search (rules, the_lemmas, get_or_read), (c.requires.channels, (c.requires.vars, (typed, (root, (room, few))))))

pub parallel-close_element-requires : goal.parallel-close_element-requires
parallel-close_element-requires t c = element_within c.loop-branch.drivers.items c.begin_element.new.drivers.items c.statement.new.drivers.items _ _ _
    (c.len-begun.ensures ∙ c.loop-branch.drivers.ok.0) c.in_ok-begin_element.ensures refl c.in_ok-answer.ensures.made

pub parallel-loop-branch-preserved : goal.parallel-loop-branch-preserved
parallel-loop-branch-preserved t c =
    let p = program_of c.args.program.now in
    let branches = c.args.branches.now in
    let i = c.loop-branch.branch-index in
    let b = c.branch-item.result in
    let s = process_of b in
    let at = c.branch-item.is in
    let within = c.loop-branch-test.true in
    let request = c.args.request in
    let next = c.loop-branch.next in
    let behind = members_in (drop (i + 1) branches) in
    let size = branch_size_here p branches i b within at in
    let typed = this_typed _ _ branches i b at within c.loop-branch.invariant.formed in
    let counted = c.statements_counted.ensures.statements p s next (next + 3) typed.0 in
    let here = element_answered c.loop-branch.drivers.items c.begin_element.new.drivers.items c.statement.new.drivers.items c.close_element.new.drivers.items
    _ _ _ _ _ (c.len-begun.ensures ∙ c.loop-branch.drivers.ok.0) c.in_ok-begin_element.ensures c.in_ok-answer.ensures.made c.close_element.ensures in
    let all = element_counted c.loop-branch.drivers.items c.begin_element.new.drivers.items c.statement.new.drivers.items c.close_element.new.drivers.items
    _ _ _ _ _ (c.len-begun.ensures ∙ c.loop-branch.drivers.ok.0) c.in_ok-begin_element.ensures c.in_ok-answer.ensures.made c.close_element.ensures in
    let step : next + (c.len.result - c.len-begun.result) ≡ next + 3 + size_of p s = omega (arith, counted, all, c.len-begun.ensures, c.len.ensures) in
    record {
      made = sites_more c.loop-branch.drivers.items c.close_element.new.drivers.items
          (q_rules request c.in_ok-answer.answer next ++ rules_of p s next (next + 3))
          (branches_rules p behind request (next + (c.len.result - c.len-begun.result))) _ _ here
          (branch_rules_here p branches i b within at request next
          ∙ (ap (λ a. q_rules request a next ++ (rules_of p s next (next + 3) ++ branches_rules p behind request (next + 3 + size_of p s)))
          (sym c.in_ok-answer.ensures.answer)
          ∙ ap (λ n. q_rules request c.in_ok-answer.answer next ++ (rules_of p s next (next + 3) ++ branches_rules p behind request n)) (sym step)))
          c.loop-branch.invariant.made;
      contacts = sites_more c.loop-branch.contacts.items _ (sites_in p (every_contact p) s (next + 3)) _ _ _ c.in_ok-answer.ensures.contacts
          (branch_sites_here p branches i b within at (every_contact p) next
          ∙ ap (λ n. sites_in p (every_contact p) s (next + 3) ++ sites_in_branches p (every_contact p) behind n) (sym step))
          c.loop-branch.invariant.contacts;
      first = raised_more c.loop-branch.first _ _ (sites_in p (hidden_high p) s (next + 3)) _ _ c.in_ok-answer.ensures.first
          (branch_sites_here p branches i b within at (hidden_high p) next
          ∙ ap (λ n. sites_in p (hidden_high p) s (next + 3) ++ sites_in_branches p (hidden_high p) behind n) (sym step))
          c.loop-branch.invariant.first;
      ends = sites_more c.loop-branch.ends.items _ ((next + 2) ∷ []) _ _ _ c.in_ok-push.ensures.items
          (branch_ends_here p branches i b within at next ∙ ap (λ n. (next + 2) ∷ branch_ends p behind n) (sym step))
          c.loop-branch.invariant.ends;
      values = omega (arith, c.statement.ensures.count, c.loop-branch.invariant.values);
      size = omega (arith, size, step, c.loop-branch.invariant.size);
      formed = typed.1;
      low = omega (arith, c.loop-branch.invariant.low);
    }

ends_are : (p : TypedProgram) (branches : List TStmt) (i from next : ℕ) (ends nodes : List ℕ) → length branches ≤ i
    → ends ++ branch_ends p (members_in (drop i branches)) next ≡ branch_ends p (members_in branches) from → nodes ≡ ends
    → nodes ≡ branch_ends p (members_in branches) from
ends_are p branches i from next ends nodes over so_far is = is ∙ sites_done ends _ _ (branch_ends_end p branches i over next) so_far

pub parallel-tree-requires : goal.parallel-tree-requires
parallel-tree-requires t c =
    let p = program_of c.args.program.now in
    let ms = members_in c.args.branches.now in
    let are = ends_are p c.args.branches.now c.loop-branch.branch-index c.args.from c.loop-branch.next c.loop-branch.ends.items c.deref.result.now
    c.loop-branch-test.false c.loop-branch.invariant.ends c.deref.ensures.value in
    let end = branch_size_end p c.args.branches.now c.loop-branch.branch-index c.loop-branch-test.false in
    omega (
      arith,
      ap length are,
      length-branch_ends p ms c.args.from,
      end,
      c.loop-branch.invariant.size,
      c.requires.process.0,
      c.requires.own,
      c.requires.few,
    )

-- all branches are written, and the tree behind them
parallel_made : (p : TypedProgram) (branches : List TStmt) (i request from next : ℕ) (old now new : List NodeRules) (ends nodes : List ℕ) → length branches ≤ i
    → ends ++ branch_ends p (members_in (drop i branches)) next ≡ branch_ends p (members_in branches) from → nodes ≡ ends
    → next + branches_size p (members_in (drop i branches)) ≡ from + branches_size p (members_in branches)
    → now ++ branches_rules p (members_in (drop i branches)) request next ≡ old ++ branches_rules p (members_in branches) request from
    → new ≡ now ++ tree_rules nodes next → new ≡ old ++ rules_of p (side_by_side (members_in branches)) request from
parallel_made p branches i request from next old now new ends nodes over ended is sized so_far made =
    let ms = members_in branches in
    let size = branch_size_end p branches i over in
    let are = ends_are p branches i from next ends nodes over ended is in
    let end : next ≡ branches_end p ms from = omega (arith, size, sized, branches_end_is p ms from) in
    two_on old now new (branches_rules p ms request from) _ (sites_done now _ _ (branch_rules_end p branches i over request next) so_far)
    (made ∙ (ap (λ es. now ++ tree_rules es next) are ∙ ap (λ n. now ++ tree_rules (branch_ends p ms from) n) end))

-- so they are as many as the layout counts, which is more than one
parallel_counted : (p : TypedProgram) (ms : Processes) (request from : ℕ) (old new : List NodeRules)
    → length (rules_of p (side_by_side ms) request from) ≡ size_of p (side_by_side ms) → new ≡ old ++ rules_of p (side_by_side ms) request from
    → length new ≡ length old + size_of p (side_by_side ms)
parallel_counted p ms request from old new counted made = omega (arith, ap length made, length-append old (rules_of p (side_by_side ms) request from), counted)

pub parallel-overflow_cast-count : goal.parallel-overflow_cast-count
parallel-overflow_cast-count t c =
    let p = program_of c.args.program.now in
    let ms = members_in c.args.branches.now in
    let made = parallel_made p c.args.branches.now c.loop-branch.branch-index c.args.request c.args.from
    c.loop-branch.next c.args.drivers.now.items c.loop-branch.drivers.items c.tree.new.drivers.items c.loop-branch.ends.items c.deref.result.now
    c.loop-branch-test.false c.loop-branch.invariant.ends c.deref.ensures.value c.loop-branch.invariant.size c.loop-branch.invariant.made
    c.in_ok-tree.ensures in
    let all = parallel_counted p ms c.args.request c.args.from c.args.drivers.now.items c.tree.new.drivers.items
    (c.statements_counted.ensures.statements p (side_by_side ms) c.args.request c.args.from c.requires.process) made in
    omega (arith, all, c.len-whole.ensures, c.len-2.ensures, c.requires.own, c.requires.few)

pub parallel-overflow_add-result : goal.parallel-overflow_add-result
parallel-overflow_add-result t c =
    let p = program_of c.args.program.now in
    let ms = members_in c.args.branches.now in
    let made = parallel_made p c.args.branches.now c.loop-branch.branch-index c.args.request c.args.from
    c.loop-branch.next c.args.drivers.now.items c.loop-branch.drivers.items c.tree.new.drivers.items c.loop-branch.ends.items c.deref.result.now
    c.loop-branch-test.false c.loop-branch.invariant.ends c.deref.ensures.value c.loop-branch.invariant.size c.loop-branch.invariant.made
    c.in_ok-tree.ensures in
    let all = parallel_counted p ms c.args.request c.args.from c.args.drivers.now.items c.tree.new.drivers.items
    (c.statements_counted.ensures.statements p (side_by_side ms) c.args.request c.args.from c.requires.process) made in
    omega (arith, all, c.len-whole.ensures, c.len-2.ensures, c.requires.own, c.requires.few)

pub parallel-returns : goal.parallel-returns
parallel-returns t c =
    let p = program_of c.args.program.now in
    let branches = c.args.branches.now in
    let i = c.loop-branch.branch-index in
    let next = c.loop-branch.next in
    let over = c.loop-branch-test.false in
    let before = c.loop-branch.invariant in
    let made = parallel_made p branches i c.args.request c.args.from next c.args.drivers.now.items c.loop-branch.drivers.items c.tree.new.drivers.items
    c.loop-branch.ends.items c.deref.result.now over before.ends c.deref.ensures.value before.size before.made c.in_ok-tree.ensures in
    let all = parallel_counted p (members_in branches) c.args.request c.args.from c.args.drivers.now.items c.tree.new.drivers.items
    (c.statements_counted.ensures.statements p (side_by_side (members_in branches)) c.args.request c.args.from c.requires.process) made in
    record {
      made = made;
      answer = omega (arith, all, c.len-whole.ensures, c.len-2.ensures);
      contacts = sites_done c.loop-branch.contacts.items _ _ (branch_sites_end p branches i over (every_contact p) next) before.contacts;
      first = raised_done c.loop-branch.first _ _ (branch_sites_end p branches i over (hidden_high p) next) before.first;
      count = before.values;
    }

-- selections

pub selection-overflow_cast-start : goal.selection-overflow_cast-start
selection-overflow_cast-start t c = omega (arith, c.requires.process.1, arms_counted c.args.arms.now)

pub selection-overflow_add-start-2 : goal.selection-overflow_add-start-2
selection-overflow_add-start-2 t c =
    omega (
      arith,
      choosing_size (program_of c.args.program.now) c.args.again (choices_in c.args.arms.now),
      arms_counted c.args.arms.now,
      c.own_nodes.ensures,
      c.requires.own,
      c.requires.few,
    )

pub selection-overflow_cast-next : goal.selection-overflow_cast-next
selection-overflow_cast-next t c =
    let p = program_of c.args.program.now in
    let cs = choices_in c.args.arms.now in
    let all = choice_counted p c.args.again cs c.args.request c.args.from c.args.drivers.now.items c.choice.new.drivers.items
    c.in_ok-choice.ensures.once c.in_ok-choice.ensures.repeated
    (c.statements_counted.ensures.statements p (choosing c.args.again cs) c.args.request c.args.from c.requires.process)
    (c.statements_counted.ensures.bodies p cs _ _ c.requires.process.2) in
    omega (arith, all, choosing_size p c.args.again cs, c.len-whole.ensures, c.len.ensures, c.requires.own, c.requires.few)

pub selection-overflow_add-next : goal.selection-overflow_add-next
selection-overflow_add-next t c =
    let p = program_of c.args.program.now in
    let cs = choices_in c.args.arms.now in
    let all = choice_counted p c.args.again cs c.args.request c.args.from c.args.drivers.now.items c.choice.new.drivers.items
    c.in_ok-choice.ensures.once c.in_ok-choice.ensures.repeated
    (c.statements_counted.ensures.statements p (choosing c.args.again cs) c.args.request c.args.from c.requires.process)
    (c.statements_counted.ensures.bodies p cs _ _ c.requires.process.2) in
    omega (arith, all, choosing_size p c.args.again cs, c.len-whole.ensures, c.len.ensures, c.requires.own, c.requires.few)

pub selection-loop-arm-init : goal.selection-loop-arm-init
selection-loop-arm-init t c =
    let p = program_of c.args.program.now in
    let arms = c.args.arms.now in
    let choices = choices_in arms in
    let again = c.args.again in
    let from = c.args.from in
    let size = choosing_size p again choices in
    let all = choice_counted p again choices c.args.request from c.args.drivers.now.items c.choice.new.drivers.items
    c.in_ok-choice.ensures.once c.in_ok-choice.ensures.repeated
    (c.statements_counted.ensures.statements p (choosing again choices) c.args.request from c.requires.process)
    (c.statements_counted.ensures.bodies p choices _ _ c.requires.process.2) in
    let start : from + c.own_nodes.result + length arms ≡ from + own_before again + choice_count choices = omega
    (arith, arms_counted arms, c.own_nodes.ensures) in
    let next : from + (c.len.result - c.len-whole.result) ≡ bodies_from choices (own_before again) from = omega
    (arith, all, c.len-whole.ensures, c.len.ensures) in
    record {
      made = choice_left p again choices c.args.request from _ _ c.args.drivers.now.items c.choice.new.drivers.items start next
          c.in_ok-choice.ensures.once c.in_ok-choice.ensures.repeated;
      contacts = ap (λ n. c.args.contacts.now.items ++ sites_in_bodies p (every_contact p) choices n) next;
      first = ap (λ n. with_raised c.args.first.now (sites_in_bodies p (hidden_high p) choices n)) next;
      values = refl;
      size = omega (arith, size, next);
      formed = c.requires.process.2;
      low = omega (arith, next);
      starts = omega (arith, start, next, arms_counted arms);
      answers = ap (λ ns. ns ++ branch_answers p choices (from + (c.len.result - c.len-whole.result))) c.new-answers.ensures.items
          ∙ ap (branch_answers p choices) next;
      within = omega (arith, all, own_some again);
    }

pub selection-statement-requires : goal.selection-statement-requires
selection-statement-requires t c =
    let p = program_of c.args.program.now in
    let size = body_size_here p c.args.arms.now c.loop-arm.arm-index _ c.loop-arm-test.true c.arm-item.is in
    let typed = (arm_typed p c.args.arms.now c.loop-arm.arm-index _ c.loop-arm-test.true c.arm-item.is _ _ c.loop-arm.invariant.formed).0 in
    let root : root_request p ≤ c.loop-arm.next = omega (arith, c.requires.root, c.loop-arm.invariant.low) in
    let room : c.loop-arm.next + size_of p (process_of c.arm-item.result.body) ≤ length c.loop-arm.first =
    omega (arith, size, c.loop-arm.invariant.size, c.loop-arm.invariant.values, c.requires.own) in
    let few : length c.loop-arm.first ≤ 65536 = omega (arith, c.loop-arm.invariant.values, c.requires.few) in
    (search (rules, the_lemmas, get_or_read), (c.requires.channels, (c.requires.vars, (typed, (root, (room, few))))))

pub selection-overflow_add-start-in-loop-arm : goal.selection-overflow_add-start-in-loop-arm
selection-overflow_add-start-in-loop-arm t c =
    let p = program_of c.args.program.now in
    let size = body_size_here p c.args.arms.now c.loop-arm.arm-index _ c.loop-arm-test.true c.arm-item.is in
    omega (
      arith,
      size,
      c.loop-arm.invariant.starts,
      c.loop-arm-test.true,
      c.loop-arm.invariant.size,
      c.requires.own,
      c.requires.few,
    )

-- a body is written
body_counted : (p : TypedProgram) (s : Process) (start next : ℕ) (now new : List NodeRules) → length (rules_of p s start next) ≡ size_of p s
    → new ≡ now ++ rules_of p s start next → length new ≡ length now + size_of p s
body_counted p s start next now new counted made = omega (arith, ap length made, length-append now (rules_of p s start next), counted)

pub selection-overflow_add-next-in-loop-arm : goal.selection-overflow_add-next-in-loop-arm
selection-overflow_add-next-in-loop-arm t c =
    let p = program_of c.args.program.now in
    let s = process_of c.arm-item.result.body in
    let size = body_size_here p c.args.arms.now c.loop-arm.arm-index _ c.loop-arm-test.true c.arm-item.is in
    let typed = (arm_typed p c.args.arms.now c.loop-arm.arm-index _ c.loop-arm-test.true c.arm-item.is _ _ c.loop-arm.invariant.formed).0 in
    let all = body_counted p s c.loop-arm.start c.loop-arm.next c.loop-arm.drivers.items c.statement.new.drivers.items
    (c.statements_counted.ensures.statements p s c.loop-arm.start c.loop-arm.next typed) c.in_ok-answer.ensures.made in
    omega (arith, size, all, c.len-begun.ensures, c.len-in-loop-arm.ensures, c.loop-arm.invariant.size, c.requires.own, c.requires.few)

pub selection-loop-arm-preserved : goal.selection-loop-arm-preserved
selection-loop-arm-preserved t c =
    let p = program_of c.args.program.now in
    let arms = c.args.arms.now in
    let i = c.loop-arm.arm-index in
    let a = c.arm-item.result in
    let s = process_of a.body in
    let at = c.arm-item.is in
    let within = c.loop-arm-test.true in
    let start = c.loop-arm.start in
    let next = c.loop-arm.next in
    let behind = choices_in (drop (i + 1) arms) in
    let size = body_size_here p arms i a within at in
    let typed = arm_typed p arms i a within at _ _ c.loop-arm.invariant.formed in
    let all = body_counted p s start next c.loop-arm.drivers.items c.statement.new.drivers.items
    (c.statements_counted.ensures.statements p s start next typed.0) c.in_ok-answer.ensures.made in
    let step : next + (c.len-in-loop-arm.result - c.len-begun.result) ≡ next + size_of p s = omega
    (arith, all, c.len-begun.ensures, c.len-in-loop-arm.ensures) in
    record {
      made = sites_more (with_joined p c.args.again (choices_in arms) c.args.from (length c.args.drivers.now.items) c.loop-arm.drivers.items) _
          (rules_of p s start next) _ _ _
          (joined_more p c.args.again (choices_in arms) c.args.from (length c.args.drivers.now.items) c.loop-arm.drivers.items c.statement.new.drivers.items
          (rules_of p s start next) c.loop-arm.invariant.within c.in_ok-answer.ensures.made)
          (body_rules_here p arms i a within at start next ∙ ap (λ n. rules_of p s start next ++ bodies_rules p behind (start + 1) n) (sym step))
          c.loop-arm.invariant.made;
      contacts = sites_more c.loop-arm.contacts.items _ (sites_in p (every_contact p) s next) _ _ _ c.in_ok-answer.ensures.contacts
          (body_sites_here p arms i a within at (every_contact p) next ∙ ap (λ n. sites_in p (every_contact p) s next ++ sites_in_bodies p
          (every_contact p) behind n)
          (sym step))
          c.loop-arm.invariant.contacts;
      first = raised_more c.loop-arm.first _ _ (sites_in p (hidden_high p) s next) _ _ c.in_ok-answer.ensures.first
          (body_sites_here p arms i a within at (hidden_high p) next ∙ ap
          (λ n. sites_in p (hidden_high p) s next ++ sites_in_bodies p (hidden_high p) behind n) (sym step))
          c.loop-arm.invariant.first;
      values = omega (arith, c.statement.ensures.count, c.loop-arm.invariant.values);
      size = omega (arith, size, step, c.loop-arm.invariant.size);
      formed = typed.1;
      low = omega (arith, c.loop-arm.invariant.low);
      starts = omega (arith, c.loop-arm.invariant.starts, within);
      answers = sites_more c.loop-arm.answers.items _ (answer_of p s next ∷ []) _ _ _
          (c.in_ok-push.ensures.items ∙ ap (λ n. c.loop-arm.answers.items ++ n ∷ []) c.in_ok-answer.ensures.answer)
          (body_answers_here p arms i a within at next ∙ ap (λ n. answer_of p s next ∷ branch_answers p behind n) (sym step))
          c.loop-arm.invariant.answers;
      within = omega (arith, all, c.loop-arm.invariant.within);
    }

pub selection-join_answers-requires-clause-within : goal.selection-join_answers-requires-clause-within
selection-join_answers-requires-clause-within t c = omega (arith, c.len-whole.ensures, c.loop-arm.invariant.within)

pub selection-join_answers-requires-clause-room : goal.selection-join_answers-requires-clause-room
selection-join_answers-requires-clause-room t c =
    let p = program_of c.args.program.now in
    let cs = choices_in c.args.arms.now in
    omega (arith, choosing_size p c.args.again cs, c.requires.own, c.requires.few)

pub selection-returns-clause-made : goal.selection-returns-clause-made
selection-returns-clause-made t c =
    let p = program_of c.args.program.now in
    let arms = c.args.arms.now in
    let cs = choices_in arms in
    let again = c.args.again in
    let from = c.args.from in
    let answers = sites_done c.loop-arm.answers.items _ _ (body_answers_end p arms c.loop-arm.arm-index c.loop-arm-test.false c.loop-arm.next)
    c.loop-arm.invariant.answers in
    c.join_answers.ensures
    ∙ (ap (λ k. slice_set c.loop-arm.drivers.items (k + (if again then 2 else 0)) (joined_answer (from + (if again then 4 else 2)) c.loop-arm.answers.items))
    (c.len-whole.ensures ∙ c.args.drivers.now.ok.0)
    ∙ (ap (λ ns. slice_set c.loop-arm.drivers.items (length c.args.drivers.now.items + (if again then 2 else 0))
    (joined_answer (from + (if again then 4 else 2)) ns)) answers
    ∙ sites_done (with_joined p again cs from (length c.args.drivers.now.items) c.loop-arm.drivers.items) _ _
    (body_rules_end p arms c.loop-arm.arm-index c.loop-arm-test.false c.loop-arm.start c.loop-arm.next) c.loop-arm.invariant.made))

pub selection-returns-clause-contacts : goal.selection-returns-clause-contacts
selection-returns-clause-contacts t c =
    let p = program_of c.args.program.now in
    sites_done c.loop-arm.contacts.items _ _ (body_sites_end p c.args.arms.now c.loop-arm.arm-index c.loop-arm-test.false (every_contact p)
    c.loop-arm.next) c.loop-arm.invariant.contacts
    ∙ ap (λ xs. c.args.contacts.now.items ++ xs) (sym (choosing_sites p (every_contact p) c.args.again c.args.arms.now c.args.from))

pub selection-returns-clause-first : goal.selection-returns-clause-first
selection-returns-clause-first t c =
    let p = program_of c.args.program.now in
    raised_done c.loop-arm.first _ _ (body_sites_end p c.args.arms.now c.loop-arm.arm-index c.loop-arm-test.false (hidden_high p) c.loop-arm.next)
    c.loop-arm.invariant.first
    ∙ ap (with_raised c.args.first.now) (sym (choosing_sites p (hidden_high p) c.args.again c.args.arms.now c.args.from))

-- all statements: what one of several parts is, where its parts are lent

then_at : (s : TStmt) (v : Vec TStmt Global) (ms : List TStmt) → s ≡ Then v → ms ≡ v.items → process_of s ≡ in_turn (members_in ms)
then_at s v ms is lent = then_is s v is ∙ ap (λ xs. in_turn (members_in xs)) (sym lent)

beside_at : (s : TStmt) (v : Vec TStmt Global) (ms : List TStmt) → s ≡ Beside v → ms ≡ v.items → process_of s ≡ side_by_side (members_in ms)
beside_at s v ms is lent = beside_is s v is ∙ ap (λ xs. side_by_side (members_in xs)) (sym lent)

select_at : (s : TStmt) (again : Bool) (v : Vec TArm Global) (arms : List TArm) → s ≡ Select again v → arms ≡ v.items
    → process_of s ≡ choosing again (choices_in arms)
select_at s again v arms is lent = select_is s again v is ∙ ap (λ xs. choosing again (choices_in xs)) (sym lent)

pub statement-assign-requires-clause-within : goal.statement-assign-requires-clause-within
statement-assign-requires-clause-within t c =
    let p = program_of c.args.program.now in
    let is : process_of c.args.s.now ≡ assigning c.in-Assign.var c.in-Assign.at (formula_of c.in-Assign.value) = ap process_of c.in-Assign.is in
    (subst (IsProcess p.channels p.vars) is c.requires.process).0

pub statement-assign-requires-clause-width : goal.statement-assign-requires-clause-width
statement-assign-requires-clause-width t c =
    let p = program_of c.args.program.now in
    let is : process_of c.args.s.now ≡ assigning c.in-Assign.var c.in-Assign.at (formula_of c.in-Assign.value) = ap process_of c.in-Assign.is in
    (subst (IsProcess p.channels p.vars) is c.requires.process).1

pub statement-assign-requires-clause-own : goal.statement-assign-requires-clause-own
statement-assign-requires-clause-own t c =
    let p = program_of c.args.program.now in
    let is : process_of c.args.s.now ≡ assigning c.in-Assign.var c.in-Assign.at (formula_of c.in-Assign.value) = ap process_of c.in-Assign.is in
    omega (arith, ap (size_of p) is, c.requires.own, c.requires.few)

pub statement-returns-in-Assign : goal.statement-returns-in-Assign
statement-returns-in-Assign t c =
    let is = ap process_of c.in-Assign.is in
    let s = c.assign.ensures in
    record {
      made = rw is (on_ok c.assign.result (λ f. f c.in-Assign.at) s.made);
      answer = rw is (if_ok c.assign.result _ _ (λ v f. f c.in-Assign.at) s.answer);
      contacts = rw is s.contacts;
      first = rw is (on_ok c.assign.result (λ f. f c.in-Assign.at) s.first);
      count = s.count;
    }

pub statement-send-requires-clause-process : goal.statement-send-requires-clause-process
statement-send-requires-clause-process t c =
    let p = program_of c.args.program.now in
    let is : process_of c.args.s.now ≡ sending c.in-Send.chan c.in-Send.at (formula_of c.in-Send.value) = ap process_of c.in-Send.is in
    subst (IsProcess p.channels p.vars) is c.requires.process

pub statement-send-requires-clause-room : goal.statement-send-requires-clause-room
statement-send-requires-clause-room t c =
    let p = program_of c.args.program.now in
    let is : process_of c.args.s.now ≡ sending c.in-Send.chan c.in-Send.at (formula_of c.in-Send.value) = ap process_of c.in-Send.is in
    omega (arith, ap (size_of p) is, c.requires.own, c.requires.few)

pub statement-returns-in-Send : goal.statement-returns-in-Send
statement-returns-in-Send t c =
    let is = ap process_of c.in-Send.is in
    let s = c.send.ensures in
    record { made = rw is s.made; answer = rw is s.answer; contacts = rw is s.contacts; first = rw is (given c.send.result refl); count = refl }

pub statement-receive-requires-clause-process : goal.statement-receive-requires-clause-process
statement-receive-requires-clause-process t c =
    let p = program_of c.args.program.now in
    let is : process_of c.args.s.now ≡ receiving c.in-Receive.chan c.in-Receive.chan_at c.in-Receive.var c.in-Receive.var_at = ap process_of
    c.in-Receive.is in
    subst (IsProcess p.channels p.vars) is c.requires.process

pub statement-receive-requires-clause-room : goal.statement-receive-requires-clause-room
statement-receive-requires-clause-room t c =
    let p = program_of c.args.program.now in
    let is : process_of c.args.s.now ≡ receiving c.in-Receive.chan c.in-Receive.chan_at c.in-Receive.var c.in-Receive.var_at = ap process_of
    c.in-Receive.is in
    omega (arith, ap (size_of p) is, c.requires.own, c.requires.few)

pub statement-returns-in-Receive : goal.statement-returns-in-Receive
statement-returns-in-Receive t c =
    let is = ap process_of c.in-Receive.is in
    let s = c.receive.ensures in
    record { made = rw is s.made; answer = rw is s.answer; contacts = rw is s.contacts; first = rw is (given c.receive.result refl); count = refl }

pub statement-returns-in-Skip : goal.statement-returns-in-Skip
statement-returns-in-Skip t c =
    let is = ap process_of c.in-Skip.is in
    let s = c.skip.ensures in
    record {
      made = rw is s.made;
      answer = rw is s.answer;
      contacts = rw is (given c.skip.result (sym (append-nil c.args.contacts.now.items)));
      first = rw is (given c.skip.result refl);
      count = refl;
    }

pub statement-sequence-requires : goal.statement-sequence-requires
statement-sequence-requires t c =
    let p = program_of c.args.program.now in
    let is = then_at _ _ _ c.in-Then.is c.deref-in-Then.ensures.value in
    let typed = subst (IsProcess p.channels p.vars) is c.requires.process in
    let room : c.args.from + size_of p (in_turn (members_in c.deref-in-Then.result.now)) ≤ length c.args.first.now = omega
    (arith, ap (size_of p) is, c.requires.own) in
    (search (rules, the_lemmas, get_or_read), (c.requires.channels, (c.requires.vars, (typed, (c.requires.root, (room, c.requires.few))))))

pub statement-returns-in-Then : goal.statement-returns-in-Then
statement-returns-in-Then t c =
    let is = then_at _ _ _ c.in-Then.is c.deref-in-Then.ensures.value in
    let s = c.sequence.ensures in
    record { made = rw is s.made; answer = rw is s.answer; contacts = rw is s.contacts; first = rw is s.first; count = s.count }

pub statement-parallel-requires : goal.statement-parallel-requires
statement-parallel-requires t c =
    let p = program_of c.args.program.now in
    let is = beside_at _ _ _ c.in-Beside.is c.deref-in-Beside.ensures.value in
    let typed = subst (IsProcess p.channels p.vars) is c.requires.process in
    let room : c.args.from + size_of p (side_by_side (members_in c.deref-in-Beside.result.now)) ≤ length c.args.first.now = omega
    (arith, ap (size_of p) is, c.requires.own) in
    (search (rules, the_lemmas, get_or_read), (c.requires.channels, (c.requires.vars, (typed, (c.requires.root, (room, c.requires.few))))))

pub statement-returns-in-Beside : goal.statement-returns-in-Beside
statement-returns-in-Beside t c =
    let is = beside_at _ _ _ c.in-Beside.is c.deref-in-Beside.ensures.value in
    let s = c.parallel.ensures in
    record { made = rw is s.made; answer = rw is s.answer; contacts = rw is s.contacts; first = rw is s.first; count = s.count }

pub statement-selection-requires : goal.statement-selection-requires
statement-selection-requires t c =
    let p = program_of c.args.program.now in
    let is = select_at _ _ _ _ c.in-Select.is c.deref-in-Select.ensures.value in
    let typed = subst (IsProcess p.channels p.vars) is c.requires.process in
    let room : c.args.from + size_of p (choosing c.in-Select.again (choices_in c.deref-in-Select.result.now)) ≤ length c.args.first.now = omega
    (arith, ap (size_of p) is, c.requires.own) in
    (search (rules, the_lemmas, get_or_read), (c.requires.channels, (c.requires.vars, (typed, (c.requires.root, (room, c.requires.few))))))

pub statement-returns-in-Select : goal.statement-returns-in-Select
statement-returns-in-Select t c =
    let is = select_at _ _ _ _ c.in-Select.is c.deref-in-Select.ensures.value in
    let s = c.selection.ensures in
    record { made = rw is s.made; answer = rw is s.answer; contacts = rw is s.contacts; first = rw is s.first; count = s.count }

pub statement-statement-requires : goal.statement-statement-requires
statement-statement-requires t c =
    let p = program_of c.args.program.now in
    let s = process_of c.deref-in-Repeat.result.now in
    let from = c.args.from in
    let is : process_of c.args.s.now ≡ repeating s = ap process_of c.in-Repeat.is ∙ ap (λ b. repeating (process_of b)) (sym c.deref-in-Repeat.ensures) in
    let typed : IsProcess p.channels p.vars s = subst (IsProcess p.channels p.vars) is c.requires.process in
    let root : root_request p ≤ from + 2 = omega (arith, c.requires.root) in
    let room : from + 2 + size_of p s ≤ length c.args.first.now = omega (arith, ap (size_of p) is, c.requires.own) in
    (search (rules, the_lemmas, get_or_read), (c.requires.channels, (c.requires.vars, (typed, (root, (room, c.requires.few))))))

pub statement-close_loop-requires : goal.statement-close_loop-requires
statement-close_loop-requires t c = omega (
  arith,
  c.len-place.ensures,
  ap length c.in_ok-begin_loop-in-Repeat.ensures,
  length-append c.args.drivers.now.items (no_rules ∷ no_rules ∷ []),
  ap length c.in_ok-answer-in-Repeat.ensures.made,
  length-append c.begin_loop.new.drivers.items (rules_of (program_of c.args.program.now) (process_of c.deref-in-Repeat.result.now) (c.args.from + 1)
      (c.args.from + 2)),
)

pub statement-returns-in_ok-answer-in-Repeat : goal.statement-returns-in_ok-answer-in-Repeat
statement-returns-in_ok-answer-in-Repeat t c =
    let p = program_of c.args.program.now in
    let from = c.args.from in
    let s = process_of c.deref-in-Repeat.result.now in
    let is : process_of c.args.s.now ≡ repeating s = ap process_of c.in-Repeat.is ∙ ap (λ b. repeating (process_of b)) (sym c.deref-in-Repeat.ensures) in
    let body = c.in_ok-answer-in-Repeat.ensures in
    record {
      made = rw is (loop_answered c.args.drivers.now.items c.begin_loop.new.drivers.items c.statement.new.drivers.items c.close_loop.new.drivers.items
          (rules_of p s (from + 1) (from + 2)) c.len-place.result c.args.request c.in_ok-answer-in-Repeat.answer
          (c.len-place.ensures ∙ c.args.drivers.now.ok.0) c.in_ok-begin_loop-in-Repeat.ensures body.made c.close_loop.ensures
          ∙ ap (λ a. c.args.drivers.now.items ++ no_rules ∷ loop_request c.args.request a ∷ rules_of p s (from + 1) (from + 2)) body.answer);
      answer = rw is refl;
      contacts = rw is body.contacts;
      first = rw is body.first;
      count = c.statement.ensures.count;
    }
