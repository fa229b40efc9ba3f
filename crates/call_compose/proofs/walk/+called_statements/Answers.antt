use Rattle.std.proofs.Common.{◌≡◌, ◌+◌, ◌-◌, ◌*◌, ◌<◌, ◌≤◌, ℕ, List, [], ◌∷◌, ◌++◌, length, get_or, refl, sym, ap, ◌∙◌, subst, rules, arith}
use Rattle.std.proofs.lemmas.List.{get_or_read, length-append}
use Rattle.std.specs.Prelude.{Bool, true, false, slice_set, if◌then◌else◌}
use Rattle.prs_core.specs.Nets.{NodeRules}
use Rattle.prs_core.specs.Pairs.{no_rules}
use Rattle.cell_parallel.specs.Trees.{tree_rules}
use Rattle.cell_select.specs.Selections.{joined_answer, select_rules, again_rules}
use Rattle.chp_syntax.specs.declared.tree.Decl.{Decl}
use Rattle.chp_syntax.specs.declared.tree.Stmt.{Stmt, the_lemmas}
use Rattle.chp_syntax.specs.Trees.{Statement, follows, besides, selects, repeats}
use Rattle.chp_syntax.specs.View.{expression_of, statement_of}
use Rattle.width_check.specs.declared.typed.TStmt.{TStmt}
use Rattle.width_check.specs.Form.{formula_form}
use Rattle.width_check.specs.Processes.{Process, TypedProgram, Choices, side_by_side, choosing, choice_count}
use Rattle.width_check.specs.Typed.{program_of}
use Rattle.width_check.specs.Typing.{IsProcess}
use Rattle.width_check.specs.View.{process_of, members_in, choices_in}
use Rattle.width_check.specs.Walk.{statements_in, arms_in}
use Rattle.width_check.proofs.Lists.{then_is, beside_is, select_is}
use Rattle.handshake_expand.specs.Answers.{guards_from, bodies_from, select_own, again_own}
use Rattle.handshake_expand.specs.Layout.{guards_size}
use Rattle.handshake_expand.specs.PartTree.{own_before}
use Rattle.handshake_expand.proofs.Rows.{members_counted, arms_counted}
use Rattle.handshake_expand.proofs.Turns.{this_typed}
use Rattle.handshake_expand.proofs.Branches.{arm_typed, choosing_size}
use Rattle.net_compose.specs.Translation.{branch_answers, guards_rules, choosing_at, repeating_at}
use Rattle.net_compose.proofs.BodyDriven.{element_within, own_some, choice_counted}
use Rattle.net_compose.proofs.BodyWritten.{if_ok}
use Rattle.net_compose.proofs.FlatRules.{counted}
use Rattle.net_compose.proofs.Sizes.{statement_length, bodies_length}
use Rattle.call_map.specs.Calling.{no_calleds, inlined, inlined_each, inlined_choices, called_size, called_rules}
use Rattle.call_compose.specs.CalledForm.{called_form, called_forms, called_arms}
use Rattle.call_compose.specs.Walking.{with_calls, HasAdded, Pieces, answer_at, pieces}
use Rattle.call_compose.proofs.CalledSteps.{TurnLeft, BranchesLeft, ChoicesLeft, turn_begun, turn_more, turn_done, branches_begun, branch_more, all_ended, branches_made, branches_done, choices_begun, choice_more, choices_done, loop_done, rules_long, ends_long, element_made, element_long, element_counted}
use Rattle.call_compose.proofs.CalledRoom.{room_as, turn_here, turn_is, turn_some, turn_last, turn_own, turn_room, turn_above, last_room, side_here, side_is, side_own, side_room, side_above, choice_here, choice_is, choice_own, choice_room, choice_above, loop_room}
use Rattle.call_compose.proofs.CopiedMembers.{TurnCopied, SidesCopied, ChosenCopied, copied_as, left_of, arms_left, none_left, no_arm_left, as_many, as_many_arms, turn_copied, sides_copied, choices_copied, loop_copied}
use Rattle.call_compose.proofs.walk.+called_statements.Goals as goal

-- sequences

pub called_sequence-loop-place-init : goal.called_sequence-loop-place-init
called_sequence-loop-place-init t c =
    let room = c.requires.room in
    let k = room.copied in
    record {
      left = λ k. turn_begun k.bodies (program_of c.args.program.now) (answer_at c.args.answers.now)
          (called_forms k.decls c.args.procs.now (statements_in c.args.parts.now)) c.args.request c.args.from
          (pieces c.args.drivers.now.items c.args.contacts.now.items c.args.first.now c.args.calls.now.items);
      values = refl;
      formed = c.requires.process.1;
      low = omega arith;
      few = omega (arith, room.own, room.few);
      above = omega arith;
      as_many = as_many c.args.procs.now k.bodies k.decls c.args.members.now c.args.parts.now
          (turn_copied c.args.procs.now c.args.members.now c.args.parts.now k);
    }

pub called_sequence-called_statement-requires : goal.called_sequence-called_statement-requires
called_sequence-called_statement-requires t c =
    let i = c.loop-place in
    let typed = (this_typed _ _ c.args.members.now i.place _ c.index-members-place.is (omega arith) i.invariant.formed).0 in
    let room = turn_room c.args.procs.now (program_of c.args.program.now) c.args.members.now c.args.parts.now c.args.from i.next (length c.args.first.now)
    (length i.first) c.requires.room i.invariant.values i.place _ _ c.index-members-place.is c.index-parts-place.is i.invariant.low i.invariant.above
    (i.invariant.left c.requires.room.copied).size (omega arith) in
    (search (rules, the_lemmas, get_or_read), (c.requires.channels, (c.requires.vars, (c.requires.numbers, (typed, room)))))

pub called_sequence-close_element-requires : goal.called_sequence-close_element-requires
called_sequence-close_element-requires t c =
    let i = c.loop-place in
    let room = c.requires.room in
    let here = turn_here c.args.procs.now c.args.members.now c.args.parts.now room.copied i.place _ _ c.index-members-place.is c.index-parts-place.is
    (omega arith) in
    element_within i.drivers.items c.begin_element.new.drivers.items c.called_statement.new.drivers.items _ _ _ (c.len-begun.ensures ∙ i.drivers.ok.0)
    c.in_ok-begin_element.ensures refl (c.in_ok-answer.ensures.added here).made

pub called_sequence-node_behind-next-requires : goal.called_sequence-node_behind-next-requires
called_sequence-node_behind-next-requires t c =
    let names = c.args.procs.now in
    let p = program_of c.args.program.now in
    let d = answer_at c.args.answers.now in
    let ss = c.args.members.now in
    let ts = c.args.parts.now in
    let i = c.loop-place.place in
    let at = c.index-members-place.is in
    let is = c.index-parts-place.is in
    let k = c.requires.room.copied in
    let within : i + 1 < length ss = omega arith in
    let typed = this_typed _ _ ss i _ at (omega (arith, within)) c.loop-place.invariant.formed in
    let here = turn_here names ss ts k i _ _ at is (omega (arith, within)) in
    let now = pieces c.loop-place.drivers.items c.loop-place.contacts.items c.loop-place.first c.loop-place.calls.items in
    let new = pieces c.called_statement.new.drivers.items c.called_statement.new.contacts.items c.called_statement.new.first
    c.called_statement.new.calls.items in
    let long = element_counted k.bodies p d (called_form k.decls names (statement_of c.index-parts-place.result)) c.loop-place.asked c.loop-place.next
    c.in_ok-answer.answer c.len-begun.result now new
    c.begin_element.new.drivers.items c.close_element.new.drivers.items (c.len-begun.ensures ∙ c.loop-place.drivers.ok.0) c.in_ok-begin_element.ensures
    (c.in_ok-answer.ensures.added here) c.close_element.ensures (subst (IsProcess p.channels p.vars) here.same typed.0) in
    let own = turn_own names p ss ts c.args.from c.loop-place.next (length c.args.first.now) (length c.loop-place.first) c.requires.room
    c.loop-place.invariant.values i _ _ at is c.loop-place.invariant.low c.loop-place.invariant.above (c.loop-place.invariant.left k).size within in (
      omega (arith, long, c.len-begun.ensures, c.len.ensures),
      omega (arith, long, c.len-begun.ensures, c.len.ensures, own, c.loop-place.invariant.values, c.requires.room.few),
    )

pub called_sequence-loop-place-preserved : goal.called_sequence-loop-place-preserved
called_sequence-loop-place-preserved t c =
    let names = c.args.procs.now in
    let p = program_of c.args.program.now in
    let d = answer_at c.args.answers.now in
    let ss = c.args.members.now in
    let ts = c.args.parts.now in
    let i = c.loop-place.place in
    let at = c.index-members-place.is in
    let is = c.index-parts-place.is in
    let next = c.loop-place.next in
    let asked = c.loop-place.asked in
    let after = c.node_behind-next.result in
    let s = process_of c.index-members-place.result in
    let u = statement_of c.index-parts-place.result in
    let within : i + 1 < length ss = omega arith in
    let typed = this_typed _ _ ss i _ at (omega (arith, within)) c.loop-place.invariant.formed in
    let now = pieces c.loop-place.drivers.items c.loop-place.contacts.items c.loop-place.first c.loop-place.calls.items in
    let new = pieces c.called_statement.new.drivers.items c.called_statement.new.contacts.items c.called_statement.new.first
    c.called_statement.new.calls.items in
    let done = pieces c.close_element.new.drivers.items c.called_statement.new.contacts.items c.called_statement.new.first
    c.called_statement.new.calls.items in
    let old = pieces c.args.drivers.now.items c.args.contacts.now.items c.args.first.now c.args.calls.now.items in
    let here = λ (k : TurnCopied names ss ts). turn_here names ss ts k i _ _ at is (omega (arith, within)) in
    let element = λ (k : TurnCopied names ss ts). element_made k.bodies p d (called_form k.decls names u) asked next
    c.in_ok-answer.answer c.len-begun.result now new c.begin_element.new.drivers.items c.close_element.new.drivers.items
    (c.len-begun.ensures ∙ c.loop-place.drivers.ok.0) c.in_ok-begin_element.ensures (c.in_ok-answer.ensures.added (here k)) c.close_element.ensures in
    let step = λ (k : TurnCopied names ss ts).
    let long = element_long k.bodies p d (called_form k.decls names u) asked next now done
    (subst (IsProcess p.channels p.vars) (here k).same typed.0) (element k) in
    let e : after ≡ next + 3 + called_size k.bodies p (called_form k.decls names u) = omega
    (arith, long, c.len-begun.ensures, c.len.ensures, c.node_behind-next.ensures) in e in
    let k0 = c.requires.room.copied in
    let left = λ (k : TurnCopied names ss ts). turn_more k.bodies p d (called_forms k.decls names (statements_in ts)) (called_form k.decls names u)
    (left_of names k.bodies k.decls ts (i + 1)) c.args.request c.args.from asked next after old now done (turn_some names ss ts k i _ _ at is within) (step k)
    (subst (λ r. TurnLeft k.bodies p d (called_forms k.decls names (statements_in ts)) r c.args.request c.args.from asked next old now)
    (turn_is names ss ts k i _ _ at is (omega (arith, within))) (c.loop-place.invariant.left k)) (element k) in
    record {
      left = left;
      values = omega (arith, c.called_statement.ensures.count, c.loop-place.invariant.values);
      formed = typed.1;
      low = omega (arith, c.loop-place.invariant.low);
      few = omega (arith, (left k0).size, c.requires.room.own, c.requires.room.few);
      above = turn_above names p ss ts c.args.from next (length c.args.first.now) (length c.loop-place.first) c.requires.room
          c.loop-place.invariant.values i _ _ at is c.loop-place.invariant.low c.loop-place.invariant.above (c.loop-place.invariant.left k0).size within typed.0
          after (step k0);
      as_many = c.loop-place.invariant.as_many;
    }

pub called_sequence-called_statement-requires-2 : goal.called_sequence-called_statement-requires-2
called_sequence-called_statement-requires-2 t c =
    let ss = c.args.members.now in
    let i = c.loop-place in
    let end : length ss - 1 ≡ i.place = omega arith in
    let whole : i.place + 1 ≡ length ss = omega (arith, end, c.requires.process.0, members_counted ss) in
    let at = c.index-members-last.is ∙ ap (λ n. get_or ss n c.index-members-last.result) end in
    let is = c.index-parts-last.is ∙ ap (λ n. get_or c.args.parts.now n c.index-parts-last.result) end in
    let typed = (this_typed _ _ ss i.place _ at (omega (arith, whole)) i.invariant.formed).0 in
    let room = last_room c.args.procs.now (program_of c.args.program.now) ss c.args.parts.now c.args.from i.next (length c.args.first.now) (length i.first)
    c.requires.room i.invariant.values i.place _ _ at is i.invariant.low i.invariant.above (i.invariant.left c.requires.room.copied).size whole in
    (search (rules, the_lemmas, get_or_read), (c.requires.channels, (c.requires.vars, (c.requires.numbers, (typed, room)))))

pub called_sequence-returns-clause-added : goal.called_sequence-returns-clause-added
called_sequence-returns-clause-added t c =
    let names = c.args.procs.now in
    let ss = c.args.members.now in
    let ts = c.args.parts.now in
    let i = c.loop-place.place in
    let end : length ss - 1 ≡ i = omega arith in
    let whole : i + 1 ≡ length ss = omega (arith, end, c.requires.process.0, members_counted ss) in
    let at = c.index-members-last.is ∙ ap (λ n. get_or ss n c.index-members-last.result) end in
    let is = c.index-parts-last.is ∙ ap (λ n. get_or ts n c.index-parts-last.result) end in
    let p = program_of c.args.program.now in
    let d = answer_at c.args.answers.now in
    let now = pieces c.loop-place.drivers.items c.loop-place.contacts.items c.loop-place.first c.loop-place.calls.items in
    let new = pieces c.called_statement-2.new.drivers.items c.called_statement-2.new.contacts.items c.called_statement-2.new.first
    c.called_statement-2.new.calls.items in
    let old = pieces c.args.drivers.now.items c.args.contacts.now.items c.args.first.now c.args.calls.now.items in
    if_ok c.called_statement-2.result _ _ (λ answer added k. turn_done k.bodies p d (called_forms k.decls names (statements_in ts))
    (called_form k.decls names (statement_of c.index-parts-last.result)) c.args.request c.args.from c.loop-place.asked c.loop-place.next answer old now new
    (subst
    (λ r. TurnLeft k.bodies p d (called_forms k.decls names (statements_in ts)) r c.args.request c.args.from c.loop-place.asked c.loop-place.next old now)
    (turn_last names ss ts k i _ _ at is whole) (c.loop-place.invariant.left k))
    (added (turn_here names ss ts k i _ _ at is (omega (arith, whole))))) c.called_statement-2.ensures.added

-- parallel compositions

pub called_parallel-loop-place-init : goal.called_parallel-loop-place-init
called_parallel-loop-place-init t c =
    let room = c.requires.room in
    let k = room.copied in
    record {
      left = λ k. branches_begun k.bodies (program_of c.args.program.now) (answer_at c.args.answers.now)
          (called_forms k.decls c.args.procs.now (statements_in c.args.parts.now)) c.args.request c.args.from
          (pieces c.args.drivers.now.items c.args.contacts.now.items c.args.first.now c.args.calls.now.items) _ c.new-ends.ensures.items;
      values = refl;
      formed = c.requires.process.1;
      low = omega arith;
      few = omega (arith, room.own, room.few);
      above = omega arith;
      as_many = as_many c.args.procs.now k.bodies k.decls c.args.branches.now c.args.parts.now
          (sides_copied c.args.procs.now c.args.branches.now c.args.parts.now k);
    }

pub called_parallel-called_statement-requires : goal.called_parallel-called_statement-requires
called_parallel-called_statement-requires t c =
    let i = c.loop-place in
    let typed = (this_typed _ _ c.args.branches.now i.place _ c.index-branches-place.is (omega arith) i.invariant.formed).0 in
    let room = side_room c.args.procs.now (program_of c.args.program.now) c.args.branches.now c.args.parts.now c.args.from i.next (length c.args.first.now)
    (length i.first) c.requires.room i.invariant.values i.place _ _ c.index-branches-place.is c.index-parts-place.is (omega arith) i.invariant.low
    i.invariant.above (i.invariant.left c.requires.room.copied).size in
    (search (rules, the_lemmas, get_or_read), (c.requires.channels, (c.requires.vars, (c.requires.numbers, (typed, room)))))

pub called_parallel-close_element-requires : goal.called_parallel-close_element-requires
called_parallel-close_element-requires t c =
    let i = c.loop-place in
    let room = c.requires.room in
    let here = side_here c.args.procs.now c.args.branches.now c.args.parts.now room.copied i.place _ _ c.index-branches-place.is c.index-parts-place.is
    (omega arith) in
    element_within i.drivers.items c.begin_element.new.drivers.items c.called_statement.new.drivers.items _ _ _ (c.len-begun.ensures ∙ i.drivers.ok.0)
    c.in_ok-begin_element.ensures refl (c.in_ok-answer.ensures.added here).made

pub called_parallel-node_behind-next-requires : goal.called_parallel-node_behind-next-requires
called_parallel-node_behind-next-requires t c =
    let names = c.args.procs.now in
    let p = program_of c.args.program.now in
    let d = answer_at c.args.answers.now in
    let ss = c.args.branches.now in
    let ts = c.args.parts.now in
    let i = c.loop-place.place in
    let at = c.index-branches-place.is in
    let is = c.index-parts-place.is in
    let k = c.requires.room.copied in
    let within : i < length ss = omega arith in
    let typed = this_typed _ _ ss i _ at within c.loop-place.invariant.formed in
    let here = side_here names ss ts k i _ _ at is within in
    let now = pieces c.loop-place.drivers.items c.loop-place.contacts.items c.loop-place.first c.loop-place.calls.items in
    let new = pieces c.called_statement.new.drivers.items c.called_statement.new.contacts.items c.called_statement.new.first
    c.called_statement.new.calls.items in
    let long = element_counted k.bodies p d (called_form k.decls names (statement_of c.index-parts-place.result)) c.args.request c.loop-place.next
    c.in_ok-answer.answer c.len-begun.result now new
    c.begin_element.new.drivers.items c.close_element.new.drivers.items (c.len-begun.ensures ∙ c.loop-place.drivers.ok.0) c.in_ok-begin_element.ensures
    (c.in_ok-answer.ensures.added here) c.close_element.ensures (subst (IsProcess p.channels p.vars) here.same typed.0) in
    let own = side_own names p ss ts c.args.from c.loop-place.next (length c.args.first.now) (length c.loop-place.first) c.requires.room
    c.loop-place.invariant.values i _ _ at is within c.loop-place.invariant.low c.loop-place.invariant.above (c.loop-place.invariant.left k).size in (
      omega (arith, long, c.len-begun.ensures, c.len.ensures),
      omega (arith, long, c.len-begun.ensures, c.len.ensures, own, c.loop-place.invariant.values, c.requires.room.few),
    )

pub called_parallel-loop-place-preserved : goal.called_parallel-loop-place-preserved
called_parallel-loop-place-preserved t c =
    let names = c.args.procs.now in
    let p = program_of c.args.program.now in
    let d = answer_at c.args.answers.now in
    let ss = c.args.branches.now in
    let ts = c.args.parts.now in
    let i = c.loop-place.place in
    let at = c.index-branches-place.is in
    let is = c.index-parts-place.is in
    let next = c.loop-place.next in
    let request = c.args.request in
    let after = c.node_behind-next.result in
    let u = statement_of c.index-parts-place.result in
    let within : i < length ss = omega arith in
    let typed = this_typed _ _ ss i _ at within c.loop-place.invariant.formed in
    let now = pieces c.loop-place.drivers.items c.loop-place.contacts.items c.loop-place.first c.loop-place.calls.items in
    let new = pieces c.called_statement.new.drivers.items c.called_statement.new.contacts.items c.called_statement.new.first
    c.called_statement.new.calls.items in
    let done = pieces c.close_element.new.drivers.items c.called_statement.new.contacts.items c.called_statement.new.first
    c.called_statement.new.calls.items in
    let old = pieces c.args.drivers.now.items c.args.contacts.now.items c.args.first.now c.args.calls.now.items in
    let here = λ (k : SidesCopied names ss ts). side_here names ss ts k i _ _ at is within in
    let element = λ (k : SidesCopied names ss ts). element_made k.bodies p d (called_form k.decls names u)
    request next c.in_ok-answer.answer c.len-begun.result now new c.begin_element.new.drivers.items c.close_element.new.drivers.items
    (c.len-begun.ensures ∙ c.loop-place.drivers.ok.0) c.in_ok-begin_element.ensures (c.in_ok-answer.ensures.added (here k)) c.close_element.ensures in
    let step = λ (k : SidesCopied names ss ts).
    let long = element_long k.bodies p d (called_form k.decls names u) request next now done
    (subst (IsProcess p.channels p.vars) (here k).same typed.0) (element k) in
    let e : after ≡ next + 3 + called_size k.bodies p (called_form k.decls names u) = omega
    (arith, long, c.len-begun.ensures, c.len.ensures, c.node_behind-next.ensures) in e in
    let k0 = c.requires.room.copied in
    let left = λ (k : SidesCopied names ss ts). branch_more k.bodies p d (called_forms k.decls names (statements_in ts)) (called_form k.decls names u)
    (left_of names k.bodies k.decls ts (i + 1)) request c.args.from next after old now done c.loop-place.ends.items _ (step k) c.in_ok-push.ensures.items
    (subst (λ r. BranchesLeft k.bodies p d (called_forms k.decls names (statements_in ts)) r request c.args.from next old now c.loop-place.ends.items)
    (side_is names ss ts k i _ _ at is within) (c.loop-place.invariant.left k)) (element k) in
    record {
      left = left;
      values = omega (arith, c.called_statement.ensures.count, c.loop-place.invariant.values);
      formed = typed.1;
      low = omega (arith, c.loop-place.invariant.low);
      few = omega (arith, (left k0).size, c.requires.room.own, c.requires.room.few);
      above = side_above names p ss ts c.args.from next (length c.args.first.now) (length c.loop-place.first) c.requires.room
          c.loop-place.invariant.values i _ _ at is within c.loop-place.invariant.low c.loop-place.invariant.above (c.loop-place.invariant.left k0).size typed.0
          after (step k0);
      as_many = c.loop-place.invariant.as_many;
    }

-- what is known once no branch is left
ended_branches : (names : List (List ℕ)) (p : TypedProgram) (d : ℕ → ℕ) (ss : List TStmt) (ts : List Stmt) (i request from next : ℕ) (old now : Pieces)
    (ends : List ℕ) (k : SidesCopied names ss ts) → length ss ≤ i
    → BranchesLeft k.bodies p d (called_forms k.decls names (statements_in ts)) (left_of names k.bodies k.decls ts i) request from next old now ends
    → BranchesLeft k.bodies p d (called_forms k.decls names (statements_in ts)) no_calleds request from next old now ends
ended_branches names p d ss ts i request from next old now ends k over left =
    subst (λ r. BranchesLeft k.bodies p d (called_forms k.decls names (statements_in ts)) r request from next old now ends)
    (none_left names k.bodies k.decls ts i (omega (arith, over, as_many names k.bodies k.decls ss ts (sides_copied names ss ts k)))) left

-- the drivers with the tree are as many as the layout counts
parallel_counted : (names : List (List ℕ)) (p : TypedProgram) (d : ℕ → ℕ) (ss : List TStmt) (ts : List Stmt) (i request from next : ℕ) (old now : Pieces)
    (ends nodes : List ℕ) (new : List NodeRules) (k : SidesCopied names ss ts)
    → IsProcess p.channels p.vars (side_by_side (members_in ss)) → length ss ≤ i
    → BranchesLeft k.bodies p d (called_forms k.decls names (statements_in ts)) (left_of names k.bodies k.decls ts i) request from next old now ends
    → nodes ≡ ends → new ≡ now.drivers ++ tree_rules nodes next → length new ≡ length old.drivers + called_size k.bodies p (with_calls k)
parallel_counted names p d ss ts i request from next old now ends nodes new k typed over left same tree =
    rules_long k.bodies p d (with_calls k) request from old.drivers new (subst (IsProcess p.channels p.vars) k.same typed)
    (branches_made k.bodies p d (called_forms k.decls names (statements_in ts)) request from next old now ends nodes new
    (ended_branches names p d ss ts i request from next old now ends k over left) same tree)

pub called_parallel-tree-requires : goal.called_parallel-tree-requires
called_parallel-tree-requires t c =
    let k = c.requires.room.copied in
    let p = program_of c.args.program.now in
    let all = called_forms k.decls c.args.procs.now (statements_in c.args.parts.now) in
    let left = ended_branches c.args.procs.now p (answer_at c.args.answers.now) c.args.branches.now c.args.parts.now c.loop-place.place c.args.request
    c.args.from c.loop-place.next (pieces c.args.drivers.now.items c.args.contacts.now.items c.args.first.now c.args.calls.now.items)
    (pieces c.loop-place.drivers.items c.loop-place.contacts.items c.loop-place.first c.loop-place.calls.items) c.loop-place.ends.items k (omega arith)
    (c.loop-place.invariant.left k) in
    let leaves = c.deref.ensures.value ∙ all_ended k.bodies p (answer_at c.args.answers.now) all c.args.request c.args.from c.loop-place.next _ _ _ left in
    omega (arith, ap length leaves, ends_long k.bodies p (answer_at c.args.answers.now) all c.args.from, left.size, c.requires.room.own, c.requires.room.few)

pub called_parallel-node_behind-requires : goal.called_parallel-node_behind-requires
called_parallel-node_behind-requires t c =
    let k = c.requires.room.copied in
    let all = parallel_counted c.args.procs.now (program_of c.args.program.now) (answer_at c.args.answers.now) c.args.branches.now c.args.parts.now
    c.loop-place.place c.args.request c.args.from c.loop-place.next
    (pieces c.args.drivers.now.items c.args.contacts.now.items c.args.first.now c.args.calls.now.items)
    (pieces c.loop-place.drivers.items c.loop-place.contacts.items c.loop-place.first c.loop-place.calls.items) c.loop-place.ends.items c.deref.result.now
    c.tree.new.drivers.items k c.requires.process (omega arith) (c.loop-place.invariant.left k) c.deref.ensures.value c.in_ok-tree.ensures in (
      omega (arith, all, c.len-whole.ensures, c.len-2.ensures),
      omega (arith, all, c.len-whole.ensures, c.len-2.ensures, c.requires.room.own, c.requires.room.few),
    )

pub called_parallel-returns-clause-added : goal.called_parallel-returns-clause-added
called_parallel-returns-clause-added t c k =
    let names = c.args.procs.now in
    let p = program_of c.args.program.now in
    let d = answer_at c.args.answers.now in
    let ss = c.args.branches.now in
    let ts = c.args.parts.now in
    let old = pieces c.args.drivers.now.items c.args.contacts.now.items c.args.first.now c.args.calls.now.items in
    let now = pieces c.loop-place.drivers.items c.loop-place.contacts.items c.loop-place.first c.loop-place.calls.items in
    let left = ended_branches names p d ss ts c.loop-place.place c.args.request c.args.from c.loop-place.next old now c.loop-place.ends.items k (omega arith)
    (c.loop-place.invariant.left k) in
    let all = parallel_counted names p d ss ts c.loop-place.place c.args.request c.args.from c.loop-place.next old now c.loop-place.ends.items
    c.deref.result.now c.tree.new.drivers.items k c.requires.process (omega arith) (c.loop-place.invariant.left k) c.deref.ensures.value c.in_ok-tree.ensures in
    branches_done k.bodies p d (called_forms k.decls names (statements_in ts)) c.args.request c.args.from c.loop-place.next _ old now c.loop-place.ends.items
    c.deref.result.now c.tree.new.drivers.items left c.deref.ensures.value c.in_ok-tree.ensures
    (omega (arith, all, c.len-whole.ensures, c.len-2.ensures, c.node_behind.ensures))

-- selections

pub called_selection-overflow_cast-start : goal.called_selection-overflow_cast-start
called_selection-overflow_cast-start t c = omega (arith, c.requires.process.1, arms_counted c.args.arms.now)

pub called_selection-overflow_add-start-2 : goal.called_selection-overflow_add-start-2
called_selection-overflow_add-start-2 t c =
    omega (
      arith,
      choosing_size (program_of c.args.program.now) c.args.again (choices_in c.args.arms.now),
      arms_counted c.args.arms.now,
      c.own_nodes.ensures,
      c.requires.room.copies,
    )

-- so many drivers of own nodes and guards
chosen_counted : (p : TypedProgram) (again : Bool) (cs : Choices) (request from : ℕ) (old now : List NodeRules)
    → IsProcess p.channels p.vars (choosing again cs)
    → (again ≡ false → slice_set now (length old) (joined_answer (from + 2) (branch_answers p cs (bodies_from cs select_own from)))
    ≡ old ++ (select_rules (choosing_at p cs request (from + 2) select_own from) ++ guards_rules p cs (from + 1) (guards_from cs select_own from)))
    → (again ≡ true → slice_set now (length old + 2) (joined_answer (from + 4) (branch_answers p cs (bodies_from cs again_own from)))
    ≡ old ++ (again_rules (repeating_at p cs request from) ++ guards_rules p cs (from + 3) (guards_from cs again_own from)))
    → length now ≡ length old + own_before again + 2 * choice_count cs + guards_size cs
chosen_counted p again cs request from old now typed once repeated =
    choice_counted p again cs request from old now once repeated (statement_length counted p (choosing again cs) request from typed)
    (bodies_length counted p cs _ _ typed.2)

pub called_selection-node_behind-next-requires : goal.called_selection-node_behind-next-requires
called_selection-node_behind-next-requires t c =
    let p = program_of c.args.program.now in
    let cs = choices_in c.args.arms.now in
    let all = chosen_counted p c.args.again cs c.args.request c.args.from c.args.drivers.now.items c.choice.new.drivers.items c.requires.process
    c.in_ok-choice.ensures.once c.in_ok-choice.ensures.repeated in (
      omega (arith, all, c.len-whole.ensures, c.len.ensures),
      omega (arith, all, choosing_size p c.args.again cs, c.len-whole.ensures, c.len.ensures, c.requires.room.copies),
    )

pub called_selection-loop-place-init : goal.called_selection-loop-place-init
called_selection-loop-place-init t c =
    let names = c.args.procs.now in
    let p = program_of c.args.program.now in
    let d = answer_at c.args.answers.now in
    let again = c.args.again in
    let arms = c.args.arms.now in
    let xs = c.args.parts.now in
    let cs = choices_in arms in
    let from = c.args.from in
    let room = c.requires.room in
    let k0 = room.copied in
    let old = pieces c.args.drivers.now.items c.args.contacts.now.items c.args.first.now c.args.calls.now.items in
    let all = chosen_counted p again cs c.args.request from c.args.drivers.now.items c.choice.new.drivers.items c.requires.process c.in_ok-choice.ensures.once
    c.in_ok-choice.ensures.repeated in
    let start : from + c.own_nodes.result + length arms ≡ from + own_before again + choice_count cs = omega
    (arith, arms_counted arms, c.own_nodes.ensures) in
    let next : c.node_behind-next.result ≡ bodies_from cs (own_before again) from = omega
    (arith, all, c.len-whole.ensures, c.len.ensures, c.node_behind-next.ensures) in
    let begun = λ (k : ChosenCopied names again arms xs). choices_begun k.bodies p d again cs
    (called_arms k.decls names (arms_in xs)) (choices_copied names again arms xs k) c.args.request from _ _ old c.choice.new.drivers.items
    c.new-ends.result.items c.new-ends.ensures.items start next c.in_ok-choice.ensures.once c.in_ok-choice.ensures.repeated in
    record {
      left = begun;
      values = refl;
      formed = c.requires.process.2;
      low = omega arith;
      few = omega (arith, (begun k0).size, room.own, room.few);
      above = omega (arith, choosing_size p again cs, next);
      as_many = as_many_arms names k0.bodies k0.decls arms xs (choices_copied names again arms xs k0);
      starts = omega (arith, start, next, arms_counted arms);
      within = omega (arith, all, own_some again);
    }

pub called_selection-called_statement-requires : goal.called_selection-called_statement-requires
called_selection-called_statement-requires t c =
    let i = c.loop-place in
    let p = program_of c.args.program.now in
    let typed = (arm_typed p c.args.arms.now i.place _ (omega arith) c.index-arms-place.is _ _ i.invariant.formed).0 in
    let room = choice_room c.args.procs.now p c.args.again c.args.arms.now c.args.parts.now c.args.from i.next (length c.args.first.now) (length i.first)
    c.requires.room i.invariant.values i.place _ _ c.index-arms-place.is c.index-parts-place.is (omega arith) i.invariant.low i.invariant.above
    (i.invariant.left c.requires.room.copied).size in
    (search (rules, the_lemmas, get_or_read), (c.requires.channels, (c.requires.vars, (c.requires.numbers, (typed, room)))))

pub called_selection-node_behind-next-requires-in-loop-place : goal.called_selection-node_behind-next-requires-in-loop-place
called_selection-node_behind-next-requires-in-loop-place t c =
    let names = c.args.procs.now in
    let p = program_of c.args.program.now in
    let d = answer_at c.args.answers.now in
    let again = c.args.again in
    let arms = c.args.arms.now in
    let xs = c.args.parts.now in
    let i = c.loop-place.place in
    let at = c.index-arms-place.is in
    let is = c.index-parts-place.is in
    let k = c.requires.room.copied in
    let within : i < length arms = omega arith in
    let typed = arm_typed p arms i _ within at _ _ c.loop-place.invariant.formed in
    let here = choice_here names again arms xs k i _ _ at is within in
    let long = rules_long k.bodies p d (called_form k.decls names (statement_of c.index-parts-place.result.body)) c.loop-place.start c.loop-place.next
    c.loop-place.drivers.items c.called_statement.new.drivers.items
    (subst (IsProcess p.channels p.vars) here.same typed.0) (c.in_ok-answer.ensures.added here).made in
    let own = choice_own names p again arms xs c.args.from c.loop-place.next (length c.args.first.now) (length c.loop-place.first) c.requires.room
    c.loop-place.invariant.values i _ _ at is within c.loop-place.invariant.low c.loop-place.invariant.above (c.loop-place.invariant.left k).size in (
      omega (arith, long, c.len-begun.ensures, c.len-in-loop-place.ensures),
      omega (arith, long, c.len-begun.ensures, c.len-in-loop-place.ensures, own, c.loop-place.invariant.values, c.requires.room.few),
    )

pub called_selection-loop-place-preserved : goal.called_selection-loop-place-preserved
called_selection-loop-place-preserved t c =
    let names = c.args.procs.now in
    let p = program_of c.args.program.now in
    let d = answer_at c.args.answers.now in
    let again = c.args.again in
    let arms = c.args.arms.now in
    let xs = c.args.parts.now in
    let i = c.loop-place.place in
    let at = c.index-arms-place.is in
    let is = c.index-parts-place.is in
    let a = c.index-arms-place.result in
    let x = c.index-parts-place.result in
    let start = c.loop-place.start in
    let next = c.loop-place.next in
    let request = c.args.request in
    let u = statement_of x.body in
    let within : i < length arms = omega arith in
    let after = c.node_behind-next-in-loop-place.result in
    let typed = arm_typed p arms i a within at _ _ c.loop-place.invariant.formed in
    let now = pieces c.loop-place.drivers.items c.loop-place.contacts.items c.loop-place.first c.loop-place.calls.items in
    let new = pieces c.called_statement.new.drivers.items c.called_statement.new.contacts.items c.called_statement.new.first
    c.called_statement.new.calls.items in
    let old = pieces c.args.drivers.now.items c.args.contacts.now.items c.args.first.now c.args.calls.now.items in
    let here = λ (k : ChosenCopied names again arms xs). choice_here names again arms xs k i _ _ at is within in
    let added = λ (k : ChosenCopied names again arms xs). c.in_ok-answer.ensures.added (here k) in
    let long = λ (k : ChosenCopied names again arms xs). rules_long k.bodies p d (called_form k.decls names u) start next
    c.loop-place.drivers.items c.called_statement.new.drivers.items (subst (IsProcess p.channels p.vars) (here k).same typed.0) (added k).made in
    let step = λ (k : ChosenCopied names again arms xs).
    let e : after ≡ next + called_size k.bodies p (called_form k.decls names u) = omega
    (arith, long k, c.len-begun.ensures, c.len-in-loop-place.ensures, c.node_behind-next-in-loop-place.ensures) in e in
    let k0 = c.requires.room.copied in
    let left = λ (k : ChosenCopied names again arms xs). choice_more k.bodies p d again (called_arms k.decls names (arms_in xs))
    (formula_form k.decls 1 (expression_of x.guard))
    (called_form k.decls names u) (arms_left names k.bodies k.decls xs (i + 1)) request c.args.from start next after c.in_ok-answer.answer old now new
    c.loop-place.ends.items _ c.loop-place.invariant.within (step k) c.in_ok-push.ensures.items
    (subst (λ r. ChoicesLeft k.bodies p d again (called_arms k.decls names (arms_in xs)) r request c.args.from start next old now c.loop-place.ends.items)
    (choice_is names again arms xs k i _ _ at is within) (c.loop-place.invariant.left k)) (added k) in
    record {
      left = left;
      values = omega (arith, c.called_statement.ensures.count, c.loop-place.invariant.values);
      formed = typed.1;
      low = omega (arith, c.loop-place.invariant.low);
      few = omega (arith, (left k0).size, c.requires.room.own, c.requires.room.few);
      above = choice_above names p again arms xs c.args.from next (length c.args.first.now) (length c.loop-place.first) c.requires.room
          c.loop-place.invariant.values i _ _ at is within c.loop-place.invariant.low c.loop-place.invariant.above (c.loop-place.invariant.left k0).size typed.0
          after (step k0);
      as_many = c.loop-place.invariant.as_many;
      starts = omega (arith, c.loop-place.invariant.starts, within);
      within = omega (arith, long k0, c.loop-place.invariant.within);
    }

pub called_selection-join_answers-requires-clause-within : goal.called_selection-join_answers-requires-clause-within
called_selection-join_answers-requires-clause-within t c = omega (arith, c.len-whole.ensures, c.loop-place.invariant.within)

pub called_selection-join_answers-requires-clause-room : goal.called_selection-join_answers-requires-clause-room
called_selection-join_answers-requires-clause-room t c =
    omega (arith, choosing_size (program_of c.args.program.now) c.args.again (choices_in c.args.arms.now), c.requires.room.copies)

pub called_selection-returns-clause-added : goal.called_selection-returns-clause-added
called_selection-returns-clause-added t c k =
    let names = c.args.procs.now in
    let p = program_of c.args.program.now in
    let d = answer_at c.args.answers.now in
    let again = c.args.again in
    let arms = c.args.arms.now in
    let xs = c.args.parts.now in
    let i = c.loop-place in
    let all = called_arms k.decls names (arms_in xs) in
    let old = pieces c.args.drivers.now.items c.args.contacts.now.items c.args.first.now c.args.calls.now.items in
    let now = pieces i.drivers.items i.contacts.items i.first i.calls.items in
    let many = as_many_arms names k.bodies k.decls arms xs (choices_copied names again arms xs k) in
    let over : length xs ≤ i.place = omega (arith, many) in
    choices_done k.bodies p d again all c.args.request c.args.from i.start i.next old now i.ends.items c.join_answers.new.drivers.items
    (subst (λ r. ChoicesLeft k.bodies p d again all r c.args.request c.args.from i.start i.next old now i.ends.items)
    (no_arm_left names k.bodies k.decls xs i.place over) (i.invariant.left k))
    (c.join_answers.ensures
    ∙ ap (λ n. slice_set i.drivers.items (n + (if again then 2 else 0)) (joined_answer (c.args.from + (if again then 4 else 2)) i.ends.items))
    (c.len-whole.ensures ∙ c.args.drivers.now.ok.0))

-- loops

pub called_loop-called_statement-requires : goal.called_loop-called_statement-requires
called_loop-called_statement-requires t c =
    let room = loop_room c.args.procs.now (program_of c.args.program.now) (process_of c.args.body.now) (statement_of c.args.part.now) c.args.from
    (length c.args.first.now) c.requires.room in
    (search (rules, the_lemmas, get_or_read), (c.requires.channels, (c.requires.vars, (c.requires.numbers, (c.requires.process, room)))))

pub called_loop-close_loop-requires : goal.called_loop-close_loop-requires
called_loop-close_loop-requires t c =
    let k = loop_copied c.args.procs.now (process_of c.args.body.now) (statement_of c.args.part.now) c.requires.room.copied in
    let added = c.in_ok-answer.ensures.added k in
    omega (
      arith,
      c.len-place.ensures,
      ap length c.in_ok-begin_loop.ensures,
      length-append c.args.drivers.now.items (no_rules ∷ no_rules ∷ []),
      ap length added.made,
      length-append c.begin_loop.new.drivers.items (called_rules k.bodies (program_of c.args.program.now) (answer_at c.args.answers.now) (with_calls k)
          (c.args.from + 1) (c.args.from + 2)),
    )

pub called_loop-returns-clause-added : goal.called_loop-returns-clause-added
called_loop-returns-clause-added t c k =
    let here = loop_copied c.args.procs.now (process_of c.args.body.now) (statement_of c.args.part.now) k in
    loop_done k.bodies (program_of c.args.program.now) (answer_at c.args.answers.now) (with_calls here) c.args.request c.args.from c.in_ok-answer.answer
    c.len-place.result (pieces c.args.drivers.now.items c.args.contacts.now.items c.args.first.now c.args.calls.now.items)
    (pieces c.called_statement.new.drivers.items c.called_statement.new.contacts.items c.called_statement.new.first c.called_statement.new.calls.items)
    c.begin_loop.new.drivers.items c.close_loop.new.drivers.items (c.len-place.ensures ∙ c.args.drivers.now.ok.0) c.in_ok-begin_loop.ensures
    (c.in_ok-answer.ensures.added here) c.close_loop.ensures

-- all statements

-- the same statement, said otherwise
added_as : (bs : List Process) (p : TypedProgram) (d : ℕ → ℕ) (ds : List Decl) (names : List (List ℕ)) (t u : Statement) → t ≡ u
    → (request from answer : ℕ) (old new : Pieces) → HasAdded bs p d (called_form ds names u) request from answer old new
    → HasAdded bs p d (called_form ds names t) request from answer old new
added_as bs p d ds names t u same request from answer old new h =
    subst (λ x. HasAdded bs p d (called_form ds names x) request from answer old new) (sym same) h

pub called_statement-members_of-members-requires : goal.called_statement-members_of-members-requires
called_statement-members_of-members-requires t c =
    let k = c.requires.room.copied in (
      inlined_each k.bodies (called_forms k.decls c.args.procs.now (statements_in c.in-Then.parts.items)),
      k.same ∙ ap (λ u. inlined k.bodies (called_form k.decls c.args.procs.now u)) (then_is _ c.in-Then.parts c.in-Then.is),
    )

pub called_statement-called_sequence-requires : goal.called_statement-called_sequence-requires
called_statement-called_sequence-requires t c =
    let p = program_of c.args.program.now in
    let as_form = c.members_of-members.ensures in
    let as_text = then_is _ c.in-Then.parts c.in-Then.is ∙ ap (λ xs. follows (statements_in xs)) (sym c.deref.ensures.value) in
    let typed = subst (IsProcess p.channels p.vars) as_form c.requires.process in
    let room = room_as c.args.procs.now p _ _ _ _ c.args.from (length c.args.first.now) as_form as_text c.requires.room in
    (search (rules, the_lemmas, get_or_read), (c.requires.channels, (c.requires.vars, (c.requires.numbers, (typed, room)))))

pub called_statement-returns-in-Then-clause-added : goal.called_statement-returns-in-Then-clause-added
called_statement-returns-in-Then-clause-added t c =
    let as_text = then_is _ c.in-Then.parts c.in-Then.is ∙ ap (λ xs. follows (statements_in xs)) (sym c.deref.ensures.value) in
    if_ok c.called_sequence.result _ _ (λ answer added k. added_as k.bodies _ _ k.decls c.args.procs.now _ _ as_text _ _ _ _ _
    (added (copied_as c.args.procs.now _ _ _ _ c.members_of-members.ensures as_text k))) c.called_sequence.ensures.added

pub called_statement-branches_of-branches-requires : goal.called_statement-branches_of-branches-requires
called_statement-branches_of-branches-requires t c =
    let k = c.requires.room.copied in (
      inlined_each k.bodies (called_forms k.decls c.args.procs.now (statements_in c.in-Beside.parts.items)),
      k.same ∙ ap (λ u. inlined k.bodies (called_form k.decls c.args.procs.now u)) (beside_is _ c.in-Beside.parts c.in-Beside.is),
    )

pub called_statement-called_parallel-requires : goal.called_statement-called_parallel-requires
called_statement-called_parallel-requires t c =
    let p = program_of c.args.program.now in
    let as_form = c.branches_of-branches.ensures in
    let as_text = beside_is _ c.in-Beside.parts c.in-Beside.is ∙ ap (λ xs. besides (statements_in xs)) (sym c.deref-in-Beside.ensures.value) in
    let typed = subst (IsProcess p.channels p.vars) as_form c.requires.process in
    let room = room_as c.args.procs.now p _ _ _ _ c.args.from (length c.args.first.now) as_form as_text c.requires.room in
    (search (rules, the_lemmas, get_or_read), (c.requires.channels, (c.requires.vars, (c.requires.numbers, (typed, room)))))

pub called_statement-returns-in-Beside-clause-added : goal.called_statement-returns-in-Beside-clause-added
called_statement-returns-in-Beside-clause-added t c =
    let as_text = beside_is _ c.in-Beside.parts c.in-Beside.is ∙ ap (λ xs. besides (statements_in xs)) (sym c.deref-in-Beside.ensures.value) in
    if_ok c.called_parallel.result _ _ (λ answer added k. added_as k.bodies _ _ k.decls c.args.procs.now _ _ as_text _ _ _ _ _
    (added (copied_as c.args.procs.now _ _ _ _ c.branches_of-branches.ensures as_text k))) c.called_parallel.ensures.added

pub called_statement-arms_of-typed-requires : goal.called_statement-arms_of-typed-requires
called_statement-arms_of-typed-requires t c =
    let k = c.requires.room.copied in (
      c.in-Select.again,
      inlined_choices k.bodies (called_arms k.decls c.args.procs.now (arms_in c.in-Select.arms.items)),
      k.same ∙ ap (λ u. inlined k.bodies (called_form k.decls c.args.procs.now u)) (select_is _ c.in-Select.again c.in-Select.arms c.in-Select.is),
    )

pub called_statement-called_selection-requires : goal.called_statement-called_selection-requires
called_statement-called_selection-requires t c =
    let p = program_of c.args.program.now in
    let k = c.requires.room.copied in
    let again = c.in-Select.again in
    let is = select_is _ again c.in-Select.arms c.in-Select.is in
    let form = k.same ∙ ap (λ u. inlined k.bodies (called_form k.decls c.args.procs.now u)) is in
    let as_form = form ∙ ap (choosing again) (c.arms_of-typed.ensures again _ form) in
    let as_text = is ∙ ap (λ xs. selects again (arms_in xs)) (sym c.deref-in-Select.ensures.value) in
    let typed = subst (IsProcess p.channels p.vars) as_form c.requires.process in
    let room = room_as c.args.procs.now p _ _ _ _ c.args.from (length c.args.first.now) as_form as_text c.requires.room in
    (search (rules, the_lemmas, get_or_read), (c.requires.channels, (c.requires.vars, (c.requires.numbers, (typed, room)))))

pub called_statement-returns-in-Select-clause-added : goal.called_statement-returns-in-Select-clause-added
called_statement-returns-in-Select-clause-added t c =
    let again = c.in-Select.again in
    let is = select_is _ again c.in-Select.arms c.in-Select.is in
    let k = c.requires.room.copied in
    let form = k.same ∙ ap (λ u. inlined k.bodies (called_form k.decls c.args.procs.now u)) is in
    let as_form = form ∙ ap (choosing again) (c.arms_of-typed.ensures again _ form) in
    let as_text = is ∙ ap (λ xs. selects again (arms_in xs)) (sym c.deref-in-Select.ensures.value) in
    if_ok c.called_selection.result _ _ (λ answer added k. added_as k.bodies _ _ k.decls c.args.procs.now _ _ as_text _ _ _ _ _
    (added (copied_as c.args.procs.now _ _ _ _ as_form as_text k))) c.called_selection.ensures.added

pub called_statement-repeated-inner-requires : goal.called_statement-repeated-inner-requires
called_statement-repeated-inner-requires t c =
    let k = c.requires.room.copied in (
      inlined k.bodies (called_form k.decls c.args.procs.now (statement_of c.in-Repeat.body.value)),
      k.same ∙ ap (λ b. inlined k.bodies (called_form k.decls c.args.procs.now (statement_of b))) c.in-Repeat.is,
    )

pub called_statement-called_loop-requires : goal.called_statement-called_loop-requires
called_statement-called_loop-requires t c =
    let p = program_of c.args.program.now in
    let as_form = c.repeated-inner.ensures in
    let as_text = ap statement_of c.in-Repeat.is ∙ ap (λ b. repeats (statement_of b)) (sym c.deref-in-Repeat.ensures) in
    let typed = subst (IsProcess p.channels p.vars) as_form c.requires.process in
    let room = room_as c.args.procs.now p _ _ _ _ c.args.from (length c.args.first.now) as_form as_text c.requires.room in
    (search (rules, the_lemmas, get_or_read), (c.requires.channels, (c.requires.vars, (c.requires.numbers, (typed, room)))))

pub called_statement-returns-in-Repeat-clause-added : goal.called_statement-returns-in-Repeat-clause-added
called_statement-returns-in-Repeat-clause-added t c =
    let as_text = ap statement_of c.in-Repeat.is ∙ ap (λ b. repeats (statement_of b)) (sym c.deref-in-Repeat.ensures) in
    if_ok c.called_loop.result _ _ (λ answer added k. added_as k.bodies _ _ k.decls c.args.procs.now _ _ as_text _ _ _ _ _
    (added (copied_as c.args.procs.now _ _ _ _ c.repeated-inner.ensures as_text k))) c.called_loop.ensures.added
