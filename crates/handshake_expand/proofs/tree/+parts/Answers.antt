use Rattle.std.proofs.Common.{◌≡◌, ◌+◌, ◌-◌, ◌<◌, Bool, [], ◌∷◌, ◌++◌, length, get_or, drop, refl, sym, ap, ◌∙◌, subst, rules, arith}
use Rattle.std.specs.Prelude.{if◌then◌else◌}
use Rattle.std.proofs.lemmas.List.{get_or_read}
use Rattle.width_check.specs.declared.typed.TStmt.{the_lemmas}
use Rattle.width_check.specs.Processes.{in_turn, side_by_side, choosing, repeating, choice_count}
use Rattle.width_check.specs.Typed.{program_of}
use Rattle.width_check.specs.Typing.{IsProcess}
use Rattle.width_check.specs.View.{process_of, members_in, choices_in}
use Rattle.handshake_expand.specs.declared.parts.PartKind.TheVariants.{Loop, Sequence, Parallel, Select, Again}
use Rattle.handshake_expand.specs.Layout.{size_of}
use Rattle.handshake_expand.specs.Answers.{turn_answer, bodies_from}
use Rattle.handshake_expand.specs.PartTree.{no_children, and_child, expanded, expanded_in_turn, expanded_branches, expanded_bodies, own_before}
use Rattle.handshake_expand.specs.Sites.{own_sites, sites_in, sites_in_turn, sites_in_branches, sites_in_bodies}
use Rattle.handshake_expand.proofs.Branches.{branch_size_here, branch_expanded_here, branch_sites_here, branch_size_end, branch_expanded_end, body_size_here, body_expanded_here, body_sites_here, arm_typed, body_size_end, body_expanded_end, body_sites_end, choosing_sites, choosing_size, guards_formed, three_each, sites_more, sites_done}
use Rattle.handshake_expand.proofs.Rows.{then_is, beside_is, select_is, members_counted, arms_counted}
use Rattle.handshake_expand.proofs.Taken.{taken, asked, told}
use Rattle.handshake_expand.proofs.Trees.{in_front, front_more, front_done, child_count, child_answer, made_part, same_part}
use Rattle.handshake_expand.proofs.Turns.{this_typed, size_here, size_last, answer_here, answer_last, expanded_here, expanded_last, sites_here, sites_last}
use Rattle.handshake_expand.proofs.tree.+parts.Goals as goal
use Rattle.handshake_expand.proofs.tree.+parts.Goals.{selection-then-again, selection-else-again}

-- sequences

pub sequence-overflow_add-next : goal.sequence-overflow_add-next
sequence-overflow_add-next t c =
    let size = size_here (program_of c.args.program.now) c.args.members.now c.loop-place.place _ c.index-members-place.is (omega arith) in
    omega (arith, size, c.loop-place.invariant.size, c.requires.room)

pub sequence-part-child-requires : goal.sequence-part-child-requires
sequence-part-child-requires t c =
    let size = size_here (program_of c.args.program.now) c.args.members.now c.loop-place.place _ c.index-members-place.is (omega arith) in (
      search (rules, the_lemmas, get_or_read),
      (
        (this_typed _ _ c.args.members.now c.loop-place.place _ c.index-members-place.is (omega arith) c.loop-place.invariant.formed).0,
        omega (arith, size, c.loop-place.invariant.size, c.requires.room),
      ),
    )

pub sequence-overflow_add-asked : goal.sequence-overflow_add-asked
sequence-overflow_add-asked t c =
    let size = size_here (program_of c.args.program.now) c.args.members.now c.loop-place.place _ c.index-members-place.is (omega arith) in
    omega (arith, size, c.loop-place.invariant.size, c.requires.room)

pub sequence-overflow_add-next-in-loop-place : goal.sequence-overflow_add-next-in-loop-place
sequence-overflow_add-next-in-loop-place t c =
    let p = program_of c.args.program.now in
    let size = size_here p c.args.members.now c.loop-place.place _ c.index-members-place.is (omega arith) in
    let made = taken c.part-child.result _ _ _ c.part-child.ensures.sites c.part-child.ensures.part c.in_ok-next.ensures in
    let count = made.3.1 ∙ child_count made.0 p _ _ _ made.2 in
    omega (arith, size, count, c.loop-place.invariant.size, c.requires.room)

pub sequence-overflow_add-next-in-loop-place-2 : goal.sequence-overflow_add-next-in-loop-place-2
sequence-overflow_add-next-in-loop-place-2 t c =
    let p = program_of c.args.program.now in
    let size = size_here p c.args.members.now c.loop-place.place _ c.index-members-place.is (omega arith) in
    let made = taken c.part-child.result _ _ _ c.part-child.ensures.sites c.part-child.ensures.part c.in_ok-next.ensures in
    let count = made.3.1 ∙ child_count made.0 p _ _ _ made.2 in
    omega (arith, size, count, c.loop-place.invariant.size, c.requires.room)

pub sequence-loop-place-preserved : goal.sequence-loop-place-preserved
sequence-loop-place-preserved t c =
    let p = program_of c.args.program.now in
    let members = c.args.members.now in
    let i = c.loop-place.place in
    let s = c.index-members-place.result in
    let at = c.index-members-place.is in
    let next = c.loop-place.next in
    let count = c.in_ok-next.field-0 in
    let made = taken c.part-child.result _ _ _ c.part-child.ensures.sites c.part-child.ensures.part c.in_ok-next.ensures in
    let behind = members_in (drop (i + 1) members) in
    let within : i + 1 < length members = omega arith in
    let size = size_here p members i s at within in
    let counted = made.3.1 ∙ child_count made.0 p (process_of s) next (next + 3) made.2 in
    let step : next + 3 + size_of p (process_of s) ≡ next + (3 + count) = omega (arith, counted) in
    record {
      children = front_more c.loop-place.children.items c.add_child.new.children.items made.0 (expanded p (process_of s) next (next + 3)) _ _ _ made.3.0 made.2
          (expanded_here p members i s at c.loop-place.asked next within
          ∙ ap (λ n. and_child (expanded p (process_of s) next (next + 3)) (expanded_in_turn p behind (next + 2) n)) step)
          c.loop-place.invariant.children;
      sites = sites_more c.loop-place.sites.items c.part-child.new.sites.items (sites_in p (own_sites p) (process_of s) (next + 3)) _ _ _ made.1
          (sites_here p members i s at (own_sites p) next within
          ∙ ap (λ n. sites_in p (own_sites p) (process_of s) (next + 3) ++ sites_in_turn p (own_sites p) behind n) step)
          c.loop-place.invariant.sites;
      size = omega (arith, size, step, c.loop-place.invariant.size);
      answer = ap (turn_answer p behind) (sym step) ∙ (sym (answer_here p members i s at next within) ∙ c.loop-place.invariant.answer);
      formed = (this_typed _ _ members i s at (omega (arith, within)) c.loop-place.invariant.formed).1;
      low = omega (arith, c.loop-place.invariant.low);
    }

pub sequence-part-child-requires-2 : goal.sequence-part-child-requires-2
sequence-part-child-requires-2 t c =
    let p = program_of c.args.program.now in
    let members = c.args.members.now in
    let i = c.loop-place.place in
    let next = c.loop-place.next in
    let s = c.index-members-last.result in
    let end : length members - 1 ≡ i = omega arith in
    let whole : i + 1 ≡ length members = omega (arith, end, c.requires.process.0, members_counted members) in
    let at : s ≡ get_or members i s = c.index-members-last.is ∙ ap (λ n. get_or members n s) end in (
      search (rules, the_lemmas, get_or_read),
      (
        (this_typed _ _ members i s at (omega (arith, whole)) c.loop-place.invariant.formed).0,
        omega (arith, size_last p members i s at whole, c.loop-place.invariant.size, c.requires.room),
      ),
    )

pub sequence-finished-requires : goal.sequence-finished-requires
sequence-finished-requires t c =
    let p = program_of c.args.program.now in
    let members = c.args.members.now in
    let i = c.loop-place.place in
    let next = c.loop-place.next in
    let s = c.index-members-last.result in
    let end : length members - 1 ≡ i = omega arith in
    let whole : i + 1 ≡ length members = omega (arith, end, c.requires.process.0, members_counted members) in
    let at : s ≡ get_or members i s = c.index-members-last.is ∙ ap (λ n. get_or members n s) end in
    let size = size_last p members i s at whole in
    record {
      low = c.loop-place.invariant.low;
      room = asked c.part-child-2.result _ _ _
          (λ made sites is. omega (arith, size, child_count made p _ _ _ is, c.loop-place.invariant.size, c.loop-place.invariant.low, c.requires.room))
          c.part-child-2.ensures.sites c.part-child-2.ensures.part;
    }

pub sequence-returns : goal.sequence-returns
sequence-returns t c =
    let p = program_of c.args.program.now in
    let members = c.args.members.now in
    let i = c.loop-place.place in
    let next = c.loop-place.next in
    let s = c.index-members-last.result in
    let end : length members - 1 ≡ i = omega arith in
    let whole : i + 1 ≡ length members = omega (arith, end, c.requires.process.0, members_counted members) in
    let at : s ≡ get_or members i s = c.index-members-last.is ∙ ap (λ n. get_or members n s) end in
    let size = size_last p members i s at whole in
    record {
      part = told c.finished.result c.part-child-2.result _ _ _ _
          (λ all made sites is h. h ∙ same_part Sequence Sequence c.args.request _ _ c.args.from _ _ _ _ refl
          (child_answer made p (process_of s) c.loop-place.asked next is ∙ (sym (answer_last p members i s at next whole) ∙ c.loop-place.invariant.answer))
          (omega (arith, size, child_count made p _ _ _ is, c.loop-place.invariant.size, c.loop-place.invariant.low))
          (front_done _ no_children _ refl
          (front_more c.loop-place.children.items _ made (expanded p (process_of s) c.loop-place.asked next) _ no_children _ refl is
          (expanded_last p members i s at c.loop-place.asked next whole) c.loop-place.invariant.children)))
          c.part-child-2.ensures.sites c.part-child-2.ensures.part c.finished.ensures;
      sites = told c.finished.result c.part-child-2.result _ _ _ _
          (λ all made sites is h. sites ∙ (ap (λ xs. c.loop-place.sites.items ++ xs) (sym (sites_last p members i s at (own_sites p) next whole))
          ∙ c.loop-place.invariant.sites))
          c.part-child-2.ensures.sites c.part-child-2.ensures.part c.finished.ensures;
    }

-- parallel compositions

pub parallel-part-child-requires : goal.parallel-part-child-requires
parallel-part-child-requires t c =
    let p = program_of c.args.program.now in
    let branches = c.args.branches.now in
    let i = c.loop-branch.branch-index in
    let size = branch_size_here p branches i _ c.loop-branch-test.true c.branch-item.is in (
      search (rules, the_lemmas, get_or_read),
      (
        (this_typed _ _ branches i _ c.branch-item.is c.loop-branch-test.true c.loop-branch.invariant.formed).0,
        omega (arith, size, c.loop-branch.invariant.size, c.requires.room),
      ),
    )

pub parallel-overflow_add-next-in-loop-branch : goal.parallel-overflow_add-next-in-loop-branch
parallel-overflow_add-next-in-loop-branch t c =
    let p = program_of c.args.program.now in
    let size = branch_size_here p c.args.branches.now c.loop-branch.branch-index _ c.loop-branch-test.true c.branch-item.is in
    let made = taken c.part-child.result _ _ _ c.part-child.ensures.sites c.part-child.ensures.part c.in_ok-next.ensures in
    let count = made.3.1 ∙ child_count made.0 p _ _ _ made.2 in
    omega (arith, size, count, c.loop-branch.invariant.size, c.requires.room)

pub parallel-overflow_add-next-in-loop-branch-2 : goal.parallel-overflow_add-next-in-loop-branch-2
parallel-overflow_add-next-in-loop-branch-2 t c =
    let p = program_of c.args.program.now in
    let size = branch_size_here p c.args.branches.now c.loop-branch.branch-index _ c.loop-branch-test.true c.branch-item.is in
    let made = taken c.part-child.result _ _ _ c.part-child.ensures.sites c.part-child.ensures.part c.in_ok-next.ensures in
    let count = made.3.1 ∙ child_count made.0 p _ _ _ made.2 in
    omega (arith, size, count, c.loop-branch.invariant.size, c.requires.room)

pub parallel-loop-branch-preserved : goal.parallel-loop-branch-preserved
parallel-loop-branch-preserved t c =
    let p = program_of c.args.program.now in
    let branches = c.args.branches.now in
    let i = c.loop-branch.branch-index in
    let s = c.branch-item.result in
    let at = c.branch-item.is in
    let within = c.loop-branch-test.true in
    let next = c.loop-branch.next in
    let count = c.in_ok-next.field-0 in
    let made = taken c.part-child.result _ _ _ c.part-child.ensures.sites c.part-child.ensures.part c.in_ok-next.ensures in
    let behind = members_in (drop (i + 1) branches) in
    let size = branch_size_here p branches i s within at in
    let counted = made.3.1 ∙ child_count made.0 p (process_of s) next (next + 3) made.2 in
    let step : next + 3 + size_of p (process_of s) ≡ next + (3 + count) = omega (arith, counted) in
    record {
      children = front_more c.loop-branch.children.items c.add_child.new.children.items made.0 (expanded p (process_of s) next (next + 3)) _ _ _
          made.3.0 made.2
          (branch_expanded_here p branches i s within at next ∙ ap (λ n. and_child (expanded p (process_of s) next (next + 3)) (expanded_branches p behind n))
          step)
          c.loop-branch.invariant.children;
      sites = sites_more c.loop-branch.sites.items c.part-child.new.sites.items (sites_in p (own_sites p) (process_of s) (next + 3)) _ _ _ made.1
          (branch_sites_here p branches i s within at (own_sites p) next
          ∙ ap (λ n. sites_in p (own_sites p) (process_of s) (next + 3) ++ sites_in_branches p (own_sites p) behind n) step)
          c.loop-branch.invariant.sites;
      size = omega (arith, size, step, c.loop-branch.invariant.size);
      formed = (this_typed _ _ branches i s at within c.loop-branch.invariant.formed).1;
    }

pub parallel-overflow_cast-count : goal.parallel-overflow_cast-count
parallel-overflow_cast-count t c =
    let ms = members_in c.args.branches.now in
    omega (arith, three_each (program_of c.args.program.now) ms, members_counted c.args.branches.now, c.requires.room)

pub parallel-overflow_add-count : goal.parallel-overflow_add-count
parallel-overflow_add-count t c =
    let p = program_of c.args.program.now in
    omega (
      arith,
      branch_size_end p c.args.branches.now c.loop-branch.branch-index c.loop-branch-test.false,
      members_counted c.args.branches.now,
      c.loop-branch.invariant.size,
      c.requires.room,
    )

pub parallel-overflow_add-result : goal.parallel-overflow_add-result
parallel-overflow_add-result t c =
    let p = program_of c.args.program.now in
    omega (
      arith,
      branch_size_end p c.args.branches.now c.loop-branch.branch-index c.loop-branch-test.false,
      members_counted c.args.branches.now,
      c.loop-branch.invariant.size,
      c.requires.room,
    )

pub parallel-returns-clause-part : goal.parallel-returns-clause-part
parallel-returns-clause-part t c =
    let p = program_of c.args.program.now in
    let branches = c.args.branches.now in
    let i = c.loop-branch.branch-index in
    let from = c.args.from in
    let end = branch_size_end p branches i c.loop-branch-test.false in
    let counts : c.loop-branch.next - from + (length branches - 1) ≡ size_of p (side_by_side (members_in branches)) =
    omega (arith, end, members_counted branches, c.loop-branch.invariant.size) in
    made_part Parallel Parallel c.args.request _ _ from _ _ c.loop-branch.children _ refl
    (ap (λ n. from + n - 1) counts)
    counts
    (front_done c.loop-branch.children.items _ _ (branch_expanded_end p branches i c.loop-branch-test.false c.loop-branch.next)
    c.loop-branch.invariant.children)

-- selections

pub selection-overflow_cast-guards : goal.selection-overflow_cast-guards
selection-overflow_cast-guards t c = omega (arith, c.requires.process.1, arms_counted c.args.arms.now)

pub selection-overflow_add-start-2 : goal.selection-overflow_add-start-2
selection-overflow_add-start-2 t c =
    omega (
      arith,
      choosing_size (program_of c.args.program.now) c.args.again (choices_in c.args.arms.now),
      arms_counted c.args.arms.now,
      c.own_nodes.ensures,
      c.requires.room,
    )

pub selection-overflow_add-next : goal.selection-overflow_add-next
selection-overflow_add-next t c =
    omega (
      arith,
      choosing_size (program_of c.args.program.now) c.args.again (choices_in c.args.arms.now),
      arms_counted c.args.arms.now,
      c.own_nodes.ensures,
      c.requires.room,
    )

pub selection-guard_nodes-requires : goal.selection-guard_nodes-requires
selection-guard_nodes-requires t c = guards_formed _ _ (choices_in c.args.arms.now) c.requires.process.2

pub selection-overflow_add-next-2 : goal.selection-overflow_add-next-2
selection-overflow_add-next-2 t c =
    omega (
      arith,
      choosing_size (program_of c.args.program.now) c.args.again (choices_in c.args.arms.now),
      arms_counted c.args.arms.now,
      c.own_nodes.ensures,
      c.guard_nodes.ensures,
      c.requires.room,
    )

pub selection-loop-arm-init : goal.selection-loop-arm-init
selection-loop-arm-init t c =
    let p = program_of c.args.program.now in
    let arms = c.args.arms.now in
    let choices = choices_in arms in
    let again = c.args.again in
    let from = c.args.from in
    let size = choosing_size p again choices in
    let start : from + c.own_nodes.result + length arms ≡ from + own_before again + choice_count choices =
    omega (arith, arms_counted arms, c.own_nodes.ensures) in
    let next : from + c.own_nodes.result + length arms + length arms + c.guard_nodes.result ≡ bodies_from choices (own_before again) from =
    omega (arith, size, arms_counted arms, c.own_nodes.ensures, c.guard_nodes.ensures, c.requires.room) in
    record {
      children = ap (λ xs. in_front xs (expanded_bodies p choices (from + c.own_nodes.result + length arms) (from + c.own_nodes.result + length arms +
          length arms + c.guard_nodes.result))) c.new-children.ensures.items
          ∙ (ap (λ n. expanded_bodies p choices n (from + c.own_nodes.result + length arms + length arms + c.guard_nodes.result)) start
          ∙ ap (expanded_bodies p choices (from + own_before again + choice_count choices)) next);
      sites = ap (λ n. c.args.sites.now.items ++ sites_in_bodies p (own_sites p) choices n) next;
      size = omega (arith, size, next);
      starts = omega (arith, size, start, arms_counted arms);
      formed = c.requires.process.2;
    }

pub selection-part-child-requires : goal.selection-part-child-requires
selection-part-child-requires t c =
    let p = program_of c.args.program.now in
    let arms = c.args.arms.now in
    let i = c.loop-arm.arm-index in
    let size = body_size_here p arms i _ c.loop-arm-test.true c.arm-item.is in (
      search (rules, the_lemmas, get_or_read),
      (
        (arm_typed p arms i _ c.loop-arm-test.true c.arm-item.is _ _ c.loop-arm.invariant.formed).0,
        omega (arith, size, c.loop-arm.invariant.size, c.requires.room),
      ),
    )

pub selection-overflow_add-next-in-loop-arm : goal.selection-overflow_add-next-in-loop-arm
selection-overflow_add-next-in-loop-arm t c =
    let p = program_of c.args.program.now in
    let size = body_size_here p c.args.arms.now c.loop-arm.arm-index _ c.loop-arm-test.true c.arm-item.is in
    let made = taken c.part-child.result _ _ _ c.part-child.ensures.sites c.part-child.ensures.part c.in_ok-next.ensures in
    let count = made.3.1 ∙ child_count made.0 p _ _ _ made.2 in
    omega (arith, size, count, c.loop-arm.invariant.size, c.requires.room)

pub selection-loop-arm-preserved : goal.selection-loop-arm-preserved
selection-loop-arm-preserved t c =
    let p = program_of c.args.program.now in
    let arms = c.args.arms.now in
    let i = c.loop-arm.arm-index in
    let a = c.arm-item.result in
    let at = c.arm-item.is in
    let within = c.loop-arm-test.true in
    let start = c.loop-arm.start in
    let next = c.loop-arm.next in
    let count = c.in_ok-next.field-0 in
    let made = taken c.part-child.result _ _ _ c.part-child.ensures.sites c.part-child.ensures.part c.in_ok-next.ensures in
    let behind = choices_in (drop (i + 1) arms) in
    let size = body_size_here p arms i a within at in
    let counted = made.3.1 ∙ child_count made.0 p (process_of a.body) start next made.2 in
    let step : next + size_of p (process_of a.body) ≡ next + count = omega (arith, counted) in
    record {
      children = front_more c.loop-arm.children.items c.add_child.new.children.items made.0 (expanded p (process_of a.body) start next) _ _ _ made.3.0 made.2
          (body_expanded_here p arms i a within at start next
          ∙ ap (λ n. and_child (expanded p (process_of a.body) start next) (expanded_bodies p behind (start + 1) n)) step)
          c.loop-arm.invariant.children;
      sites = sites_more c.loop-arm.sites.items c.part-child.new.sites.items (sites_in p (own_sites p) (process_of a.body) next) _ _ _ made.1
          (body_sites_here p arms i a within at (own_sites p) next
          ∙ ap (λ n. sites_in p (own_sites p) (process_of a.body) next ++ sites_in_bodies p (own_sites p) behind n) step)
          c.loop-arm.invariant.sites;
      size = omega (arith, size, step, c.loop-arm.invariant.size);
      starts = omega (arith, c.loop-arm.invariant.starts, within);
      formed = (arm_typed p arms i a within at _ _ c.loop-arm.invariant.formed).1;
    }

pub selection-returns-clause-part : goal.selection-returns-clause-part
selection-returns-clause-part t c =
    let p = program_of c.args.program.now in
    let arms = c.args.arms.now in
    let i = c.loop-arm.arm-index in
    let again = c.args.again in
    let kind : c.if-again.result ≡ (if again then Again else Select) = elim c.if-again.branch [
      | selection-then-again w ↦ w.result-is ∙ ap (λ (b : Bool). if b then Again else Select) (sym w.if-again.true)
      | selection-else-again w ↦ w.result-is ∙ ap (λ (b : Bool). if b then Again else Select) (sym w.if-again.false)
    ] in
    let counts : c.loop-arm.next - c.args.from ≡ size_of p (choosing again (choices_in arms)) =
    omega (arith, body_size_end p arms i c.loop-arm-test.false, c.loop-arm.invariant.size) in
    made_part _ _ c.args.request _ _ c.args.from _ _ c.loop-arm.children _ kind refl counts
    (front_done c.loop-arm.children.items _ _ (body_expanded_end p arms i c.loop-arm-test.false c.loop-arm.start c.loop-arm.next) c.loop-arm.invariant.children)

pub selection-returns-clause-sites : goal.selection-returns-clause-sites
selection-returns-clause-sites t c =
    let p = program_of c.args.program.now in
    let arms = c.args.arms.now in
    sites_done c.loop-arm.sites.items _ _ (body_sites_end p arms c.loop-arm.arm-index c.loop-arm-test.false (own_sites p) c.loop-arm.next)
    c.loop-arm.invariant.sites
    ∙ ap (λ xs. c.args.sites.now.items ++ xs) (sym (choosing_sites p (own_sites p) c.args.again (choices_in arms) c.args.from))

-- all statements

pub part-sequence-requires : goal.part-sequence-requires
part-sequence-requires t c =
    let p = program_of c.args.program.now in
    let is : process_of c.args.s.now ≡ in_turn (members_in c.deref.result.now) =
    then_is _ c.in-Then.parts c.in-Then.is ∙ ap (λ xs. in_turn (members_in xs)) (sym c.deref.ensures.value) in
    (search (rules, the_lemmas, get_or_read), (subst (IsProcess p.channels p.vars) is c.requires.process, omega (arith, ap (size_of p) is, c.requires.room)))

pub part-parallel-requires : goal.part-parallel-requires
part-parallel-requires t c =
    let p = program_of c.args.program.now in
    let is : process_of c.args.s.now ≡ side_by_side (members_in c.deref-in-Beside.result.now) = beside_is _ c.in-Beside.parts c.in-Beside.is
    ∙ ap (λ xs. side_by_side (members_in xs)) (sym c.deref-in-Beside.ensures.value) in
    (search (rules, the_lemmas, get_or_read), (subst (IsProcess p.channels p.vars) is c.requires.process, omega (arith, ap (size_of p) is, c.requires.room)))

pub part-selection-requires : goal.part-selection-requires
part-selection-requires t c =
    let p = program_of c.args.program.now in
    let is : process_of c.args.s.now ≡ choosing c.in-Select.again (choices_in c.deref-in-Select.result.now) =
    select_is _ c.in-Select.again c.in-Select.arms c.in-Select.is ∙ ap (λ xs. choosing c.in-Select.again (choices_in xs)) (sym c.deref-in-Select.ensures.value)
    in
    (search (rules, the_lemmas, get_or_read), (subst (IsProcess p.channels p.vars) is c.requires.process, omega (arith, ap (size_of p) is, c.requires.room)))

pub part-part-inner-requires : goal.part-part-inner-requires
part-part-inner-requires t c =
    let p = program_of c.args.program.now in
    let is : process_of c.args.s.now ≡ repeating (process_of c.deref-in-Repeat.result.now) =
    ap process_of c.in-Repeat.is ∙ ap (λ s. repeating (process_of s)) (sym c.deref-in-Repeat.ensures) in
    (search (rules, the_lemmas, get_or_read), (subst (IsProcess p.channels p.vars) is c.requires.process, omega (arith, ap (size_of p) is, c.requires.room)))

pub part-around-requires : goal.part-around-requires
part-around-requires t c =
    let p = program_of c.args.program.now in
    let s = process_of c.deref-in-Repeat.result.now in
    let is : process_of c.args.s.now ≡ repeating s = ap process_of c.in-Repeat.is ∙ ap (λ s. repeating (process_of s)) (sym c.deref-in-Repeat.ensures) in
    asked c.part-inner.result _ _ _ (λ made sites at. omega (arith, ap (size_of p) is, child_count made p _ _ _ at, c.requires.room))
    c.part-inner.ensures.sites c.part-inner.ensures.part

pub part-returns-in-Then : goal.part-returns-in-Then
part-returns-in-Then t c =
    let is : process_of c.args.s.now ≡ in_turn (members_in c.deref.result.now) =
    then_is _ c.in-Then.parts c.in-Then.is ∙ ap (λ xs. in_turn (members_in xs)) (sym c.deref.ensures.value) in
    record { part = rw is c.sequence.ensures.part; sites = rw is c.sequence.ensures.sites }

pub part-returns-in-Beside : goal.part-returns-in-Beside
part-returns-in-Beside t c =
    let is : process_of c.args.s.now ≡ side_by_side (members_in c.deref-in-Beside.result.now) =
    beside_is _ c.in-Beside.parts c.in-Beside.is ∙ ap (λ xs. side_by_side (members_in xs)) (sym c.deref-in-Beside.ensures.value) in
    record { part = rw is c.parallel.ensures.part; sites = rw is c.parallel.ensures.sites }

pub part-returns-in-Select : goal.part-returns-in-Select
part-returns-in-Select t c =
    let again = c.in-Select.again in
    let is : process_of c.args.s.now ≡ choosing again (choices_in c.deref-in-Select.result.now) =
    select_is _ again c.in-Select.arms c.in-Select.is ∙ ap (λ xs. choosing again (choices_in xs)) (sym c.deref-in-Select.ensures.value) in
    record { part = rw is c.selection.ensures.part; sites = rw is c.selection.ensures.sites }

pub part-returns-in-Repeat : goal.part-returns-in-Repeat
part-returns-in-Repeat t c =
    let p = program_of c.args.program.now in
    let s = process_of c.deref-in-Repeat.result.now in
    let is : process_of c.args.s.now ≡ repeating s = ap process_of c.in-Repeat.is ∙ ap (λ s. repeating (process_of s)) (sym c.deref-in-Repeat.ensures) in
    let from = c.args.from in
    record {
      part = told c.around.result c.part-inner.result _ _ _ _
          (λ all made sites at h. h ∙ (same_part Loop Loop c.args.request from from from _ _ (made ∷ []) _ refl refl
          (ap (λ n. 2 + n) (child_count made p s (from + 1) (from + 2) at))
          (ap (λ tree. and_child tree no_children) at)
          ∙ ap (λ q. expanded p q c.args.request from) (sym is)))
          c.part-inner.ensures.sites c.part-inner.ensures.part c.around.ensures;
      sites = told c.around.result c.part-inner.result _ _ _ _
          (λ all made sites at h. sites ∙ ap (λ q. c.args.sites.now.items ++ sites_in p (own_sites p) q from) (sym is))
          c.part-inner.ensures.sites c.part-inner.ensures.part c.around.ensures;
    }
