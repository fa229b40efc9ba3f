use Rattle.std.proofs.Common.{◌≡◌, ◌+◌, ◌*◌, ◌<◌, length, sym, ap, subst, ◌∙◌, arith}
use Rattle.std.specs.Prelude.{max, slice_index, if◌then◌else◌}
use Rattle.width_check.specs.Processes.{Process, choosing, member_count}
use Rattle.width_check.specs.Typed.{program_of}
use Rattle.width_check.specs.Typing.{IsProcess, AreProcesses, AreChoices}
use Rattle.width_check.specs.View.{members_in, choices_in}
use Rattle.handshake_expand.specs.Layout.{capped}
use Rattle.handshake_expand.proofs.Rows.{then_is, beside_is, select_is, no_more_members, no_more_arms, members_counted}
use Rattle.handshake_expand.proofs.Turns.{turn_typed, this_typed}
use Rattle.handshake_expand.specs.PartTree.{HasFormedGuards}
use Rattle.round_time.specs.Longest.{guards_depth}
use Rattle.round_time.specs.Phases.{over_statements, turn_statements, each_statements, choice_statements, branch_down}
use Rattle.pace_bound.specs.Noting.{of_step}
use Rattle.pace_bound.proofs.Members.{formed_guards}
use Rattle.pace_bound.proofs.Holding.{step_saturates, turn_step, each_capped, choices_capped, choosing_statements}
use Rattle.pace_bound.proofs.Ending.{stepped, ended, same_capped, both_raised}
use Rattle.pace_bound.proofs.site.+note_steps.Goals as goal

pub loop-place-init : goal.loop-place-init
loop-place-init t c =
    let P = program_of c.args.program.now in
    let typed = turn_typed _ _ _ c.in-Then.parts c.in-Then.is c.requires.process in
    let none : c.args.at.held + 0 ≡ c.args.at.held = omega arith in record {
      sized = omega arith;
      raised = λ k h. ap (λ n. max (slice_index c.args.table.now k)
          (capped (turn_statements P (of_step P c.args.noted k) n c.args.at.down (members_in c.in-Then.parts.items)))) none;
      formed = typed.1;
    }

pub loop-part-init : goal.loop-part-init
loop-part-init t c =
    let facts = subst (λ (s : Process). IsProcess c.args.program.now.channels c.args.program.now.vars s) (beside_is _ _ c.in-Beside.is) c.requires.process in
    record {
      sized = omega arith;
      raised = λ k h. omega arith;
      formed = subst (λ l. AreProcesses c.args.program.now.channels c.args.program.now.vars (members_in l)) (sym c.deref-part-items.ensures.value) facts.1;
    }

pub loop-place-preserved : goal.loop-place-preserved
loop-place-preserved t c =
    let P = program_of c.args.program.now in
    let items = c.in-Then.parts.items in
    let i = c.loop-place.place in
    let s = c.index.result.now in
    let its = c.of_member-its.result in
    let said = rw c.deref.ensures.value at c.of_member-its.ensures in
    let inside : i < length items = omega (arith, c.len-place-end.ensures, c.in-Then.parts.ok.0) in record {
      sized = c.note_steps.ensures.sized ∙ c.loop-place.invariant.sized;
      raised = λ k h.
          stepped _ _ _ _ _ _ (c.loop-place.invariant.raised k h)
          (c.note_steps.ensures.each k (let l = c.loop-place.invariant.sized in omega arith))
          (turn_step P (of_step P c.args.noted k) (step_saturates P c.args.noted k) c.args.at.held c.args.at.down its.held its.down i items s inside
          c.index.ensures said.last_held said.last_down said.other_held said.other_down);
      formed = (this_typed _ _ items i s c.index.ensures inside c.loop-place.invariant.formed).1;
    }

pub of_arm-its-requires : goal.of_arm-its-requires
of_arm-its-requires t c =
    let facts = subst (λ (s : Process). IsProcess c.args.program.now.channels c.args.program.now.vars s) (select_is _ _ _ c.in-Select.is) c.requires.process in
    subst (λ l. HasFormedGuards (choices_in l)) (sym c.deref-in-Select.ensures.value)
    (formed_guards c.args.program.now.channels c.args.program.now.vars (choices_in c.in-Select.arms.items) facts.2)

pub loop-arm-init : goal.loop-arm-init
loop-arm-init t c =
    let facts = subst (λ (s : Process). IsProcess c.args.program.now.channels c.args.program.now.vars s) (select_is _ _ _ c.in-Select.is) c.requires.process in
    record {
      sized = c.note_step.ensures.sized;
      raised = λ k h. omega arith;
      formed = subst (λ l. AreChoices c.args.program.now.channels c.args.program.now.vars (choices_in l)) (sym c.deref-arm-items.ensures.value) facts.2;
    }

pub returns-after-loop-place : goal.returns-after-loop-place
returns-after-loop-place t c =
    let P = program_of c.args.program.now in
    let items = c.in-Then.parts.items in
    let is = then_is _ _ c.in-Then.is in
    let none = no_more_members items c.loop-place.place (omega (arith, c.len-place-end.ensures, c.in-Then.parts.ok.0)) in record {
      sized = c.loop-place.invariant.sized;
      each = λ k h.
          ended _ _ _ _ _ (c.loop-place.invariant.raised k h)
          (ap (turn_statements P (of_step P c.args.noted k) (c.args.at.held + 2 * c.loop-place.place) c.args.at.down) none)
          (ap (λ p. capped (over_statements P (of_step P c.args.noted k) c.args.at.held c.args.at.down p)) is);
    }

pub returns-after-loop-part : goal.returns-after-loop-part
returns-after-loop-part t c =
    let P = program_of c.args.program.now in
    let items = c.deref-part-items.result.now in
    let is = beside_is _ _ c.in-Beside.is in
    let all = members_in c.in-Beside.parts.items in
    let count : member_count all ≡ c.len.result = let n = members_counted c.in-Beside.parts.items in omega (arith, n, c.len.ensures, c.in-Beside.parts.ok.0) in
    let down = c.of_branch-its.ensures.down all count in
    let none = no_more_members items c.loop-part.part-index c.loop-part-test.false in record {
      sized = c.loop-part.invariant.sized;
      each = λ k h.
          let f = of_step P c.args.noted k in
          ended _ _ _ _ _ (c.loop-part.invariant.raised k h) (ap (each_statements P f c.of_branch-its.result.down) none)
          (ap (λ p. capped (over_statements P f c.args.at.held c.args.at.down p)) is
          ∙ (sym (each_capped P f (step_saturates P c.args.noted k) c.of_branch-its.result.down (branch_down all c.args.at.held c.args.at.down) all
          (same_capped _ _ down))
          ∙ ap (λ l. capped (each_statements P f c.of_branch-its.result.down (members_in l))) (sym c.deref-part-items.ensures.value)));
    }

pub returns-after-loop-arm : goal.returns-after-loop-arm
returns-after-loop-arm t c =
    let P = program_of c.args.program.now in
    let items = c.deref-arm-items.result.now in
    let is = select_is _ _ _ c.in-Select.is in
    let its = c.of_arm-its.result in
    let again = c.in-Select.again in
    let cs = choices_in c.in-Select.arms.items in
    let said = rw c.deref-in-Select.ensures.value at c.of_arm-its.ensures in
    let none = no_more_arms items c.loop-arm.arm-index c.loop-arm-test.false in record {
      sized = c.loop-arm.invariant.sized;
      each = λ k h.
          let f = of_step P c.args.noted k in
          let held = c.args.at.held in
          let down = c.args.at.down in
          let whole : capped (choice_statements P f its.held its.down (choices_in items)) ≡
          capped (choice_statements P f (if again then 4 else (held + 3)) (if again then (3 + guards_depth cs) else (1 + down)) cs) =
          ap (λ l. capped (choice_statements P f its.held its.down (choices_in l))) c.deref-arm-items.ensures.value
          ∙ choices_capped P f (step_saturates P c.args.noted k) its.held (if again then 4 else (held + 3)) its.down
          (if again then (3 + guards_depth cs) else (1 + down)) cs (same_capped _ _ said.held) (same_capped _ _ said.down) in
          both_raised _ _ _ (f held down (choosing again cs)) _ (ended _ _ _ _ _ (c.loop-arm.invariant.raised k h)
          (ap (choice_statements P f its.held its.down) none) (sym whole))
          (c.note_step.ensures.each k h ∙ ap (λ p. max (slice_index c.args.table.now k) (capped (f held down p))) is)
          (ap (λ p. over_statements P f held down p) is ∙ choosing_statements P f (step_saturates P c.args.noted k) again cs held down);
    }
