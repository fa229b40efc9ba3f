use Rattle.std.proofs.Common.{◌≡◌, ap, ◌∙◌, subst, drop, arith}
use Rattle.width_check.specs.Processes.{Process}
use Rattle.width_check.specs.Typed.{program_of}
use Rattle.width_check.specs.Typing.{IsProcess}
use Rattle.handshake_expand.specs.Layout.{size_of}
use Rattle.handshake_expand.proofs.Rows.{then_is, beside_is, select_is, no_more_members, no_more_arms, members_in, choices_in, members_size, arms_size, members_counted, arms_counted, turn_is, branches_are, choosing_is}
use Rattle.handshake_expand.proofs.count.+statement_nodes.Goals as goal

pub loop-part-init : goal.loop-part-init
loop-part-init t c =
    let p = program_of c.args.program.now in
    let is = then_is _ _ c.in-Then.is in
    let facts = subst (λ (s : Process). IsProcess c.args.program.now.channels c.args.program.now.vars s) is c.requires in
    let size = ap (size_of p) is in
    let turn = turn_is p (members_in c.in-Then.parts.items) in
    let count = members_counted c.in-Then.parts.items in
    rw c.deref-part-items.ensures.value (record {
      counted = omega (arith, size, turn, count, c.len.ensures, c.saturating_sub.ensures, c.saturating_mul-count.ensures);
      formed = facts.1;
      most = omega (arith, c.saturating_mul-count.ensures);
    })

pub loop-branch-init : goal.loop-branch-init
loop-branch-init t c =
    let p = program_of c.args.program.now in
    let is = beside_is _ _ c.in-Beside.is in
    let facts = subst (λ (s : Process). IsProcess c.args.program.now.channels c.args.program.now.vars s) is c.requires in
    let size = ap (size_of p) is in
    let branches = branches_are p (members_in c.in-Beside.parts.items) in
    let count = members_counted c.in-Beside.parts.items in
    rw c.deref-branch-items.ensures.value (record {
      counted = omega (
        arith,
        size,
        branches,
        count,
        c.len-branches.ensures,
        c.saturating_mul.ensures,
        c.saturating_sub-in-Beside.ensures,
        c.saturating_add-count-in-Beside.ensures,
      );
      formed = facts.1;
      most = omega (arith, c.saturating_add-count-in-Beside.ensures);
    })

pub loop-arm-init : goal.loop-arm-init
loop-arm-init t c =
    let p = program_of c.args.program.now in
    let is = select_is _ _ _ c.in-Select.is in
    let facts = subst (λ (s : Process). IsProcess c.args.program.now.channels c.args.program.now.vars s) is c.requires in
    let size = ap (size_of p) is ∙ choosing_is p c.in-Select.again (choices_in c.in-Select.arms.items) in
    let count = arms_counted c.in-Select.arms.items in
    rw c.deref-arm-items.ensures.value (record {
      counted = omega (
        arith,
        size,
        count,
        c.len-in-Select.ensures,
        c.saturating_mul-in-Select.ensures,
        c.own_nodes.ensures,
        c.saturating_add-count-in-Select.ensures,
      );
      formed = facts.2;
      most = omega (arith, c.saturating_add-count-in-Select.ensures);
    })

pub returns-after-loop-part : goal.returns-after-loop-part
returns-after-loop-part t c =
    let none = no_more_members c.deref-part-items.result.now c.loop-part.part-index c.loop-part-test.false in
    let left : members_size (program_of c.args.program.now) (members_in (drop c.loop-part.part-index c.deref-part-items.result.now)) ≡ 0 =
    ap (members_size (program_of c.args.program.now)) none in
    omega (arith, c.loop-part.invariant.counted, c.loop-part.invariant.most, left)

pub returns-after-loop-branch : goal.returns-after-loop-branch
returns-after-loop-branch t c =
    let none = no_more_members c.deref-branch-items.result.now c.loop-branch.branch-index c.loop-branch-test.false in
    let left : members_size (program_of c.args.program.now) (members_in (drop c.loop-branch.branch-index c.deref-branch-items.result.now)) ≡ 0 =
    ap (members_size (program_of c.args.program.now)) none in
    omega (arith, c.loop-branch.invariant.counted, c.loop-branch.invariant.most, left)

pub returns-after-loop-arm : goal.returns-after-loop-arm
returns-after-loop-arm t c =
    let none = no_more_arms c.deref-arm-items.result.now c.loop-arm.arm-index c.loop-arm-test.false in
    let left : arms_size (program_of c.args.program.now) (choices_in (drop c.loop-arm.arm-index c.deref-arm-items.result.now)) ≡ 0 =
    ap (arms_size (program_of c.args.program.now)) none in
    omega (arith, c.loop-arm.invariant.counted, c.loop-arm.invariant.most, left)
