use Rattle.std.proofs.Common.{◌≡◌, length, ap, sym, rules, arith}
use Rattle.std.proofs.lemmas.List.{get_or_read}
use Rattle.width_check.specs.declared.typed.TStmt.{the_lemmas}
use Rattle.width_check.proofs.Statements.{at_least, in_range, below_range, member_wrong, all_members, members_so, guard_wrong, body_wrong, all_arms, arms_so, group_no, select_no, group_so, select_so, told_of, skip_told}
use Rattle.width_check.proofs.fitting.+is_process.Goals as goal
use Rattle.width_check.proofs.fitting.+is_process.Goals.{then-not-is_of_width-via-then-not-is_of_width, then-not-is_of_width-via-else-not-is_of_width+then-not-is_process}

pub returns-then-not-is_process-2 : goal.returns-then-not-is_process-2
returns-then-not-is_process-2 t c =
    group_no _ _ _ _ _ c.in-Then.is c.deref-part-items.ensures.value (member_wrong _ _ _ c.loop-part.part-index _ _ c.loop-part-test.true c.part-item.is
    c.loop-part.invariant c.is_process-in-loop-part.ensures c.if-not-is_process-2.true)

pub returns-then-not-is_of_width : goal.returns-then-not-is_of_width
returns-then-not-is_of_width t c =
    elim c.then-not-is_of_width.branch [
      | then-not-is_of_width-via-then-not-is_of_width w ↦ select_no _ _ _ _ _ _ c.in-Select.is c.deref-arm-items.ensures.value
          (guard_wrong _ _ _ c.loop-arm.arm-index _ _ c.loop-arm-test.true c.arm-item.is c.loop-arm.invariant c.is_of_width.ensures w.if-not-is_of_width.true)
      | then-not-is_of_width-via-else-not-is_of_width+then-not-is_process w ↦ select_no _ _ _ _ _ _ c.in-Select.is c.deref-arm-items.ensures.value
          (body_wrong _ _ _ c.loop-arm.arm-index _ _ c.loop-arm-test.true c.arm-item.is c.loop-arm.invariant w.is_process.ensures
          w.if-not-is_process.true)
    ]

pub returns-after-loop-part : goal.returns-after-loop-part
returns-after-loop-part t c =
    group_so _ _ _ _ _ _ c.in-Then.is c.deref-part-items.ensures.value (all_members _ _ _ c.loop-part.part-index c.loop-part-test.false c.loop-part.invariant)
    (at_least 2 _ _ (omega (arith, c.len-in-Then.ensures, ap length c.deref-part-items.ensures.value)))

pub returns-then-len-ge1 : goal.returns-then-len-ge1
returns-then-len-ge1 t c =
    let count : c.len-then-len-ge1.result ≡ length c.deref-arm-items.result.now =
    omega (arith, c.len-then-len-ge1.ensures, ap length c.deref-arm-items.ensures.value) in
    select_so _ _ _ _ _ _ _ c.in-Select.is c.deref-arm-items.ensures.value (all_arms _ _ _ c.loop-arm.arm-index c.loop-arm-test.false c.loop-arm.invariant)
    (in_range _ _ count (omega (arith, count, c.if-len-ge1.true, c.len.ensures, c.len-then-len-ge1.ensures)))

pub returns-else-len-ge1 : goal.returns-else-len-ge1
returns-else-len-ge1 t c =
    let count : c.len.result ≡ length c.deref-arm-items.result.now =
    omega (arith, c.len.ensures, ap length c.deref-arm-items.ensures.value) in
    select_so _ _ _ _ _ _ _ c.in-Select.is c.deref-arm-items.ensures.value (all_arms _ _ _ c.loop-arm.arm-index c.loop-arm-test.false c.loop-arm.invariant)
    (below_range _ _ count c.if-len-ge1.false)

pub returns-in-Skip : goal.returns-in-Skip
returns-in-Skip t c = skip_told _ _ _ c.in-Skip.is

pub returns-in-Assign : goal.returns-in-Assign
returns-in-Assign t c = told_of _ _ _ _ _ c.in-Assign.is c.is_assign.ensures

pub returns-in-Send : goal.returns-in-Send
returns-in-Send t c = told_of _ _ _ _ _ c.in-Send.is c.is_send.ensures

pub returns-in-Receive : goal.returns-in-Receive
returns-in-Receive t c = told_of _ _ _ _ _ c.in-Receive.is c.is_receive.ensures

pub returns-in-Repeat : goal.returns-in-Repeat
returns-in-Repeat t c = told_of _ _ _ _ _ c.in-Repeat.is (told_of _ _ c.in-Repeat.body.value c.deref.result.now _ (sym c.deref.ensures)
    c.is_process-in-Repeat.ensures)

pub is_process-requires : goal.is_process-requires
is_process-requires t c = search (rules, the_lemmas, get_or_read)

pub is_process-requires-in-loop-part : goal.is_process-requires-in-loop-part
is_process-requires-in-loop-part t c = search (rules, the_lemmas, get_or_read)

pub is_process-requires-in-Repeat : goal.is_process-requires-in-Repeat
is_process-requires-in-Repeat t c = search (rules, the_lemmas, get_or_read)

pub loop-part-init : goal.loop-part-init
loop-part-init t c = record { whole = λ all. all; rest = λ all. all }

pub loop-part-preserved : goal.loop-part-preserved
loop-part-preserved t c = members_so _ _ _ c.loop-part.part-index _ _ c.loop-part-test.true c.part-item.is c.loop-part.invariant
    c.is_process-in-loop-part.ensures c.if-not-is_process-2.false

pub loop-arm-init : goal.loop-arm-init
loop-arm-init t c = record { whole = λ all. all; rest = λ all. all }

pub loop-arm-preserved : goal.loop-arm-preserved
loop-arm-preserved t c = arms_so _ _ _ c.loop-arm.arm-index _ _ _ c.loop-arm-test.true c.arm-item.is c.loop-arm.invariant c.is_of_width.ensures
    c.if-not-is_of_width.false c.is_process.ensures c.if-not-is_process.false
