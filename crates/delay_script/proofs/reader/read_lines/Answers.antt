use Rattle.std.proofs.Common.{◌<◌, ◌≤◌, length, ap, ◌∙◌, [], arith, rules}
use Rattle.env_script.proofs.Sayings.{texts}
use Rattle.delay_script.proofs.DelayReads.{begun, counts, skip_line, take_line, refused_at, few_lines, all_read}
use Rattle.delay_script.proofs.reader.read_lines.Goals as goal
use Rattle.delay_script.proofs.reader.read_lines.Goals.{in-Skip, in-Take}

pub loop-at-init : goal.loop-at-init
loop-at-init c = record { ls = []; so_far = begun c.args.names.now _ _ _ c.requires.up c.requires.down c.requires.marks }

pub step_of-requires : goal.step_of-requires
step_of-requires c =
    let told = c.loop-at.told in
    ap length c.deref.ensures.value ∙ (counts c.args.names.now _ _ told.up.items told.down.items told.marks.items c.loop-at.invariant).2

pub note-requires-clause-up : goal.note-requires-clause-up
note-requires-clause-up c =
    let told = c.loop-at.told in
    let taken = rw c.in-Take.is at c.in_ok-step_of.ensures in
    omega (arith, taken.place.within, (counts c.args.names.now _ _ told.up.items told.down.items told.marks.items c.loop-at.invariant).0)

pub note-requires-clause-down : goal.note-requires-clause-down
note-requires-clause-down c =
    let told = c.loop-at.told in
    let taken = rw c.in-Take.is at c.in_ok-step_of.ensures in
    omega (arith, taken.place.within, (counts c.args.names.now _ _ told.up.items told.down.items told.marks.items c.loop-at.invariant).1)

pub note-requires-clause-marks : goal.note-requires-clause-marks
note-requires-clause-marks c =
    let told = c.loop-at.told in
    let taken = rw c.in-Take.is at c.in_ok-step_of.ensures in
    omega (arith, taken.place.within, (counts c.args.names.now _ _ told.up.items told.down.items told.marks.items c.loop-at.invariant).2)

pub overflow_cast-line : goal.overflow_cast-line
overflow_cast-line c =
    let few : length c.deref-line-items.result.now ≤ 4194305 =
    few_lines c.args.text.now _ c.requires.size (ap texts c.deref-line-items.ensures.value ∙ c.in_ok-lines.ensures) in
    let small : c.loop-at.at < 4194305 = omega arith in
    search rules

pub overflow_add-line : goal.overflow_add-line
overflow_add-line c =
    let few : length c.deref-line-items.result.now ≤ 4194305 =
    few_lines c.args.text.now _ c.requires.size (ap texts c.deref-line-items.ensures.value ∙ c.in_ok-lines.ensures) in
    let small : c.loop-at.at < 4194305 = omega arith in
    search rules

pub returns-in-Refused : goal.returns-in-Refused
returns-in-Refused c = record {
  read = tt;
  refused =
      refused_at c.args.names.now c.args.text.now c.deref-line-items.result.now c.loop-at.at _ _ _ c.loop-at.told.marks.items _ c.in-Refused.fault
      (ap texts c.deref-line-items.ensures.value ∙ c.in_ok-lines.ensures) c.loop-at-test.true c.loop-at.invariant c.deref.ensures.value
      (rw c.in-Refused.is at c.in_ok-step_of.ensures);
}

pub loop-at-preserved : goal.loop-at-preserved
loop-at-preserved c =
    elim c.match-branch-3.branch [
      | in-Skip w ↦ rw w.told-is (skip_line c.args.names.now c.deref-line-items.result.now c.loop-at.at _ _ _ _ c.loop-at-test.true c.loop-at.invariant
          (rw w.in-Skip.is at c.in_ok-step_of.ensures))
      | in-Take w ↦ rw w.told-is (take_line c.args.names.now c.deref-line-items.result.now c.loop-at.at _ c.loop-at.told.up.items c.loop-at.told.down.items
          _ _ c.loop-at.told.marks.items _ _ w.in-Take.taken c.requires.distinct c.loop-at-test.true c.loop-at.invariant c.deref.ensures.value
          (rw w.in-Take.is at c.in_ok-step_of.ensures) w.note.ensures.up w.note.ensures.down w.note.ensures.marks)
    ]

pub returns : goal.returns
returns c = record {
  read =
      all_read c.args.names.now c.args.text.now c.deref-line-items.result.now c.loop-at.at c.loop-at.told.up.items c.loop-at.told.down.items
      c.loop-at.told.marks.items (ap texts c.deref-line-items.ensures.value ∙ c.in_ok-lines.ensures) c.loop-at-test.false c.loop-at.invariant;
  refused = tt;
}
