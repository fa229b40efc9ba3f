use Rattle.std.proofs.Common.{◌<◌, true, map, slice_set, ap, ◌∙◌, sym, [], arith, rules}
use Rattle.std.proofs.lemmas.List.{length-map}
use Rattle.env_script.specs.Offers.{offered}
use Rattle.env_script.proofs.ReadLines.{begun, skip_line, take_line, one_offer_each, refused_at, all_told}
use Rattle.env_script.proofs.reader.read_lines.Goals as goal
use Rattle.env_script.proofs.reader.read_lines.Goals.{in-Skip, in-Take}

pub loop-at-init : goal.loop-at-init
loop-at-init c = ([], begun c.args.channels.now _ _ c.requires.offers c.requires.told)

pub overflow_cast-line : goal.overflow_cast-line
overflow_cast-line c =
    let small : c.loop-at.at < 2097153 = omega (arith, c.requires.few) in
    search rules

pub overflow_add-line : goal.overflow_add-line
overflow_add-line c =
    let small : c.loop-at.at < 2097153 = omega (arith, c.requires.few) in
    search rules

pub returns-in-Refused-clause-refused : goal.returns-in-Refused-clause-refused
returns-in-Refused-clause-refused c = λ text cut.
    refused_at c.args.channels.now text c.args.lines.now c.loop-at.at _ _ c.loop-at.told _ c.in-Refused.fault cut c.loop-at-test.true c.loop-at.invariant
    (rw c.in-Refused.is at c.in_ok-step_of.ensures)

pub note-requires-clause-offers : goal.note-requires-clause-offers
note-requires-clause-offers c =
    let step = rw c.in-Take.is at c.in_ok-step_of.ensures in
    omega (arith, step.place.within, length-map c.loop-at.offers offered, one_offer_each _ _ _ _ _ _ c.loop-at.invariant.1)

pub loop-at-preserved : goal.loop-at-preserved
loop-at-preserved c =
    elim c.match-branch-2.branch [
      | in-Skip w ↦ rw (w.offers-is, w.told-is, w.values-is) (skip_line c.args.channels.now c.args.lines.now c.loop-at.at _ _ _ _ c.loop-at-test.true
          c.loop-at.invariant (rw w.in-Skip.is at c.in_ok-step_of.ensures))
      | in-Take w ↦ rw (w.offers-is, w.told-is, w.values-is) (take_line c.args.channels.now c.args.lines.now c.loop-at.at _ _ _ c.loop-at.told _
          c.loop-at.values w.in-Take.taken c.requires.distinct c.loop-at-test.true c.loop-at.invariant
          (rw w.in-Take.is at c.in_ok-step_of.ensures) w.note.ensures.offers w.note.ensures.told)
    ]

pub returns-clause-read : goal.returns-clause-read
returns-clause-read c = all_told c.args.channels.now c.args.lines.now c.loop-at.at c.loop-at.invariant.0 _ _ _ c.loop-at-test.false c.loop-at.invariant.1
