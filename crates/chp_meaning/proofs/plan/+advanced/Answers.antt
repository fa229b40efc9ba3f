use Rattle.std.proofs.Common.{rules, ap, refl, arith}
use Rattle.std.proofs.lemmas.List.{get_or_read}
use Rattle.width_check.specs.View.{process_of}
use Rattle.chp_meaning.specs.declared.left.Left.{the_lemmas}
use Rattle.chp_meaning.specs.Remaining.{several_of}
use Rattle.chp_meaning.specs.Changes.{each_changed}
use Rattle.chp_meaning.specs.AtOnce.{moves_of}
use Rattle.chp_meaning.specs.Standing.{outset_of}
use Rattle.chp_meaning.proofs.Changing.{change_more, done_more, change_end}
use Rattle.chp_meaning.proofs.Planning.{inner_remains, carries_part, remains_start, remains_more, remains_next, moves_append, told_start, told_more}
use Rattle.chp_meaning.proofs.plan.+advanced.Goals as goal

pub advanced-requires : goal.advanced-requires
advanced-requires t c =
    let r = inner_remains c.args.left.now c.in-Inside.index c.in-Inside.inner _ c.in-Inside.is c.requires.remains in (
      search (rules, the_lemmas, get_or_read),
      (
        rw (c.part.ensures, c.deref.ensures) r.1,
        (rw c.part.ensures (carries_part c.args.config.now _ c.in-Inside.index r.0 c.requires.numbers), c.requires.stays),
      ),
    )

pub advanced-requires-in-loop-index : goal.advanced-requires-in-loop-index
advanced-requires-in-loop-index t c =
    let p = process_of c.args.stmt.now in
    let xs = c.deref-left-items.result.now in
    let more = remains_more p xs c.loop-index.index _ c.loop-index-test.true c.left-item.is c.loop-index.invariant.remains in (
      search (rules, the_lemmas, get_or_read),
      (
        rw c.part-in-loop-index.ensures more.0,
        (
          rw c.part-in-loop-index.ensures
              (carries_part c.args.config.now p c.loop-index.index (omega (arith, c.loop-index-test.true, c.loop-index.invariant.count)) c.requires.numbers),
          c.loop-index.invariant.stays,
        ),
      ),
    )

pub loop-index-init : goal.loop-index-init
loop-index-init t c =
    let xs = c.deref-left-items.result.now in
    let p = process_of c.args.stmt.now in
    let same = c.deref-left-items.ensures.value in
    let o = outset_of c.args.config.now in
    let start = remains_start c.args.left.now c.in-Branches.lefts xs p c.in-Branches.is same c.requires.remains in
    record {
      changes = ap (λ cs. each_changed cs (several_of xs)) c.new-changes.ensures.items;
      done = refl;
      stays = refl;
      moves = told_start (moves_of o) p c.args.left.now c.in-Branches.lefts xs c.args.moves.now.items c.in-Branches.is same;
      remains = start.1;
      count = start.0;
    }

pub loop-index-preserved : goal.loop-index-preserved
loop-index-preserved t c =
    let xs = c.deref-left-items.result.now in
    let p = process_of c.args.stmt.now in
    let o = outset_of c.args.config.now in
    let i = c.loop-index.index in
    let kept = c.loop-index.invariant in
    let is = rw c.part-in-loop-index.ensures at c.in_ok-advanced-in-Branches.ensures.left in
    record {
      changes = change_more o p xs i _ c.loop-index.changes.items c.add.new.changes.items c.advanced-in-loop-index.new.change c.loop-index-test.true
          c.left-item.is is c.in_ok-add-in-Branches.ensures.added kept.changes;
      done = done_more o p xs i _ c.advanced-in-loop-index.new.change c.loop-index.all_done c.ends-all_done.result _ c.loop-index-test.true c.left-item.is is
          c.ends-all_done.ensures refl kept.done;
      stays = c.add.ensures.stays;
      moves = told_more (moves_of o) (moves_append o) p xs i _ c.loop-index.moves.items _ _ c.loop-index-test.true c.left-item.is
          (rw c.part-in-loop-index.ensures at c.in_ok-advanced-in-Branches.ensures.moves) kept.moves;
      remains = remains_next p xs i _ c.loop-index-test.true c.left-item.is kept.remains;
      count = kept.count;
    }

pub returns-after-loop-index-clause-left : goal.returns-after-loop-index-clause-left
returns-after-loop-index-clause-left t c =
    change_end (outset_of c.args.config.now) (process_of c.args.stmt.now) c.args.left.now c.in-Branches.lefts c.deref-left-items.result.now c.loop-index.index
    c.loop-index.changes.items c.loop-index.all_done c.set_branches.new.change c.in-Branches.is c.deref-left-items.ensures.value c.loop-index-test.false
    c.set_branches.ensures c.loop-index.invariant.changes c.loop-index.invariant.done
