use Rattle.std.proofs.Common.{◌++◌, rules, map, arith}
use Rattle.std.proofs.lemmas.List.{get_or_read}
use Rattle.std.proofs.lemmas.List.Elements.{filter-append}
use Rattle.std.specs.Prelude.{is_some}
use Rattle.width_check.specs.View.{process_of}
use Rattle.chp_meaning.specs.declared.left.Left.{the_lemmas}
use Rattle.chp_meaning.specs.Remaining.{remains_of}
use Rattle.chp_meaning.specs.AtOnce.{statements, move_of, stepping}
use Rattle.chp_meaning.specs.Standing.{outset_of}
use Rattle.chp_meaning.proofs.Planning.{inner_remains, carries_part, remains_start, remains_more, remains_next, told_start, told_more}
use Rattle.chp_meaning.proofs.enabled.+list_steps.Goals as goal

pub list_steps-requires : goal.list_steps-requires
list_steps-requires t c =
    let r = inner_remains c.args.left.now c.in-Inside.index c.in-Inside.inner _ c.in-Inside.is c.requires.remains in (
      search (rules, the_lemmas, get_or_read),
      (rw (c.part.ensures, c.deref.ensures) r.1, rw c.part.ensures (carries_part c.args.config.now _ c.in-Inside.index r.0 c.requires.numbers)),
    )

pub list_steps-requires-in-loop-index : goal.list_steps-requires-in-loop-index
list_steps-requires-in-loop-index t c =
    let p = process_of c.args.stmt.now in
    let xs = c.deref-left-items.result.now in
    let more = remains_more p xs c.loop-index.index _ c.loop-index-test.true c.left-item.is c.loop-index.invariant.remains in (
      search (rules, the_lemmas, get_or_read),
      (
        rw c.part-in-loop-index.ensures more.0,
        rw c.part-in-loop-index.ensures
            (carries_part c.args.config.now p c.loop-index.index (omega (arith, c.loop-index-test.true, c.loop-index.invariant.count)) c.requires.numbers),
      ),
    )

pub loop-index-init : goal.loop-index-init
loop-index-init t c =
    let xs = c.deref-left-items.result.now in
    let p = process_of c.args.stmt.now in
    let same = c.deref-left-items.ensures.value in
    let start = remains_start c.args.left.now c.in-Branches.lefts xs p c.in-Branches.is same c.requires.remains in
    record {
      steps = told_start (stepping (outset_of c.args.config.now)) p c.args.left.now c.in-Branches.lefts xs _ c.in-Branches.is same;
      remains = start.1;
      count = start.0;
    }

pub loop-index-preserved : goal.loop-index-preserved
loop-index-preserved t c =
    let xs = c.deref-left-items.result.now in
    let p = process_of c.args.stmt.now in
    let o = outset_of c.args.config.now in
    let i = c.loop-index.index in
    let kept = c.loop-index.invariant in
    record {
      steps = told_more (stepping o) (filter-append (λ q. is_some (move_of o q))) p xs i _ (map (λ s. process_of s.now) c.loop-index.steps.items) _
          (map (λ s. process_of s.now) c.args.steps.now.items ++ stepping o (statements p (remains_of c.args.left.now)))
          c.loop-index-test.true c.left-item.is (rw c.part-in-loop-index.ensures at c.in_ok-list_steps-in-Branches.ensures) kept.steps;
      remains = remains_next p xs i _ c.loop-index-test.true c.left-item.is kept.remains;
      count = kept.count;
    }
