use Rattle.std.proofs.Common.{rules, arith}
use Rattle.std.proofs.lemmas.List.{get_or_read}
use Rattle.width_check.specs.View.{process_of}
use Rattle.chp_meaning.specs.declared.left.Left.{the_lemmas}
use Rattle.chp_meaning.specs.AtOnce.{noted_send, noted_receive}
use Rattle.chp_meaning.proofs.Planning.{inner_remains, runs_part, remains_start, remains_more, folded_start}
use Rattle.chp_meaning.proofs.plan.+note.Goals as goal

pub note-requires : goal.note-requires
note-requires t c =
    let r = inner_remains c.args.left.now c.in-Inside.index c.in-Inside.inner _ c.in-Inside.is c.requires.remains in (
      search (rules, the_lemmas, get_or_read),
      (rw (c.part.ensures, c.deref.ensures) r.1, (rw c.part.ensures (runs_part _ _ c.in-Inside.index r.0 c.requires.channels), c.requires.tables)),
    )

pub loop-index-init : goal.loop-index-init
loop-index-init t c =
    let xs = c.deref-left-items.result.now in
    let p = process_of c.args.stmt.now in
    let same = c.deref-left-items.ensures.value in
    let start = remains_start c.args.left.now c.in-Branches.lefts xs p c.in-Branches.is same c.requires.remains in
    record {
      sends = folded_start (noted_send c.args.waits) p c.args.left.now c.in-Branches.lefts xs c.args.sends.now c.in-Branches.is same;
      receives = folded_start (noted_receive c.args.waits) p c.args.left.now c.in-Branches.lefts xs c.args.receives.now c.in-Branches.is same;
      channels = c.requires.channels;
      tables = c.requires.tables;
      remains = start.1;
      count = start.0;
    }

pub note-requires-in-loop-index : goal.note-requires-in-loop-index
note-requires-in-loop-index t c =
    let p = process_of c.args.stmt.now in
    let xs = c.deref-left-items.result.now in
    let more = remains_more p xs c.loop-index.index _ c.loop-index-test.true c.left-item.is c.loop-index.invariant.remains in (
      search (rules, the_lemmas, get_or_read),
      (
        rw c.part-in-loop-index.ensures more.0,
        (
          rw c.part-in-loop-index.ensures
              (runs_part _ p c.loop-index.index (omega (arith, c.loop-index-test.true, c.loop-index.invariant.count)) c.loop-index.invariant.channels),
          c.loop-index.invariant.tables,
        ),
      ),
    )
