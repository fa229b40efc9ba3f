use Rattle.std.proofs.Common.{rules, arith}
use Rattle.std.proofs.lemmas.List.{get_or_read}
use Rattle.width_check.specs.declared.typed.TStmt.{the_lemmas}
use Rattle.chp_meaning.proofs.Rows.{then_some, first_members, branch_members, then_begun, begun_more, begun_all}
use Rattle.chp_meaning.proofs.left.+opened.Goals as goal

pub index-requires : goal.index-requires
index-requires t c = omega (arith, then_some c.args.stmt.now c.in-Then.parts c.in-Then.is c.requires, c.in-Then.parts.ok.0)

pub opened-requires : goal.opened-requires
opened-requires t c =
    let some = then_some c.args.stmt.now c.in-Then.parts c.in-Then.is c.requires in
    (search (rules, the_lemmas, get_or_read, some), first_members c.args.stmt.now c.in-Then.parts _ c.in-Then.is c.index.ensures c.requires)

pub opened-requires-in-loop-part : goal.opened-requires-in-loop-part
opened-requires-in-loop-part t c = (
  search (rules, the_lemmas, get_or_read),
  branch_members c.args.stmt.now c.in-Beside.parts c.deref-part-items.result.now c.loop-part.part-index _ c.in-Beside.is c.deref-part-items.ensures.value
      c.loop-part-test.true c.part-item.is c.requires,
)

pub loop-part-preserved : goal.loop-part-preserved
loop-part-preserved t c =
    rw c.in_ok-push-in-Beside.ensures.items (begun_more c.loop-part.lefts.items _ c.deref-part-items.result.now c.loop-part.part-index _ _ c.loop-part-test.true
    c.part-item.is c.in_ok-opened-in-Beside.ensures c.loop-part.invariant)

pub returns-in_ok-opened-in-Then : goal.returns-in_ok-opened-in-Then
returns-in_ok-opened-in-Then t c =
    let some = then_some c.args.stmt.now c.in-Then.parts c.in-Then.is c.requires in
    rw (then_begun c.args.stmt.now c.in-Then.parts _ c.in-Then.is some c.index.ensures, ← c.in_ok-opened-in-Then.ensures) c.inside.ensures

pub returns-after-loop-part : goal.returns-after-loop-part
returns-after-loop-part t c =
    begun_all c.args.stmt.now c.in-Beside.parts c.deref-part-items.result.now c.loop-part.lefts c.loop-part.part-index c.in-Beside.is
    c.deref-part-items.ensures.value c.loop-part-test.false c.loop-part.invariant
