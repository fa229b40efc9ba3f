use Rattle.std.proofs.Common.{refl, arith}
use Rattle.std.proofs.lemmas.Result.{err_from_is_err_and}
use Rattle.std.proofs.lemmas.List.{drop_all}
use Rattle.net_stream.proofs.Puts.{term_begins, term_step, term_step_room, term_over}
use Rattle.net_stream.proofs.guard.literals_text.Goals as goal

pub loop-literal-init : goal.loop-literal-init
loop-literal-init c = record { left = term_begins c.args.net.now c.args.lead c.args.literals.now _ _ _ refl; capacity = omega arith }

pub put-requires : goal.put-requires
put-requires c = c.requires c.loop-literal.literal-index _ c.loop-literal-test.true

pub loop-literal-preserved : goal.loop-literal-preserved
loop-literal-preserved c = record {
  left = term_step c.args.net.now c.args.lead c.loop-literal.next _ c.args.literals.now c.loop-literal.literal-index _ _ _ _ _ _ _ _
      c.in_ok-put.ensures.put c.loop-literal.invariant.left c.loop-literal-test.true refl;
  capacity = omega arith;
}

pub returns-in_err-put-clause-room : goal.returns-in_err-put-clause-room
returns-in_err-put-clause-room c =
    let p = err_from_is_err_and c.from_residual.result c.from_residual.ensures.1 in
    rw p.1
    (term_step_room c.args.net.now c.args.lead c.loop-literal.next c.args.literals.now c.loop-literal.literal-index _ _ _ _ _ _ c.loop-literal.invariant.left
    c.loop-literal-test.true c.in_err-put.ensures.room c.loop-literal.invariant.capacity)

pub returns-clause-put : goal.returns-clause-put
returns-clause-put c =
    term_over c.args.net.now c.args.lead c.loop-literal.next c.args.literals.now _ _ _ _ _
    (drop_all c.loop-literal.literal-index c.args.literals.now c.loop-literal-test.false) c.loop-literal.invariant.left
