use Rattle.std.proofs.Common.{arith}
use Rattle.slack_buffer.proofs.FreeNames.{last_free, free_by, taken_more}
use Rattle.slack_buffer.proofs.names.free_names.Goals as goal

pub returns-then-not-is_taken-clause-free : goal.returns-then-not-is_taken-clause-free
returns-then-not-is_taken-clause-free c = free_by c.args.decls.now c.loop-number.number c.in_ok-names.names.copy c.in_ok-names.names.slot c.is_taken.result
    c.is_taken.ensures c.in_ok-names.ensures.copy c.in_ok-names.ensures.slot c.if-not-is_taken.true c.loop-number.invariant.taken

pub loop-number-preserved : goal.loop-number-preserved
loop-number-preserved c = record {
  taken = taken_more c.args.decls.now c.loop-number.number c.in_ok-names.names.copy c.in_ok-names.names.slot c.is_taken.result
      c.is_taken.ensures c.in_ok-names.ensures.copy c.in_ok-names.ensures.slot c.if-not-is_taken.false c.loop-number.invariant.taken;
  most = c.loop-number.invariant.most;
  few = c.loop-number.invariant.few;
}

pub returns-clause-free : goal.returns-clause-free
returns-clause-free c = last_free c.args.decls.now c.loop-number.invariant.few (λ j h. c.loop-number.invariant.taken j (omega (arith, h)))
