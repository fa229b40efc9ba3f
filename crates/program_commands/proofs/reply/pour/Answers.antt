use Rattle.std.proofs.Common.{[], refl, sym, append-nil, arith}
use Rattle.program_commands.proofs.Pouring.{none_left, on_err, poured_more, poured_front, poured_all}
use Rattle.program_commands.proofs.reply.pour.Goals as goal

pub loop-count-init : goal.loop-count-init
loop-count-init g c = record {
  faults = omega arith;
  same = refl;
  within = omega (arith, c.next-count.ensures.count, c.next-count.auto.piece);
  gone = [];
  rest = c.next-count.ensures.text;
  told = λ t. sym (append-nil _);
  over = none_left _ c.next-count.ensures.end c.next-count.ensures.text;
}

pub loop-count-preserved : goal.loop-count-preserved
loop-count-preserved g c =
    poured_more c.loop-count.invariant c.write_all.ensures.faults c.write_all.ensures.same c.in_ok-write_all.ensures.whole
    c.next-count-in-loop-count.ensures.text
    (omega (arith, c.next-count-in-loop-count.ensures.count, c.next-count-in-loop-count.auto.piece)) c.next-count-in-loop-count.ensures.end

pub returns-clause-whole : goal.returns-clause-whole
returns-clause-whole g c = poured_all c.loop-count.invariant (omega (arith, c.loop-count-test.false))

pub returns-in_err-write_all-clause-prefix : goal.returns-in_err-write_all-clause-prefix
returns-in_err-write_all-clause-prefix g c = on_err c.from_residual.result (poured_front c.loop-count.invariant c.in_err-write_all.ensures.prefix)
