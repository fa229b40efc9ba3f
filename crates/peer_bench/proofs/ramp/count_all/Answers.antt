use Rattle.std.proofs.Common.{arith}
use Rattle.std.proofs.lemmas.List.{length_push}
use Rattle.peer_bench.proofs.Counted.{counts_pushed}
use Rattle.peer_bench.proofs.ramp.count_all.Goals as goal

pub loop-chan-init : goal.loop-chan-init
loop-chan-init c = record { all = omega (arith, c.args.counts.now.ok.0, c.len-chan.ensures); counted = c.requires }

pub loop-chan-preserved : goal.loop-chan-preserved
loop-chan-preserved c =
    let i = c.loop-chan.invariant in
    record {
      all = rw c.in_ok-push.ensures.items (omega (arith, length_push c.loop-chan.counts.items c.up_to_ten.result, i.all));
      counted = rw c.in_ok-push.ensures.items
          (counts_pushed c.args.log.now c.loop-chan.counts.items c.up_to_ten.result c.loop-chan.chan i.counted i.all c.up_to_ten.ensures);
    }

pub returns-in_err-push : goal.returns-in_err-push
returns-in_err-push c = rw c.in_err-push.ensures.items c.loop-chan.invariant.counted

pub returns : goal.returns
returns c = c.loop-chan.invariant.counted
