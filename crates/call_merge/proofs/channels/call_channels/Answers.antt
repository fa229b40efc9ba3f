use Rattle.std.proofs.Common.{sym}
use Rattle.chp_syntax.specs.View.{procedure_of}
use Rattle.call_merge.proofs.PlainPrograms.{channel_more}
use Rattle.call_merge.proofs.channels.call_channels.Goals as goal

pub loop-procedure-preserved : goal.loop-procedure-preserved
loop-procedure-preserved c = channel_more c.args.procs.now c.loop-procedure.procedure-index c.procedure-item.result c.loop-procedure.made.items _
    c.call_channel.result c.loop-procedure-test.true c.procedure-item.is c.loop-procedure.invariant c.in_ok-push.ensures.items
    (c.call_channel.ensures (procedure_of c.procedure-item.result) (sym c.in_ok-name.ensures))
