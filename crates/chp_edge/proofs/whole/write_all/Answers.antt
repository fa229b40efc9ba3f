use Rattle.chp_edge.proofs.Progress.{put_more}
use Rattle.chp_edge.proofs.whole.write_all.Goals as goal

pub loop-done-preserved : goal.loop-done-preserved
loop-done-preserved g c =
    put_more c.in_ok-done.field-0 c.loop-done.invariant c.in_ok-done.ensures.faults c.in_ok-done.ensures.same c.in_ok-done.ensures.within
    c.in_ok-done.ensures.bytes
