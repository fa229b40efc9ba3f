use Rattle.std.proofs.Common.{◌-◌, length}
use Rattle.chp_edge.proofs.Progress.{PutSoFar}
use Rattle.chp_edge.proofs.whole.write_all.Given as goal

abbrev pub invariant-loop-done : goal.invariant-loop-done
invariant-loop-done g l =
    let K = g.K.Sink in
    PutSoFar (K.faults l.fn.sink) (K.faults l.sink) (K.tells l.fn.sink) (K.tells l.sink) (K.written l.fn.sink) (K.written l.sink) l.text l.done

abbrev pub decreases-loop-done : goal.decreases-loop-done
decreases-loop-done g l = length l.text - l.done
