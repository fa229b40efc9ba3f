use Rattle.std.proofs.Common.{◌+◌, length}
use Rattle.program_commands.proofs.Pouring.{PouredSoFar}
use Rattle.program_commands.proofs.reply.pour.Given as goal

abbrev pub invariant-loop-count : goal.invariant-loop-count
invariant-loop-count g l =
    let K = g.K.Sink in
    PouredSoFar (K.faults l.fn.sink) (K.faults l.sink) (K.tells l.fn.sink) (K.tells l.sink) (K.written l.fn.sink) (K.written l.sink) l.fn.streamer l.streamer
    l.piece l.count

abbrev pub decreases-loop-count : goal.decreases-loop-count
decreases-loop-count g l = length l.streamer + l.count
