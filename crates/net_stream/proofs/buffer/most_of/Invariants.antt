use Rattle.std.proofs.Common.{All, take}
use Rattle.net_stream.specs.Rooms.{IsFew}
use Rattle.net_stream.proofs.buffer.most_of.Given as goal

abbrev pub invariant-loop-driver : goal.invariant-loop-driver
invariant-loop-driver l = All (IsFew l.most) (take l.driver-index l.drivers)
