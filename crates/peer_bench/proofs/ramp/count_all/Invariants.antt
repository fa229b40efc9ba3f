use Rattle.std.proofs.Common.{◌≡◌, length}
use Rattle.peer_bench.specs.Devices.{AreCounts}
use Rattle.peer_bench.proofs.ramp.count_all.Given as goal

abbrev pub invariant-loop-chan : goal.invariant-loop-chan
invariant-loop-chan l = record {
  all : length l.counts.items ≡ l.chan;
  counted : AreCounts l.log l.counts.items;
}
