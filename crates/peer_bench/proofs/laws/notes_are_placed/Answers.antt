use Rattle.peer_bench.specs.Benches.{bench_start}
use Rattle.peer_bench.proofs.Late.{asks_late}
use Rattle.peer_bench.proofs.Placed.{along_placed}
use Rattle.peer_bench.proofs.Seen.{itself}
use Rattle.peer_bench.proofs.laws.notes_are_placed.Goals as goal

pub returns : goal.returns
returns c = record {
  placed = λ s picks notes was is ran by. (along_placed itself s.net (bench_start s.net) was by.noted).placed;
  took = λ s picks notes was is ran by. (along_placed itself s.net (bench_start s.net) was by.noted).took;
  late = λ net is some moves. asks_late net is some;
}
