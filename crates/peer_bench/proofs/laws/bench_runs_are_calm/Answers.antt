use Rattle.peer_bench.proofs.Safe.{ends_calm}
use Rattle.peer_bench.proofs.laws.bench_runs_are_calm.Goals as goal

pub returns : goal.returns
returns c = λ s picks notes was is ran net by safe. ends_calm s picks notes was is ran net by safe
