use Rattle.peer_bench.proofs.Resting.{rests_under}
use Rattle.peer_bench.proofs.laws.bench_rests_are_rests.Goals as goal

pub returns : goal.returns
returns c = λ s picks notes was is ran net by rest. rests_under s picks notes was is ran net by rest
