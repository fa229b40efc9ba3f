use Rattle.std.proofs.Common.{refl, ap}
use Rattle.std.specs.Prelude.{is_some, Option}
use Rattle.std.proofs.Common.{ℕ, false, cond, map, length}
use Rattle.env_script.specs.Runs.{begin_at}
use Rattle.std.specs.List.{range_with_len}
use Rattle.event_sim.specs.Following.{power_value}
use Rattle.event_sim.proofs.Wholes.{powered}
use Rattle.peer_bench.proofs.laws.bench_runs_are_runs.Goals as goal

pub returns : goal.returns
returns c = record {
  run = λ s picks notes was is ran by. by.run;
  plain = λ net none. ap (λ (o : Option ℕ). begin_at net (cond (is_some o) (map (power_value net false) (range_with_len 0 (length net.first))) net.first)) none;
  powered = λ net is some. (refl, powered net false is some);
}
