use Rattle.command_words.specs.BenchWords.{bench_asked}
use Rattle.command_steps.proofs.Stopping.{passed_on}
use Rattle.bench_commands.proofs.BenchStopping.{net_answers, net_stops}
use Rattle.bench_commands.proofs.bench.bench_at.Goals as goal

pub returns-in_err-net-clause-stopped : goal.returns-in_err-net-clause-stopped
returns-in_err-net-clause-stopped g c =
    passed_on c.from_residual.result _ _ c.from_residual.ensures.1
    (net_stops (bench_asked c.args.asked.now) _ _ _ _ _ _ c.in_err-net.field-0.0 c.in_err-net.ensures.stopped)

pub returns-in-Ok-clause-answered : goal.returns-in-Ok-clause-answered
returns-in-Ok-clause-answered g c =
    net_answers (bench_asked c.args.asked.now) _ _ _ _ c.in_ok-net.net c.in_ok-net.ensures.read _ c.in-Ok.ensures.answered

pub returns-in-Ok-clause-asked : goal.returns-in-Ok-clause-asked
returns-in-Ok-clause-asked g c = record { net = c.in_ok-net.net; held = c.in_ok-net.ensures.read; asked = c.in-Ok.ensures.asked }
