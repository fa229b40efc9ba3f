-- What follows from what `bench` answers.
use Rattle.std.specs.Prelude.{◌≡◌, ℕ, List, None, Some}
use Rattle.event_sim.specs.Simulating.{growth}
use Rattle.peer_bench.specs.Benches.{bench_start, bench_moves}
use Rattle.peer_bench.specs.Growing.{script_by}
use Rattle.prs_core.specs.Nets.{NetValue}
use Rattle.bench_commands.specs.HandedIn.{HandedIn}
use Rattle.bench_commands.specs.OnBench.{BenchesNet, notes_grown, setup_for}
use Rattle.bench_commands.specs.Peers.{peer_named}
use Rattle.command_answers.specs.Answers.{Given, Answer}
use Rattle.command_steps.specs.Orders.{place_named}
use Rattle.command_steps.specs.Steps.{IsFileOf}
use Rattle.command_words.specs.BenchWords.{AskedBench}
use Rattle.chp_cli.specs.MadeRuns.{MadeRun, made_run}

-- the file holds the rule file of a net; and the order and the device of the wanted names led to a run of this net on a
-- bench, which is reported
pub record IsFileBenched (b : AskedBench) (given : Given) (handed : HandedIn) (answer : Answer) : Type 0 where
  pub rules : List ℕ
  pub net : NetValue
  pub place : ℕ
  pub which : ℕ
  pub held : given.files b.net ≡ Some rules
  pub file : IsFileOf rules net
  pub named : place_named handed.orders.before b.order ≡ Some place
  pub peer : peer_named handed.peers.before b.peer ≡ Some which
  pub benched : BenchesNet handed place which b.seed (setup_for net b.steps) answer

-- the run that is reported, under the script of all that the device offered and took
abbrev pub benched_run : (b : AskedBench) → {given : Given} {handed : HandedIn} {answer : Answer} →
    IsFileBenched b given handed answer → MadeRun
benched_run b f =
    let against = f.benched.against in
    let notes = notes_grown against.peer_was against.peer_is in
    made_run f.net (script_by f.net notes) (bench_start f.net)
    (bench_moves f.net notes (growth f.benched.was.log f.benched.is.log)) b.steps against.ran.end None
