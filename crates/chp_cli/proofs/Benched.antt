-- What the run on a bench of a net that carries a program comes to.
use Rattle.std.proofs.Common.{◌≡◌, ◌≢◌, ◌⊎◌, ℕ, Bool, true, false, List, None, inl, inr, ap}
use Rattle.std.specs.Prelude.{IsSome}
use Rattle.chp_meaning.specs.Laws.{RoundsHold}
use Rattle.env_script.specs.OneLength.{AllSafe}
use Rattle.env_script.specs.Runs.{IsAtRest, IsPowered, after}
use Rattle.env_script.specs.Scripts.{OfferValue}
use Rattle.event_sim.specs.declared.ran.End.{End}
use Rattle.event_sim.specs.declared.ran.End.TheVariants.{AtRest, Spent}
use Rattle.event_sim.specs.Following.{power_of}
use Rattle.event_sim.specs.Simulating.{RanValue}
use Rattle.peer_bench.specs.declared.note.Note.{Note}
use Rattle.peer_bench.specs.Asking.{PeerValue}
use Rattle.peer_bench.specs.Benches.{SetupValue, IsBenchRun, bench_moves, bench_start}
use Rattle.peer_bench.specs.Growing.{script_by}
use Rattle.prs_core.specs.Nets.{NetValue, IsNet}
use Rattle.width_check.specs.Processes.{TypedProgram}
use Rattle.width_check.specs.Sharing.{MeetsSharing}
use Rattle.bench_commands.specs.HandedIn.{HandedIn}
use Rattle.bench_commands.specs.OnBench.{Benches, setup_for}
use Rattle.bench_commands.specs.Peers.{a_peer}
use Rattle.command_answers.specs.declared.answer.Ending.{Ending}
use Rattle.command_answers.specs.declared.answer.Ending.TheVariants.{Done, Hazard}
use Rattle.command_answers.specs.Answers.{Given, Answer, writes}
use Rattle.command_steps.specs.RunSteps.{an_order}
use Rattle.command_steps.specs.Steps.{a_file, a_net}
use Rattle.command_words.specs.BenchWords.{AskedBench}
use Rattle.grown_commands.proofs.SafeRuns.{all_safe}
use Rattle.run_reports.specs.RunReporting.{ending_for}
use Rattle.chp_cli.specs.BenchedFiles.{IsFileBenched, benched_run}
use Rattle.chp_cli.specs.MadeRuns.{EndsAllAtRest, FollowsRounds}
use Rattle.chp_cli.specs.Simulated.{HoldsCarrying, HoldsCompiled}
use Rattle.chp_cli.proofs.CalmRuns.{file_carries, reported_calm}
use Rattle.chp_cli.proofs.RoundsFollowed.{followed, meets_sharing}

pub bench_written : (b : AskedBench) (given : Given) (handed : HandedIn) → given.tells ≡ true → (end : Ending) (text : List ℕ) →
    Benches b given handed (writes end text) → IsFileBenched b given handed (writes end text)
bench_written b given handed told end text
    (an_order {place = k} named (a_peer {place = l} there (a_file {text = x} gives short (a_net {net = n} is benched)))) = record {
      rules = x;
      net = n;
      place = k;
      which = l;
      held = gives told;
      file = is;
      named = named;
      peer = there;
      benched = benched;
    }

done_calm : (e : End) → (e ≡ AtRest) ⊎ (e ≡ Spent) → ending_for e ≡ Done
done_calm e (inl rest) = ap ending_for rest
done_calm e (inr spent) = ap ending_for spent

module _ (powered : (net : NetValue) (high : Bool) → IsNet net → IsSome net.reset → IsPowered net (power_of net high)) where
  pub benched_safe : ((s : SetupValue) (picks : List ℕ) (notes : List Note) (was is : PeerValue) (ran : RanValue) → IsNet s.net →
      IsBenchRun (λ p. p) s picks notes was is ran → AllSafe s.net (script_by s.net notes) (bench_start s.net) → (ran.end ≡ AtRest) ⊎ (ran.end ≡ Spent))
      → (b : AskedBench) (given : Given) (handed : HandedIn) (p : TypedProgram) → HoldsCarrying given b.net p → (end : Ending) (text : List ℕ) →
      IsFileBenched b given handed (writes end text) → end ≢ Hazard
  benched_safe calm b given handed p holds end text f =
      let against = f.benched.against in
      let run = against.run.run in
      reported_calm _ None against.ran None end text against.written
      (done_calm against.ran.end (calm (setup_for f.net b.steps) _ _ _ _ against.ran f.file.kept run
      (all_safe powered f.net p _ false f.file.kept run.suits (file_carries holds f.held f.file))))

  pub benched_ends : (b : AskedBench) (given : Given) (handed : HandedIn) (p : TypedProgram) → HoldsCarrying given b.net p → (answer : Answer)
      (f : IsFileBenched b given handed answer) → EndsAllAtRest (benched_run b f)
  benched_ends b given handed p holds answer f =
      let run = f.benched.against.run.run in
      run.one_length (all_safe powered f.net p _ false f.file.kept run.suits (file_carries holds f.held f.file))

  pub benched_follow : (hold : (p : TypedProgram) (script : List OfferValue) → MeetsSharing p.body → RoundsHold p script)
      → ((s : SetupValue) (picks : List ℕ) (notes : List Note) (was is : PeerValue) (ran : RanValue) → IsNet s.net →
      IsBenchRun (λ p. p) s picks notes was is ran → ran.end ≡ AtRest →
      IsAtRest s.net (script_by s.net notes) (after s.net (bench_start s.net) (bench_moves s.net notes picks)))
      → ((given : Given) (file : List ℕ) (p : TypedProgram) → HoldsCompiled given file p → HoldsCarrying given file p)
      → (b : AskedBench) (given : Given) (handed : HandedIn) (p : TypedProgram) → HoldsCompiled given b.net p → (answer : Answer)
      (f : IsFileBenched b given handed answer) → FollowsRounds p (benched_run b f)
  benched_follow hold rests carry b given handed p holds answer f =
      let against = f.benched.against in
      let run = against.run.run in
      followed powered hold f.net p _ false f.file.kept (meets_sharing holds) run.suits (file_carries (carry given b.net p holds) f.held f.file) _ run.run
      b.steps against.ran.end None (λ still. rests (setup_for f.net b.steps) _ _ _ _ against.ran f.file.kept run still)
