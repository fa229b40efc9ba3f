-- What a run of a rule file that `compile` wrote passes follows the rounds of its program.
use Rattle.std.proofs.Common.{◌≡◌, ℕ, ◌≤◌, Bool, false, List, length, Option, None, ◌⊎◌, inl, inr, refl, sym, subst, arith}
use Rattle.std.specs.Prelude.{IsSome}
use Rattle.chp_meaning.specs.Laws.{RoundsHold}
use Rattle.chp_meaning.specs.Rounds.{rounds}
use Rattle.delay_script.specs.TimedRuns.{moved_nodes}
use Rattle.env_script.specs.Environment.{net_channels}
use Rattle.env_script.specs.Runs.{IsAtRest, IsPowered, IsRun, after, begin_at, moves_since_reset}
use Rattle.env_script.specs.Scripts.{OfferValue, IsScript}
use Rattle.event_sim.specs.declared.ran.End.{End}
use Rattle.event_sim.specs.declared.ran.End.TheVariants.{AtRest}
use Rattle.event_sim.specs.Following.{power_of}
use Rattle.event_sim.specs.Simulating.{picked_moves, start_at}
use Rattle.event_sim.proofs.Following.{picked_run}
use Rattle.net_compose.specs.Carries.{Carries, CarriesReset, IsSettled}
use Rattle.prs_core.specs.Nets.{NetValue, IsNet}
use Rattle.width_check.specs.Processes.{TypedProgram}
use Rattle.width_check.specs.Sharing.{MeetsSharing}
use Rattle.command_answers.specs.Answers.{Given, Answer}
use Rattle.command_steps.specs.Orders.{Played}
use Rattle.command_words.specs.SimulateWords.{AskedRun, AskedTiming}
use Rattle.command_words.specs.WavesWords.{AskedWaves}
use Rattle.simulation_commands.specs.Simulating.{power_or_low, simulation_for}
use Rattle.chp_cli.specs.MadeRuns.{FollowsRounds, RunTiming, made_run}
use Rattle.chp_cli.specs.Simulated.{HoldsCarrying, HoldsCompiled, IsFileSimulated, simulated_run}
use Rattle.chp_cli.specs.TimedFiles.{IsFileTimed, timed_run}
use Rattle.chp_cli.specs.TracedFiles.{IsFileTraced, traced_run}
use Rattle.chp_cli.proofs.AgreeingRuns.{follows, since_few}
use Rattle.chp_cli.proofs.CalmRuns.{at_rest, file_carries}

pub meets_sharing : {given : Given} {file : List ℕ} {p : TypedProgram} → HoldsCompiled given file p → MeetsSharing p.body
meets_sharing holds = subst (λ (t : TypedProgram). MeetsSharing t.body) (sym holds.form) holds.accepted.sharing

module _ (powered : (net : NetValue) (high : Bool) → IsNet net → IsSome net.reset → IsPowered net (power_of net high))
    (hold : (p : TypedProgram) (script : List OfferValue) → MeetsSharing p.body → RoundsHold p script) where
  -- at rest all has passed that the program passes
  settled : (n : NetValue) (p : TypedProgram) (script : List OfferValue) (high : Bool) → IsNet n → IsScript (net_channels n) script →
      ((n.reset ≡ None) × Carries n p) ⊎ CarriesReset n p → (ns : List ℕ) → IsRun n script (begin_at n (power_of n high)) ns →
      IsAtRest n script (after n (begin_at n (power_of n high)) ns)
      → (m : ℕ) × (m ≤ length ns) × IsSettled (after n (begin_at n (power_of n high)) ns) (rounds p script m)
  settled n p script high net suits (inl c) ns run rest =
      let low : power_of n high ≡ n.first = first_values n c.0 in
      let fits : IsScript p.channels script = subst (λ cs. IsScript cs script) c.1.channels suits in (
        length ns,
        omega arith,
        subst (λ v. IsSettled (after n (begin_at n v) ns) (rounds p script (length ns))) (sym low)
            ((c.1.runs script fits ns (subst (λ v. IsRun n script (begin_at n v) ns) low run)).rest
            (subst (λ v. IsAtRest n script (after n (begin_at n v) ns)) low rest)),
      )
    where
      first_values : (n : NetValue) → n.reset ≡ None → power_of n high ≡ n.first
      first_values n none = rw none refl
  settled n p script high net suits (inr c) ns run rest =
      let fits : IsScript p.channels script = subst (λ cs. IsScript cs script) c.channels suits in (
        moves_since_reset n.reset ns,
        since_few n.reset ns,
        (c.runs script fits (power_of n high) (powered n high net (subst (λ (o : Option ℕ). IsSome o) (sym c.reset.1) refl)) ns run).0.rest rest,
      )

  pub followed : (n : NetValue) (p : TypedProgram) (script : List OfferValue) (high : Bool) → IsNet n → MeetsSharing p.body
      → IsScript (net_channels n) script → ((n.reset ≡ None) × Carries n p) ⊎ CarriesReset n p → (ns : List ℕ)
      → IsRun n script (begin_at n (power_of n high)) ns → (steps : ℕ) (end : End) (timing : Option RunTiming)
      → (end ≡ AtRest → IsAtRest n script (after n (begin_at n (power_of n high)) ns))
      → FollowsRounds p (made_run n script (begin_at n (power_of n high)) ns steps end timing)
  followed n p script high net sharing suits carries ns run steps end timing resting = record {
    prefix = follows hold powered n p script high net sharing suits carries ns run;
    rest = λ still. settled n p script high net suits carries ns run (resting still);
  }

  module _ (carry : (given : Given) (file : List ℕ) (p : TypedProgram) → HoldsCompiled given file p → HoldsCarrying given file p) where
    pub simulated_follow : (s : AskedRun) (given : Given) (played : Played) (p : TypedProgram) → HoldsCompiled given s.net p → (answer : Answer)
        → (f : IsFileSimulated s given played answer) → FollowsRounds p (simulated_run s f)
    simulated_follow s given played p holds answer f =
        let sim = simulation_for f.net f.script s.steps s.power in
        let moves = picked_moves sim f.run.was.log f.run.is.log in
        followed f.net p f.script sim.high f.file.kept (meets_sharing holds) f.told_is.kept (file_carries (carry given s.net p holds) f.held f.file) moves
        (picked_run f.net f.script (start_at sim) _ f.run.run.picks) s.steps f.ran.end None
        (at_rest f.net f.script (start_at sim) moves s.steps f.ran.end f.file.kept f.run.run.ends)

    pub timed_follow : (t : AskedTiming) (given : Given) (p : TypedProgram) → HoldsCompiled given t.net p → (answer : Answer)
        → (f : IsFileTimed t given answer) → FollowsRounds p (timed_run t f)
    timed_follow t given p holds answer f =
        let high = power_or_low t.power in
        let ms = moved_nodes f.timed.moves in
        followed f.net p f.script high f.file.kept (meets_sharing holds) f.told_is.kept (file_carries (carry given t.net p holds) f.held f.file) ms
        f.timed.run.run t.steps f.timed.ran.end _
        (at_rest f.net f.script (begin_at f.net (power_of f.net high)) ms t.steps f.timed.ran.end f.file.kept f.timed.run.ends)

    pub traced_follow : (w : AskedWaves) (given : Given) (p : TypedProgram) → HoldsCompiled given w.net p → (answer : Answer)
        → (f : IsFileTraced w given answer) → FollowsRounds p (traced_run w f)
    traced_follow w given p holds answer f =
        let ms = moved_nodes f.traced.moves in
        followed f.net p f.script false f.file.kept (meets_sharing holds) f.told_is.kept (file_carries (carry given w.net p holds) f.held f.file) ms
        f.traced.run.run w.steps f.traced.ran.end _
        (at_rest f.net f.script (begin_at f.net (power_of f.net false)) ms w.steps f.traced.ran.end f.file.kept f.traced.run.ends)
