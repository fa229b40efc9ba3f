-- What is simulated of a compiled rule file ends at rest where its program comes to rest and the limit is high enough.
use Rattle.std.proofs.Common.{◌≡◌, ◌∙◌, ◌↔◌, ◌⊎◌, inl, inr, ℕ, suc, ◌*◌, ◌<◌, ◌≤◌, ◌==◌, Bool, true, false, List, [], ◌∷◌, length, Option, Some, None, refl, sym, ap, subst, arith}
use Rattle.std.specs.Prelude.{IsSome}
use Rattle.std.proofs.lemmas.Bool.Decides.{nat_tests}
use Rattle.std.proofs.lemmas.List.{length-append, length-map}
use Rattle.prs_core.specs.Nets.{NetValue, IsNet}
use Rattle.env_script.specs.Environment.{net_channels}
use Rattle.env_script.specs.Scripts.{OfferValue, IsScript}
use Rattle.env_script.specs.Runs.{RunState, IsRun, IsAtRest, IsApart, IsSafeMove, IsPowered, after, begin_at, moved}
use Rattle.env_script.specs.declared.hazard.Hazard.{Hazard}
use Rattle.env_script.specs.Hazards.{hazard_of}
use Rattle.env_script.specs.OneLength.{AllSafe}
use Rattle.event_sim.specs.declared.ran.End.{End}
use Rattle.event_sim.specs.declared.ran.End.TheVariants.{AtRest, Spent}
use Rattle.event_sim.specs.Ends.{calm_end, end_with, last_hazard, EndsSo}
use Rattle.event_sim.specs.Following.{enabled_moves, power_of}
use Rattle.event_sim.specs.Simulating.{RanValue, growth, picked_moves, start_at}
use Rattle.event_sim.proofs.Following.{picked_run}
use Rattle.event_sim.proofs.Ranges.{rests}
use Rattle.peer_bench.specs.declared.note.Note.{Note}
use Rattle.peer_bench.specs.Asking.{PeerValue}
use Rattle.peer_bench.specs.Benches.{SetupValue, IsBenchRun, bench_moves, bench_start}
use Rattle.peer_bench.specs.Growing.{script_by}
use Rattle.bench_commands.specs.HandedIn.{HandedIn}
use Rattle.bench_commands.specs.OnBench.{notes_grown, setup_for}
use Rattle.command_words.specs.BenchWords.{AskedBench}
use Rattle.delay_script.specs.declared.noted.NotedMove.{NotedMove}
use Rattle.delay_script.specs.DelayTables.{DelayTable, TakesAtMost}
use Rattle.delay_script.specs.TimedRuns.{TimedValue, IsTimedRan, IsTimedRun, moved_nodes, timed_value}
use Rattle.width_check.specs.Processes.{TypedProgram}
use Rattle.chp_meaning.specs.Rounds.{rounds}
use Rattle.chp_meaning.specs.Steps.{Configuration}
use Rattle.prs_file.specs.Spelling.{NetText}
use Rattle.reset_net.specs.Resets.{reset_of}
use Rattle.net_compose.specs.Progress.{RestsAfter, IsLevel, most_moves}
use Rattle.net_compose.specs.Time.{HasPassed}
use Rattle.net_pace.specs.Lasting.{HasLasted}
use Rattle.net_pace.specs.Pace.{IsRoundTime, TimedPace, TimedPaceReset}
use Rattle.net_compose.proofs.HalvedCarried.{scaled}
use Rattle.net_compose.proofs.OnceEach.{run_length}
use Rattle.command_answers.specs.Answers.{Given, Answer}
use Rattle.call_map.specs.CallPace.{IsMost, always}
use Rattle.program_commands.specs.Bodies.{Bodies, copied, shared, IsFaithful, NetCarries, NetProgresses, net_for, net_with}
use Rattle.command_steps.specs.Orders.{Played}
use Rattle.chp_cli.specs.BenchedFiles.{IsFileBenched, benched_run}
use Rattle.chp_cli.specs.MadeRuns.{MadeRun, RunTiming, made_run}
use Rattle.chp_cli.specs.Resting.{KeepsPaceWith, KeepsUp, LastsAtMost, RestsInTime, delays_for, most_in_run, sweeps_with}
use Rattle.chp_cli.specs.Simulated.{IsFileSimulated, HoldsCarrying, HoldsCompiled, simulated_run}
use Rattle.command_words.specs.SimulateWords.{AskedRun, AskedTiming}
use Rattle.simulation_commands.specs.Simulating.{power_or_low, simulation_for}
use Rattle.command_steps.specs.Steps.{IsFileOf}
use Rattle.chp_cli.specs.TimedFiles.{IsFileTimed, timed_run}
use Rattle.chp_cli.specs.TracedFiles.{IsFileTraced, traced_run}
use Rattle.command_words.specs.WavesWords.{AskedWaves}
use Rattle.grown_commands.proofs.SafeRuns.{all_safe, safe_calm}
use Rattle.chp_cli.proofs.CalmRuns.{file_carries, at_rest}
use Rattle.chp_cli.proofs.FilesCompiled.{AreCompiled, firsts_counted, same_channels}
use Rattle.chp_cli.proofs.FilesPaced.{ArePaced, ArePacedReset}
use Rattle.command_steps.proofs.OneAnswers.{same_text}

-- a run that isn't so long as allowed, and ends without a hazard, rests
calm_rest : (xs : List ℕ) (l steps : ℕ) (e : End) → l < steps → calm_end xs (l == steps) ≡ Some e → (e ≡ AtRest) × (xs ≡ [])
calm_rest [] l steps e less is = let same : AtRest ≡ e = cc is in (sym same, refl)
calm_rest (x ∷ xs) l steps e less is = absurd (cc (short, is))
  where
    short : (l == steps) ≡ false
    short = grind (arith, nat_tests)

abbrev Powered : Type 0
Powered = (net : NetValue) (high : Bool) → IsNet net → IsSome net.reset → IsPowered net (power_of net high)

-- ---- a run of a program's net

abbrev RunsWithin : Bool → {p : TypedProgram} → Bodies p → NetValue → Type 0
RunsWithin reset {p} bodies n =
    (script : List OfferValue) (high : Bool) (ns : List ℕ) → IsNet n → IsScript p.channels script → IsRun n script (begin_at n (power_of n high)) ns
    → (most : ℕ → ℕ) (m : ℕ) (c : Configuration) → IsMost p most → RestsAfter p script m c → length ns ≤ most_in_run reset bodies most m

runs_within : Powered → (reset : Bool) {p : TypedProgram} (bodies : Bodies p) → NetCarries reset bodies → NetProgresses reset bodies
    → RunsWithin reset bodies (net_for reset bodies)
runs_within powered false copied carries progresses script high ns net fits run most m c bound over =
    (progresses most bound).bounded script fits m c over ns run
runs_within powered false (shared h) carries progresses script high ns net fits run most m c bound over =
    (progresses most bound).bounded script fits m c over ns run
runs_within powered true bodies carries progresses script high ns net fits run most m c bound over =
    let n = net_for true bodies in
    let values = power_of n high in
    let up : IsPowered n values = powered n high net refl in
    let long : length n.first ≡ suc (length (net_with bodies).first) = length-append (net_with bodies).first (true ∷ []) ∙ omega arith in
    let count = firsts_counted bodies in
    let all = run_length n script (length (net_with bodies).first) long net (begin_at n values) ns run (carries.runs script fits values up ns run).1 in
    let few = (progresses most bound values up).bounded script fits m c over ns run in
    omega (arith, all, count, few)

abbrev RestsLevel : TypedProgram → NetValue → Type 0
RestsLevel p n =
    (script : List OfferValue) (high : Bool) (ns : List ℕ) → IsNet n → IsScript p.channels script → IsRun n script (begin_at n (power_of n high)) ns
    → (m : ℕ) (c : Configuration) → RestsAfter p script m c → IsAtRest n script (after n (begin_at n (power_of n high)) ns)
    → IsLevel (after n (begin_at n (power_of n high)) ns) c

rests_level : Powered → (reset : Bool) {p : TypedProgram} (bodies : Bodies p) → NetProgresses reset bodies → RestsLevel p (net_for reset bodies)
rests_level powered false {p} copied progresses script high ns net fits run m c over =
    (progresses (most_moves p) always).level script fits m c over ns run
rests_level powered false {p} (shared h) progresses script high ns net fits run m c over =
    (progresses (most_moves p) always).level script fits m c over ns run
rests_level powered true {p} bodies progresses script high ns net fits run m c over =
    let n = net_for true bodies in
    (progresses (most_moves p) always (power_of n high) (powered n high net refl)).level script fits m c over ns run

-- ---- a timed run of it

abbrev PassesInTime : Bool → {p : TypedProgram} → Bodies p → NetValue → Type 0
PassesInTime reset {p} bodies n =
    (script : List OfferValue) (high : Bool) (slowest : ℕ) (d : DelayTable) (ms : List NotedMove) → IsNet n → IsScript p.channels script
    → TakesAtMost slowest d → IsTimedRun d n script (begin_at n (power_of n high)) ms → (sweeps k : ℕ) → IsRoundTime p sweeps
    → HasLasted n script (begin_at n (power_of n high)) ms (delays_for reset bodies sweeps k * slowest)
    → HasPassed (after n (begin_at n (power_of n high)) (moved_nodes ms)) (rounds p script k)

passes_in_time : Powered → (reset : Bool) {p : TypedProgram} (bodies : Bodies p)
    → ((sweeps : ℕ) → IsRoundTime p sweeps → TimedPace (net_with bodies) p (sweeps_with bodies sweeps))
    → ((sweeps : ℕ) → IsRoundTime p sweeps → TimedPaceReset (reset_of (net_with bodies)) p (sweeps_with bodies sweeps))
    → PassesInTime reset bodies (net_for reset bodies)
passes_in_time powered false copied paced reset_paced script high slowest d ms net fits slow run sweeps k bound lasted =
    paced sweeps bound script fits slowest d slow ms run k lasted
passes_in_time powered false (shared h) paced reset_paced script high slowest d ms net fits slow run sweeps k bound lasted =
    paced sweeps bound script fits slowest d slow ms run k lasted
passes_in_time powered true bodies paced reset_paced script high slowest d ms net fits slow run sweeps k bound lasted =
    let n = net_for true bodies in
    reset_paced sweeps bound script fits (power_of n high) (powered n high net refl) slowest d slow ms run k lasted

-- ---- a run of the net of a file that `compile` wrote

module _ (powered : Powered) (law : (net : NetValue) (script : List OfferValue) (st : RunState) (n : ℕ) → IsNet net →
    ((IsSafeMove net script st n × IsApart net (moved net st n)) ↔ (hazard_of net script st n ≡ None)))
    (promised : AreCompiled) (carry : (given : Given) (file : List ℕ) (p : TypedProgram) → HoldsCompiled given file p → HoldsCarrying given file p) where
  module _ (given : Given) (file : List ℕ) (p : TypedProgram) (holds : HoldsCompiled given file p) (rules : List ℕ) (net : NetValue)
      (held : given.files file ≡ Some rules) (is : IsFileOf rules net) (script : List OfferValue) (suits : IsScript (net_channels net) script) (high : Bool)
      (ns : List ℕ) (run : IsRun net script (begin_at net (power_of net high)) ns) where
    it : IsFaithful holds.reset holds.bodies
    it = promised given file p holds

    same : net_for holds.reset holds.bodies ≡ net
    same =
        is.only (net_for holds.reset holds.bodies) it.kept
        (subst (λ x. NetText x (net_for holds.reset holds.bodies)) (same_text holds.held held) holds.spells)

    fits : IsScript p.channels script
    fits =
        subst (λ cs. IsScript cs script) (same_channels holds.reset holds.bodies it.carries)
        (subst (λ n. IsScript (net_channels n) script) (sym same) suits)

    file_within : (most : ℕ → ℕ) (m : ℕ) (c : Configuration) → IsMost p most → RestsAfter p script m c
        → length ns ≤ most_in_run holds.reset holds.bodies most m
    file_within =
        subst (RunsWithin holds.reset holds.bodies) same (runs_within powered holds.reset holds.bodies it.carries it.progresses) script high ns is.kept
        fits run

    file_level : (m : ℕ) (c : Configuration) → RestsAfter p script m c → IsAtRest net script (after net (begin_at net (power_of net high)) ns)
        → IsLevel (after net (begin_at net (power_of net high)) ns) c
    file_level = subst (RestsLevel p) same (rests_level powered holds.reset holds.bodies it.progresses) script high ns is.kept fits run

    file_rests : (steps : ℕ) (end : End) (timing : Option RunTiming) → EndsSo net script steps (begin_at net (power_of net high)) ns end
        → RestsInTime holds.reset holds.bodies (made_run net script (begin_at net (power_of net high)) ns steps end timing)
    file_rests steps end timing ended most m c bound over few =
        let st = begin_at net (power_of net high) in
        let safe = all_safe powered net p script high is.kept suits (file_carries (carry given file p holds) held is) in
        let calm : last_hazard net script st ns ≡ None = safe_calm net script (λ st m is_safe. (law net script st m is.kept).0 is_safe) st ns (safe ns run) in
        let so : calm_end (enabled_moves net script (after net st ns)) (length ns == steps) ≡ Some end =
        sym (ap (λ h. end_with h (enabled_moves net script (after net st ns)) (length ns == steps)) calm) ∙ ended.ended in
        let within = file_within most m c bound over in
        let r = calm_rest (enabled_moves net script (after net st ns)) (length ns) steps end (omega (arith, within, few)) so in
        (r.0, file_level m c over (rests net script (after net st ns) is.kept r.1))

  pub simulated_rests : (s : AskedRun) (given : Given) (played : Played) (p : TypedProgram) (holds : HoldsCompiled given s.net p)
      → (answer : Answer) (f : IsFileSimulated s given played answer) → KeepsPaceWith holds.reset holds.bodies (simulated_run s f)
  simulated_rests s given played p holds answer f =
      let sim = simulation_for f.net f.script s.steps s.power in record {
        rests = file_rests given s.net p holds f.rules f.net f.held f.file f.script f.told_is.kept sim.high (picked_moves sim f.run.was.log f.run.is.log)
            (picked_run f.net f.script (start_at sim) _ f.run.run.picks) s.steps f.ran.end None f.run.run.ends;
        timed = tt;
      }

  -- ---- on a bench

  not_spent : (last : Option Hazard) (xs : List ℕ) → end_with last xs false ≡ Some Spent → ⊥
  not_spent None [] ended = cc ended
  not_spent None (x ∷ xs) ended = cc ended
  not_spent (Some (Hazard.BothWays n)) [] ended = cc ended
  not_spent (Some (Hazard.BothWays n)) (x ∷ xs) ended = cc ended
  not_spent (Some (Hazard.Unstable n)) [] ended = cc ended
  not_spent (Some (Hazard.Unstable n)) (x ∷ xs) ended = cc ended
  not_spent (Some (Hazard.Protocol c)) [] ended = cc ended
  not_spent (Some (Hazard.Protocol c)) (x ∷ xs) ended = cc ended

  rest_or_spent : (last : Option Hazard) (xs : List ℕ) (l steps : ℕ) (e : End) → l < steps → end_with last xs (l == steps) ≡ Some e
      → (e ≡ AtRest) ⊎ (e ≡ Spent) → e ≡ AtRest
  rest_or_spent last xs l steps e less ended (inl rest) = rest
  rest_or_spent last xs l steps e less ended (inr spent) = absurd (not_spent last xs (ap (end_with last xs) (sym short) ∙ ended ∙ ap (λ x. Some x) spent))
    where
      short : (l == steps) ≡ false
      short = grind (arith, nat_tests)

  pub benched_rests : ((s : SetupValue) (picks : List ℕ) (notes : List Note) (was is : PeerValue) (ran : RanValue) → IsNet s.net →
      IsBenchRun (λ p. p) s picks notes was is ran → AllSafe s.net (script_by s.net notes) (bench_start s.net) → (ran.end ≡ AtRest) ⊎ (ran.end ≡ Spent))
      → ((s : SetupValue) (picks : List ℕ) (notes : List Note) (was is : PeerValue) (ran : RanValue) → IsNet s.net →
      IsBenchRun (λ p. p) s picks notes was is ran → ran.end ≡ AtRest →
      IsAtRest s.net (script_by s.net notes) (after s.net (bench_start s.net) (bench_moves s.net notes picks)))
      → (b : AskedBench) (given : Given) (handed : HandedIn) (p : TypedProgram) (holds : HoldsCompiled given b.net p) → (answer : Answer)
      → (f : IsFileBenched b given handed answer) → KeepsPaceWith holds.reset holds.bodies (benched_run b f)
  benched_rests calm resting b given handed p holds answer f =
      let against = f.benched.against in
      let run = against.run.run in
      let notes = notes_grown against.peer_was against.peer_is in
      let script = script_by f.net notes in
      let moves = bench_moves f.net notes (growth f.benched.was.log f.benched.is.log) in
      let ends = calm (setup_for f.net b.steps) _ _ _ _ against.ran f.file.kept run
      (all_safe powered f.net p script false f.file.kept run.suits (file_carries (carry given b.net p holds) f.held f.file)) in
      record {
        rests = λ most m c bound over few.
            let within = file_within given b.net p holds f.rules f.net f.held f.file script run.suits false moves run.run most m c bound over in
            let rest = rest_or_spent _ _ (length moves) b.steps against.ran.end (omega (arith, within, few)) run.ends.ended ends in (
              rest,
              file_level given b.net p holds f.rules f.net f.held f.file script run.suits false moves run.run m c over
                  (resting (setup_for f.net b.steps) _ _ _ _ against.ran f.file.kept run rest),
            );
        timed = tt;
      }

  -- ---- timed

  module _ (in_time : (slowest : ℕ) (t : TimedValue) (ms : List NotedMove) (r : RanValue) (time : ℕ) → TakesAtMost slowest t.delays → IsTimedRan t ms r time →
      time ≤ slowest * length ms)
      (paced : ArePaced) (reset_paced : ArePacedReset) where
    file_timed : (given : Given) (file : List ℕ) (p : TypedProgram) (holds : HoldsCompiled given file p) (rules : List ℕ) (net : NetValue)
        → given.files file ≡ Some rules → IsFileOf rules net → (script : List OfferValue) → IsScript (net_channels net) script
        → (high : Bool) (steps : ℕ) (delays : DelayTable) (ms : List NotedMove) (r : RanValue) (time : ℕ)
        → IsTimedRan (timed_value net script steps delays high) ms r time
        → KeepsPaceWith holds.reset holds.bodies
        (made_run net script (begin_at net (power_of net high)) (moved_nodes ms) steps r.end (Some (record { delays = delays; time = time })))
    file_timed given file p holds rules net held is script suits high steps delays ms r time ran = record {
      rests = file_rests given file p holds rules net held is script suits high (moved_nodes ms) ran.run steps r.end
          (Some (record { delays = delays; time = time })) ran.ends;
      timed = record { lasts = lasts; keeps_up = keeps_up };
    }
      where
        st : RunState
        st = begin_at net (power_of net high)

        the_run : MadeRun
        the_run = made_run net script st (moved_nodes ms) steps r.end (Some (record { delays = delays; time = time }))

        lasts : LastsAtMost holds.reset holds.bodies the_run (record { delays = delays; time = time })
        lasts = λ slowest most m c few bound over.
            let within = file_within given file p holds rules net held is script suits high (moved_nodes ms) ran.run most m c bound over in
            let count = length-map ms (λ (x : NotedMove). x.node) in
            let soon = in_time slowest (timed_value net script steps delays high) ms r time few ran in
            let all = scaled (length ms) (most_in_run holds.reset holds.bodies most m) slowest (omega (arith, within, count)) in
            omega (arith, soon, all)

        has_lasted : (late : ℕ) → (late < time) ⊎ (r.end ≡ AtRest) → HasLasted net script st ms late
        has_lasted late (inl after_it) = inl (subst (λ t. late < t) ran.time after_it)
        has_lasted late (inr rest) =
            inr (at_rest net script st (moved_nodes ms) steps r.end is.kept ran.ends rest)

        keeps_up : KeepsUp holds.reset holds.bodies the_run (record { delays = delays; time = time })
        keeps_up = λ slowest sweeps k slow bound lasted.
            subst (PassesInTime holds.reset holds.bodies) (same given file p holds rules net held is script suits high (moved_nodes ms) ran.run)
            (passes_in_time powered holds.reset holds.bodies (paced given file p holds) (reset_paced given file p holds)) script high slowest delays ms is.kept
            (fits given file p holds rules net held is script suits high (moved_nodes ms) ran.run) slow ran.timed
            sweeps k bound (has_lasted (delays_for holds.reset holds.bodies sweeps k * slowest) lasted)

    pub timed_rests : (t : AskedTiming) (given : Given) (p : TypedProgram) (holds : HoldsCompiled given t.net p) (answer : Answer)
        → (f : IsFileTimed t given answer) → KeepsPaceWith holds.reset holds.bodies (timed_run t f)
    timed_rests t given p holds answer f =
        file_timed given t.net p holds f.rules f.net f.held f.file f.script f.told_is.kept (power_or_low t.power) t.steps f.delays f.timed.moves f.timed.ran
        f.timed.time f.timed.run

    pub traced_rests : (w : AskedWaves) (given : Given) (p : TypedProgram) (holds : HoldsCompiled given w.net p) (answer : Answer)
        → (f : IsFileTraced w given answer) → KeepsPaceWith holds.reset holds.bodies (traced_run w f)
    traced_rests w given p holds answer f =
        file_timed given w.net p holds f.rules f.net f.held f.file f.script f.told_is.kept false w.steps f.delays f.traced.moves f.traced.ran f.traced.time
        f.traced.run
