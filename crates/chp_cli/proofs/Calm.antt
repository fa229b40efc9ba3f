-- How a call ends that simulates a rule file which `compile` wrote.
use Rattle.std.proofs.Common.{◌≡◌, ◌≢◌, ℕ, true, List, Option, Some, refl}
use Rattle.command_answers.specs.declared.answer.Ending.{Ending}
use Rattle.command_answers.specs.declared.answer.Ending.TheVariants as ending
use Rattle.command_answers.specs.declared.status.Status.{Status}
use Rattle.command_answers.specs.declared.status.Status.TheVariants.{Done, RefusedText, Usage, Read, Write, Hazard, NoMemory, TooLarge, BadFile, NoOrder, NoChannel, NoPeer, Differs}
use Rattle.command_answers.specs.Answers.{Given, writes, status_with}
use Rattle.command_words.specs.CommandWords.{Asked, simulates, times, benches, traces}
use Rattle.chp_cli.specs.Commands.{IsAnswer}
use Rattle.chp_cli.specs.CompiledRuns.{IsComparedWith, IsReportOf, net_file}
use Rattle.chp_cli.specs.Ends.{Ends, formless, whole, cut_off, refused, unread, no_memory}
use Rattle.chp_cli.specs.MadeRuns.{MadeRun}
use Rattle.chp_cli.specs.Settings.{Counts, Setting}
use Rattle.bench_commands.specs.HandedIn.{HandedIn}
use Rattle.bench_commands.specs.OnBench.{Benches}
use Rattle.chp_cli.specs.BenchedFiles.{IsFileBenched, benched_run}
use Rattle.command_words.specs.BenchWords.{AskedBench}
use Rattle.command_steps.specs.References.{IsReferredTo}
use Rattle.chp_cli.specs.Simulated.{HoldsCarrying, HoldsCompiled, IsFileSimulated, simulated_run}
use Rattle.command_words.specs.SimulateWords.{AskedRun, AskedTiming}
use Rattle.simulation_commands.specs.Simulating.{Simulates}
use Rattle.command_answers.specs.Statuses.{is_whole, is_refusing}
use Rattle.chp_cli.specs.TimedFiles.{IsFileTimed, timed_run}
use Rattle.simulation_commands.specs.Timing.{SimulatesTimed}
use Rattle.chp_cli.specs.TracedFiles.{IsFileTraced, traced_run}
use Rattle.command_words.specs.WavesWords.{AskedWaves}
use Rattle.simulation_commands.specs.Tracing.{Traces}
use Rattle.width_check.specs.Processes.{TypedProgram}
use Rattle.command_answers.proofs.StatusKinds.{no_refusal}
use Rattle.chp_cli.proofs.EachCommand.{each_run}
use Rattle.chp_cli.proofs.Ending.{answer_of}

ending_hazard : (end : Ending) → status_with end ≡ Hazard → end ≡ ending.Hazard
ending_hazard ending.Done e = absurd (cc e)
ending_hazard ending.Hazard e = refl
ending_hazard ending.Differs e = absurd (cc e)

ending_differs : (end : Ending) → status_with end ≡ Differs → end ≡ ending.Differs
ending_differs ending.Done e = absurd (cc e)
ending_differs ending.Hazard e = absurd (cc e)
ending_differs ending.Differs e = refl

pub not_whole : (status : Status) → is_refusing status ≡ true → is_whole status ≡ true → ⊥
not_whole Done r w = cc r
not_whole Hazard r w = cc r
not_whole Differs r w = cc r
not_whole RefusedText r w = cc w
not_whole TooLarge r w = cc w
not_whole BadFile r w = cc w
not_whole NoOrder r w = cc w
not_whole NoChannel r w = cc w
not_whole NoPeer r w = cc w
not_whole Usage r w = cc w
not_whole Read r w = cc w
not_whole Write r w = cc w
not_whole NoMemory r w = cc w

-- of the one command that is asked for
module _ (s : Setting) (command : Asked) (is : s.asked ≡ Some command) where
  module _ (safe : (end : Ending) (text : List ℕ) → IsAnswer command s.given s.handed (writes end text) → end ≢ ending.Hazard) where
    calm_of : {status : Status} {appended line : List ℕ} → Ends s status appended line → status ≢ Hazard
    calm_of (formless none) e = cc e
    calm_of (whole end text are) e = safe end text (answer_of s command (writes end text) is are) (ending_hazard end e)
    calm_of (cut_off end text k are less rose) e = cc e
    calm_of (refused status line r are) e = no_refusal status Hazard r refl e
    calm_of (unread name own fault missed) e = cc e
    calm_of no_memory e = cc e

  module _ (agrees : (end : Ending) (text : List ℕ) → IsAnswer command s.given s.handed (writes end text) → end ≡ ending.Done) where
    agreed_of : {status : Status} {appended line : List ℕ} → Ends s status appended line → status ≢ Differs
    agreed_of (formless none) e = cc e
    agreed_of (whole end text are) e = let done = agrees end text (answer_of s command (writes end text) is are) in cc (done, ending_differs end e)
    agreed_of (cut_off end text k are less rose) e = cc e
    agreed_of (refused status line r are) e = no_refusal status Differs r refl e
    agreed_of (unread name own fault missed) e = cc e
    agreed_of no_memory e = cc e

  -- where the whole output was written, it is that of its answer
  whole_of : {status : Status} {appended line : List ℕ} → Ends s status appended line → is_whole status ≡ true →
      (end : Ending) × (status ≡ status_with end) × IsAnswer command s.given s.handed (writes end appended)
  whole_of (formless none) e = absurd (cc e)
  whole_of (whole end text are) e = (end, refl, answer_of s command (writes end text) is are)
  whole_of (cut_off end text k are less rose) e = absurd (cc e)
  whole_of (refused status line r are) e = absurd (not_whole status r e)
  whole_of (unread name own fault missed) e = absurd (cc e)
  whole_of no_memory e = absurd (cc e)

-- of each command that makes a run
module _ (given : Given) (handed : HandedIn) (read put : Counts) (p : TypedProgram)
    (carries : (file : List ℕ) → HoldsCompiled given file p → HoldsCarrying given file p) (asked : Option Asked) (file : List ℕ)
    (made : net_file asked ≡ Some file) (holds : HoldsCompiled given file p) (status : Status) (appended line : List ℕ) where
  abbrev asking : Option Asked → Setting
  asking a = record { asked = a; given = given; handed = handed; read = read; put = put }

  abbrev EndedBy : Option Asked → Type 0
  EndedBy a = Ends (asking a) status appended line

  pub calm_for : ((s : AskedRun) → HoldsCarrying given s.net p → (end : Ending) (text : List ℕ) → Simulates s given handed.orders (writes end text)
      → end ≢ ending.Hazard)
      → ((t : AskedTiming) → HoldsCarrying given t.net p → (end : Ending) (text : List ℕ) → SimulatesTimed t given (writes end text) → end ≢ ending.Hazard)
      → ((b : AskedBench) → HoldsCarrying given b.net p → (end : Ending) (text : List ℕ) → Benches b given handed (writes end text) → end ≢ ending.Hazard)
      → ((w : AskedWaves) → HoldsCarrying given w.net p → (end : Ending) (text : List ℕ) → Traces w given (writes end text) → end ≢ ending.Hazard)
      → EndedBy asked → status ≢ Hazard
  calm_for run timing bench wave = each_run given p (λ a file h. EndedBy a → status ≢ Hazard)
      (λ s h. calm_of (asking (Some (simulates s))) (simulates s) refl (run s (carries s.net h)))
      (λ t h. calm_of (asking (Some (times t))) (times t) refl (timing t (carries t.net h)))
      (λ b h. calm_of (asking (Some (benches b))) (benches b) refl (bench b (carries b.net h)))
      (λ w h. calm_of (asking (Some (traces w))) (traces w) refl (wave w (carries w.net h))) asked file made holds

  pub agreed_for : ((s : AskedRun) → HoldsCarrying given s.net p → IsReferredTo given s.against p → (end : Ending) (text : List ℕ)
      → Simulates s given handed.orders (writes end text) → end ≡ ending.Done)
      → ((t : AskedTiming) → HoldsCarrying given t.net p → IsReferredTo given t.against p → (end : Ending) (text : List ℕ)
      → SimulatesTimed t given (writes end text) → end ≡ ending.Done)
      → ((b : AskedBench) → HoldsCarrying given b.net p → (end : Ending) (text : List ℕ) → Benches b given handed (writes end text) → end ≡ ending.Done)
      → ((w : AskedWaves) → HoldsCarrying given w.net p → (end : Ending) (text : List ℕ) → Traces w given (writes end text) → end ≡ ending.Done)
      → IsComparedWith asked given p → EndedBy asked → status ≢ Differs
  agreed_for run timing bench wave = each_run given p (λ a file h. IsComparedWith a given p → EndedBy a → status ≢ Differs)
      (λ s h with_it. agreed_of (asking (Some (simulates s))) (simulates s) refl (run s (carries s.net h) with_it))
      (λ t h with_it. agreed_of (asking (Some (times t))) (times t) refl (timing t (carries t.net h) with_it))
      (λ b h with_it. agreed_of (asking (Some (benches b))) (benches b) refl (bench b (carries b.net h)))
      (λ w h with_it. agreed_of (asking (Some (traces w))) (traces w) refl (wave w (carries w.net h))) asked file made holds

  -- the run that is reported
  pub reported_for : ((s : AskedRun) (end : Ending) (text : List ℕ) → Simulates s given handed.orders (writes end text)
      → IsFileSimulated s given handed.orders (writes end text))
      → ((t : AskedTiming) (end : Ending) (text : List ℕ) → SimulatesTimed t given (writes end text) → IsFileTimed t given (writes end text))
      → ((b : AskedBench) (end : Ending) (text : List ℕ) → Benches b given handed (writes end text) → IsFileBenched b given handed (writes end text))
      → ((w : AskedWaves) (end : Ending) (text : List ℕ) → Traces w given (writes end text) → IsFileTraced w given (writes end text))
      → EndedBy asked → is_whole status ≡ true → (run : MadeRun) × IsReportOf (asking asked) status appended run
  reported_for run timing bench wave =
      each_run given p (λ a file h. EndedBy a → is_whole status ≡ true → (r : MadeRun) × IsReportOf (asking a) status appended r)
      (λ s h e written.
      let (end, same, is) = whole_of (asking (Some (simulates s))) (simulates s) refl e written in
      let f = run s end appended is in
      (simulated_run s f, record { end = end; ended = same; reports = (f, refl) }))
      (λ t h e written.
      let (end, same, is) = whole_of (asking (Some (times t))) (times t) refl e written in
      let f = timing t end appended is in
      (timed_run t f, record { end = end; ended = same; reports = (f, refl) }))
      (λ b h e written.
      let (end, same, is) = whole_of (asking (Some (benches b))) (benches b) refl e written in
      let f = bench b end appended is in
      (benched_run b f, record { end = end; ended = same; reports = (f, refl) }))
      (λ w h e written.
      let (end, same, is) = whole_of (asking (Some (traces w))) (traces w) refl e written in
      let f = wave w end appended is in
      (traced_run w f, record { end = end; ended = same; reports = (f, refl) })) asked file made holds
