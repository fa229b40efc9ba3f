-- Each answer of a command to files and orders that hold what it is served with is to write.
use Rattle.std.proofs.Common.{◌≡◌, ℕ, ◌≤◌, true, false, Bool, List, length, Option, Some, None, inl, inr, refl, sym, ap, subst, arith}
use Rattle.chp_base.specs.declared.fault.Fault.{Fault}
use Rattle.chp_meaning.specs.Ends.{held_in}
use Rattle.chp_meaning.specs.Rounds.{rounds}
use Rattle.chp_syntax.specs.Trees.{ProgramTree}
use Rattle.delay_script.specs.DelayTables.{DelayTable, unit_delays}
use Rattle.delay_script.specs.TimedRuns.{TimedValue}
use Rattle.env_script.specs.Environment.{net_channels}
use Rattle.env_script.specs.Scripts.{OfferValue}
use Rattle.prs_core.specs.Nets.{NetValue}
use Rattle.width_check.specs.Accepted.{IsAccepted}
use Rattle.width_check.specs.Form.{typed_form}
use Rattle.width_check.specs.Processes.{TypedProgram}
use Rattle.wave_file.specs.WaveReading.{IsWaveText}
use Rattle.wave_file.specs.Waves.{WaveValue}
use Rattle.command_answers.specs.declared.answer.Ending.TheVariants.{Done}
use Rattle.command_words.specs.declared.grow_words.Growth.{Growth}
use Rattle.command_answers.specs.declared.status.Status.TheVariants as statuses
use Rattle.command_answers.specs.Answers.{Given, Answer, writes, status_of, status_with}
use Rattle.command_steps.specs.BufferSteps.{FromBuffer}
use Rattle.program_commands.specs.Checking.{Checks, AcceptedReport}
use Rattle.chp_cli.specs.Commands.{EndsUncompared}
use Rattle.program_commands.specs.Expanding.{Expands, TreeReport}
use Rattle.grown_commands.specs.Growing.{GrowsTo}
use Rattle.bench_commands.specs.HandedIn.{HandedIn}
use Rattle.bench_commands.specs.OnBench.{Benches, BenchesAt, BenchesBy, BenchesNet, setup_for}
use Rattle.command_steps.specs.Orders.{Played}
use Rattle.command_words.specs.BenchWords.{AskedBench}
use Rattle.round_commands.specs.RoundsReporting.{most_of_values, ReportsRounds, RunsProgram, Runs, too_full, at_rest, spent}
use Rattle.command_words.specs.RoundsWords.{AskedRounds}
use Rattle.command_steps.specs.RunSteps.{FromScript, most_of_script}
use Rattle.event_sim.specs.declared.ran.End.{End}
use Rattle.event_sim.specs.declared.ran.End.TheVariants.{AtRest, Spent, Unstable, BothWays, Protocol}
use Rattle.event_sim.specs.Simulating.{RanValue}
use Rattle.run_reports.specs.RunReporting.{IsReported, alone, ending_for}
use Rattle.command_steps.specs.FileContents.{HasDelays}
use Rattle.chp_cli.specs.Serving.{IsToBench, IsToCheck, IsToExpand, IsToGrow, IsToRun, IsToTime, IsToTrace, IsToUnwave}
use Rattle.command_answers.specs.Statuses.{is_whole}
use Rattle.command_steps.specs.Steps.{FromNodes, FromNet, IsFaulty, most_of_net}
use Rattle.grown_commands.specs.Summing.{SumsUp, summing_order}
use Rattle.command_words.specs.SimulateWords.{AskedTiming}
use Rattle.command_steps.specs.DelaySteps.{FromDelays, most_of_delays, FromDelayFile}
use Rattle.simulation_commands.specs.Timing.{SimulatesTimed, TimesFile, TimesNet, timing_for}
use Rattle.command_words.specs.WavesWords.{AskedWaves}
use Rattle.simulation_commands.specs.Tracing.{Traces, TracesFile, TracesNet, trace_for}
use Rattle.simulation_commands.specs.Unwaving.{FromWave, PrintsChanges, Unwaves, no_wave, a_wave, most_of_wave}
use Rattle.chp_cli.proofs.RunsWritten.{whole_report}
use Rattle.bench_commands.proofs.PeersPassed.{peer_passed}
use Rattle.command_steps.proofs.StepsPassed.{file_passed, nodes_passed, buffer_passed, net_passed, order_passed, power_passed, script_passed, delays_passed, text_passed, reference_passed}

-- the command ends well, or the whole output is written
abbrev IsDone : Answer → Type 0
IsDone a = status_of a ≡ statuses.Done

abbrev IsWritten : Answer → Type 0
IsWritten a = is_whole (status_of a) ≡ true

-- the run is reported, and compared with no program
abbrev IsRunEnd : Answer → Type 0
IsRunEnd a = EndsUncompared (status_of a)

run_end : (e : End) → EndsUncompared (status_with (ending_for e))
run_end AtRest = inl refl
run_end Spent = inl refl
run_end (Unstable node) = inr refl
run_end (BothWays node) = inr refl
run_end (Protocol chan) = inr refl

alone_ends : {script : List OfferValue} {time : Option ℕ} {ran : RanValue} (a : Answer) → IsReported script time ran None a → IsRunEnd a
alone_ends {ran = r} a alone = run_end r.end

done : (text : List ℕ) (a : Answer) → a ≡ writes Done text → IsDone a
done text a e = ap status_of e

rounds_written : (p : TypedProgram) (script : List OfferValue) (n : ℕ) → (few : held_in (rounds p script n) ≤ most_of_values)
    → (a : Answer) → ReportsRounds p script n a → IsDone a
rounds_written p script n few a (too_full over) = absurd (omega (arith, few, over))
rounds_written p script n few a (at_rest within still) = refl
rounds_written p script n few a (spent within can) = refl

abbrev traced_by : AskedWaves → NetValue → List OfferValue → DelayTable → Answer → Type 0
traced_by w net script delays = TracesNet (trace_for w net script delays) w.causes

traced_written : (t : TimedValue) (causes : Bool) (a : Answer) → TracesNet t causes a → IsRunEnd a
traced_written t causes a is = subst IsRunEnd (sym is.written) (run_end is.ran.end)

summed_written : (growth : Growth) (played : Played) (place : ℕ) (a : Answer) → SumsUp growth played place a → IsDone a
summed_written growth played place a is = ap status_of is.written

pub grown_written : (sum : Bool) (growth : Growth) (played : Played) → IsToGrow sum played → (a : Answer) → GrowsTo sum growth played a → IsDone a
grown_written false growth played t a is = ap status_of is
grown_written true growth played t a is =
    order_passed IsDone played summing_order t.place t.named (SumsUp growth played) (summed_written growth played t.place) a is

wave_passed : (text : List ℕ) (wave : WaveValue) → IsWaveText text wave → (a : Answer) → FromWave text PrintsChanges a → IsDone a
wave_passed text wave is a (no_wave none) = absurd (none.never wave is)
wave_passed text wave is a (a_wave are e) = ap status_of e

module _ (no_fault : (program : ProgramTree) (f : Fault) → IsAccepted program → ¬ IsFaulty program f) (given : Given) (handed : HandedIn)
    (told : given.tells ≡ true) where
  pub check_written : (file : List ℕ) → IsToCheck given file → (a : Answer) → Checks given file a → IsDone a
  check_written file t =
      text_passed IsDone no_fault given told file t.source.text t.program t.plain t.source.held t.source.reads t.source.means t.source.accepted
      AcceptedReport (λ a is. done _ a is.told)

  pub expand_written : (file : List ℕ) → IsToExpand given file → (a : Answer) → Expands given file a → IsDone a
  expand_written file t =
      text_passed IsDone no_fault given told file t.source.text t.program t.plain t.source.held t.source.reads t.source.means t.source.accepted
      (λ p plain. FromNodes (typed_form plain) TreeReport) (nodes_passed IsDone (typed_form t.plain) t.few TreeReport (done _))

  pub run_written : (r : AskedRounds) → IsToRun r given → (a : Answer) → Runs r given a → IsDone a
  run_written r t =
      let p = typed_form t.made in
      text_passed IsDone no_fault given told r.file t.source.text t.program t.plain t.source.held t.source.reads t.source.means t.source.accepted
      (λ q plain. FromBuffer plain r.buffer (RunsProgram r given))
      (buffer_passed IsDone t.plain t.made r.buffer t.buffered (RunsProgram r given)
      (file_passed IsDone given told r.script t.offers.text most_of_script t.offers.held
      (λ text. FromScript p.channels text (λ script. ReportsRounds p script r.rounds))
      (script_passed IsDone p.channels t.offers.text t.script t.offers.says (λ script. ReportsRounds p script r.rounds)
      (rounds_written p t.script r.rounds t.few))))

  pub time_written : (t : AskedTiming) → IsToTime t given → (a : Answer) → SimulatesTimed t given a → IsWritten a
  time_written t h =
      let n = h.net in
      file_passed IsWritten given told t.net h.rules.text most_of_net h.rules.held (λ text. FromNet text (TimesFile t given))
      (net_passed IsWritten h.rules.text n h.rules.kept h.rules.spelled (TimesFile t given)
      (power_passed IsWritten n t.power h.powered _
      (file_passed IsWritten given told t.script h.offers.text most_of_script h.offers.held _
      (script_passed IsWritten (net_channels n) h.offers.text h.script h.offers.says _
      (file_passed IsWritten given told t.delays h.slow.text most_of_delays h.slow.held _
      (delays_passed IsWritten n.names h.slow.text h.delays h.slow.says _
      (reference_passed IsWritten no_fault given told t.against h.referable (TimesNet (timing_for t n h.script h.delays)) reported)))))))
    where
      reported : (p : Option TypedProgram) (a : Answer) → TimesNet (timing_for t h.net h.script h.delays) p a → IsWritten a
      reported p a is = whole_report h.script (Some is.time) is.ran p a is.written

  pub bench_written : (b : AskedBench) → IsToBench b given handed → (a : Answer) → Benches b given handed a → IsRunEnd a
  bench_written b h =
      order_passed IsRunEnd handed.orders b.order h.place h.named (BenchesBy b given handed)
      (peer_passed IsRunEnd handed.peers b.peer h.which h.peer (BenchesAt b given handed h.place)
      (file_passed IsRunEnd given told b.net h.rules.text most_of_net h.rules.held
      (λ text. FromNet text (λ net. BenchesNet handed h.place h.which b.seed (setup_for net b.steps)))
      (net_passed IsRunEnd h.rules.text h.net h.rules.kept h.rules.spelled
      (λ net. BenchesNet handed h.place h.which b.seed (setup_for net b.steps))
      (λ a is. alone_ends a is.against.written))))

  pub trace_written : (w : AskedWaves) → IsToTrace w given → (a : Answer) → Traces w given a → IsRunEnd a
  trace_written w h =
      let n = h.net in
      file_passed IsRunEnd given told w.net h.rules.text most_of_net h.rules.held (λ text. FromNet text (TracesFile w given))
      (net_passed IsRunEnd h.rules.text n h.rules.kept h.rules.spelled (TracesFile w given)
      (file_passed IsRunEnd given told w.script h.offers.text most_of_script h.offers.held _
      (script_passed IsRunEnd (net_channels n) h.offers.text h.script h.offers.says _ (slow w.delays h.slow))))
    where
      slow : (file : Option (List ℕ)) → HasDelays given file h.net.names h.delays → (a : Answer) → FromDelayFile given file h.net.names
          (traced_by w h.net h.script) a → IsRunEnd a
      slow None each = traced_written (trace_for w h.net h.script (unit_delays (length h.net.names))) w.causes
      slow (Some file) f =
          file_passed IsRunEnd given told file f.text most_of_delays f.held (λ text. FromDelays h.net.names text (traced_by w h.net h.script))
          (delays_passed IsRunEnd h.net.names f.text h.delays f.says (traced_by w h.net h.script)
          (traced_written (trace_for w h.net h.script h.delays) w.causes))

  pub unwave_written : (file : List ℕ) → IsToUnwave given file → (a : Answer) → Unwaves given file a → IsDone a
  unwave_written file t =
      file_passed IsDone given told file t.text most_of_wave t.held (λ text. FromWave text PrintsChanges) (wave_passed t.text t.wave t.is)
