-- What goes by cases over the commands: that each has at most one answer, with which statuses it ends where it is served, and what has to
-- be shown of runs alone.
use Rattle.std.proofs.Common.{◌≡◌, ◌∙◌, ℕ, true, List, Option, Some, None, refl, subst, sym}
use Rattle.bench_commands.specs.HandedIn.{HandedIn}
use Rattle.chp_base.specs.declared.fault.Fault.{Fault}
use Rattle.chp_cli.specs.Commands.{EndsServed, IsAnswer, IsToServe}
use Rattle.chp_cli.specs.BenchedFiles.{IsFileBenched, benched_run}
use Rattle.chp_cli.specs.CompiledRuns.{Reports, net_file}
use Rattle.chp_cli.specs.MadeRuns.{MadeRun}
use Rattle.chp_cli.specs.ServedRuns.{CompiledServe}
use Rattle.chp_cli.specs.Simulated.{HoldsCompiled, IsFileSimulated, simulated_run}
use Rattle.chp_cli.specs.TimedFiles.{IsFileTimed, timed_run}
use Rattle.chp_cli.specs.TracedFiles.{IsFileTraced, traced_run}
use Rattle.chp_syntax.specs.Trees.{ProgramTree}
use Rattle.command_answers.specs.Answers.{Given, Answer, OneAnswer, status_of}
use Rattle.command_steps.specs.Orders.{Played}
use Rattle.command_steps.specs.Steps.{FromChecks, FromNodes, IsFaulty}
use Rattle.command_words.specs.BenchWords.{AskedBench}
use Rattle.command_words.specs.CommandWords.{Asked, compiles, migrates, checks, expands, simulates, times, benches, traces, unwaves, runs, grows}
use Rattle.command_words.specs.RoundsWords.{AskedRounds}
use Rattle.command_words.specs.SimulateWords.{AskedRun, AskedTiming}
use Rattle.command_words.specs.WavesWords.{AskedWaves}
use Rattle.program_commands.specs.Checking.{AcceptedReport, ChecksProgram}
use Rattle.program_commands.specs.Compiling.{CompilesForm, CompilesProgram}
use Rattle.program_commands.specs.Expanding.{ExpandsProgram, TreeReport}
use Rattle.program_commands.specs.Migrating.{MigratesNet}
use Rattle.round_commands.specs.RoundsReporting.{Runs}
use Rattle.simulation_commands.specs.Simulating.{Simulates}
use Rattle.simulation_commands.specs.Timing.{SimulatesTimed}
use Rattle.simulation_commands.specs.Tracing.{Traces}
use Rattle.width_check.specs.Accepted.{IsAccepted}
use Rattle.width_check.specs.Form.{typed_form}
use Rattle.width_check.specs.Processes.{TypedProgram}
use Rattle.chp_cli.proofs.RunsWritten.{simulate_writes}
use Rattle.chp_cli.proofs.Served.{bench_written, check_written, expand_written, grown_written, run_written, time_written, trace_written, unwave_written}
use Rattle.chp_cli.proofs.Written.{compile_writes, migrate_writes}
use Rattle.bench_commands.proofs.OneBenches.{benches_once}
use Rattle.grown_commands.proofs.OneSums.{growth_once}
use Rattle.simulation_commands.proofs.WaveSteps.{unwaves_once}
use Rattle.command_steps.proofs.OneAnswers.{file_once, program_once, net_once, nodes_once, buffer_once}
use Rattle.program_commands.proofs.Counted.{report_once}
use Rattle.program_commands.proofs.OneWritten.{form_once, migrate_once}

one_file : {x y : List ℕ} → Some x ≡ Some y → x ≡ y
one_file same = cc same

-- ---- each has at most one answer

module _ (simulate_once : (run : AskedRun) (given : Given) (played : Played) → given.tells ≡ true → OneAnswer (Simulates run given played))
    (times_once : (t : AskedTiming) (given : Given) → given.tells ≡ true → OneAnswer (SimulatesTimed t given))
    (traces_once : (w : AskedWaves) (given : Given) → given.tells ≡ true → OneAnswer (Traces w given))
    (rounds_once : (r : AskedRounds) (given : Given) → given.tells ≡ true → OneAnswer (Runs r given))
    (checked : (program : ProgramTree) (Next : ProgramTree → Answer → Type 0) → ((plain : ProgramTree) → OneAnswer (Next plain)) →
    OneAnswer (FromChecks program Next)) where
  pub command_once : (command : Asked) (given : Given) (handed : HandedIn) → given.tells ≡ true → OneAnswer (IsAnswer command given handed)
  command_once (compiles c) given handed told = file_once given c.file _ _ told
      (λ text. program_once text (CompilesProgram c)
      (λ program. checked program _
      (λ plain. buffer_once plain c.buffer (CompilesForm c program) (form_once c program))))
  command_once (migrates file) given handed told = file_once given file _ _ told (λ text. net_once text MigratesNet migrate_once)
  command_once (checks file) given handed told = file_once given file _ _ told
      (λ text. program_once text ChecksProgram (λ program. checked program (AcceptedReport program) (report_once program)))
  command_once (expands file) given handed told = file_once given file _ _ told
      (λ text. program_once text ExpandsProgram
      (λ program. checked program (λ plain. FromNodes (typed_form plain) TreeReport)
      (λ plain. nodes_once (typed_form plain) TreeReport (λ a b is are. is ∙ sym are))))
  command_once (simulates run) given handed told = simulate_once run given handed.orders told
  command_once (times t) given handed told = times_once t given told
  command_once (benches b) given handed told = benches_once b given handed told
  command_once (traces w) given handed told = traces_once w given told
  command_once (unwaves file) given handed told = unwaves_once given file told
  command_once (runs r) given handed told = rounds_once r given told
  command_once (grows growth) given handed told = growth_once growth handed.orders

-- ---- where it is served it writes

module _ (no_fault : (program : ProgramTree) (f : Fault) → IsAccepted program → ¬ IsFaulty program f) (given : Given) (handed : HandedIn)
    (told : given.tells ≡ true) where
  pub served_written : (command : Asked) → IsToServe command given handed → (a : Answer) → IsAnswer command given handed a → EndsServed command (status_of a)
  served_written (compiles c) t a is = compile_writes c no_fault given told t a is
  served_written (migrates net) t a is = migrate_writes given net told t a is
  served_written (checks file) t a is = check_written no_fault given handed told file t a is
  served_written (expands file) t a is = expand_written no_fault given handed told file t a is
  served_written (simulates run) t a is = simulate_writes no_fault run given handed.orders told t a is
  served_written (times timing) t a is = time_written no_fault given handed told timing t a is
  served_written (benches b) t a is = bench_written no_fault given handed told b t a is
  served_written (traces w) t a is = trace_written no_fault given handed told w t a is
  served_written (unwaves file) t a is = unwave_written no_fault given handed told file t a is
  served_written (runs r) t a is = run_written no_fault given handed told r t a is
  served_written (grows growth) t a is = grown_written growth.sum growth handed.orders t a is

-- ---- runs of a rule file that `compile` wrote

module _ (given : Given) (p : TypedProgram) where
  -- what is to be shown of each command that makes one (P) is to be shown of these
  pub each_run : (P : Option Asked → (file : List ℕ) → HoldsCompiled given file p → Type 0)
      → ((s : AskedRun) (h : HoldsCompiled given s.net p) → P (Some (simulates s)) s.net h)
      → ((t : AskedTiming) (h : HoldsCompiled given t.net p) → P (Some (times t)) t.net h)
      → ((b : AskedBench) (h : HoldsCompiled given b.net p) → P (Some (benches b)) b.net h)
      → ((w : AskedWaves) (h : HoldsCompiled given w.net p) → P (Some (traces w)) w.net h)
      → (asked : Option Asked) (file : List ℕ) → net_file asked ≡ Some file → (h : HoldsCompiled given file p) → P asked file h
  each_run P run timing bench wave None file made = absurd (cc made)
  each_run P run timing bench wave (Some (simulates s)) file made =
      subst (λ (x : List ℕ). (h : HoldsCompiled given x p) → P (Some (simulates s)) x h) (one_file made) (run s)
  each_run P run timing bench wave (Some (times t)) file made =
      subst (λ (x : List ℕ). (h : HoldsCompiled given x p) → P (Some (times t)) x h) (one_file made) (timing t)
  each_run P run timing bench wave (Some (benches b)) file made =
      subst (λ (x : List ℕ). (h : HoldsCompiled given x p) → P (Some (benches b)) x h) (one_file made) (bench b)
  each_run P run timing bench wave (Some (traces w)) file made =
      subst (λ (x : List ℕ). (h : HoldsCompiled given x p) → P (Some (traces w)) x h) (one_file made) (wave w)
  each_run P run timing bench wave (Some (compiles c)) file made = absurd (cc made)
  each_run P run timing bench wave (Some (migrates net)) file made = absurd (cc made)
  each_run P run timing bench wave (Some (checks x)) file made = absurd (cc made)
  each_run P run timing bench wave (Some (expands x)) file made = absurd (cc made)
  each_run P run timing bench wave (Some (unwaves x)) file made = absurd (cc made)
  each_run P run timing bench wave (Some (runs r)) file made = absurd (cc made)
  each_run P run timing bench wave (Some (grows growth)) file made = absurd (cc made)

  -- what it is served with has such a file
  pub run_compiled : (handed : HandedIn) (asked : Option Asked) → CompiledServe asked given handed p
      → (file : List ℕ) × (net_file asked ≡ Some file) × HoldsCompiled given file p
  run_compiled handed None h = absurd h
  run_compiled handed (Some (simulates s)) h = (s.net, refl, h.holds)
  run_compiled handed (Some (times t)) h = (t.net, refl, h.holds)
  run_compiled handed (Some (benches b)) h = (b.net, refl, h.holds)
  run_compiled handed (Some (traces w)) h = (w.net, refl, h.holds)
  run_compiled handed (Some (compiles c)) h = absurd h
  run_compiled handed (Some (migrates net)) h = absurd h
  run_compiled handed (Some (checks file)) h = absurd h
  run_compiled handed (Some (expands file)) h = absurd h
  run_compiled handed (Some (unwaves file)) h = absurd h
  run_compiled handed (Some (runs r)) h = absurd h
  run_compiled handed (Some (grows growth)) h = absurd h

  -- what is to be shown of each run that is reported (P) is to be shown of the runs of these reports
  module _ (handed : HandedIn) where
    pub each_report : (P : (file : List ℕ) → HoldsCompiled given file p → MadeRun → Type 0)
        → ((s : AskedRun) (h : HoldsCompiled given s.net p) (a : Answer) (f : IsFileSimulated s given handed.orders a) → P s.net h (simulated_run s f))
        → ((t : AskedTiming) (h : HoldsCompiled given t.net p) (a : Answer) (f : IsFileTimed t given a) → P t.net h (timed_run t f))
        → ((b : AskedBench) (h : HoldsCompiled given b.net p) (a : Answer) (f : IsFileBenched b given handed a) → P b.net h (benched_run b f))
        → ((w : AskedWaves) (h : HoldsCompiled given w.net p) (a : Answer) (f : IsFileTraced w given a) → P w.net h (traced_run w f))
        → (asked : Option Asked) (file : List ℕ) → net_file asked ≡ Some file → (h : HoldsCompiled given file p) → (a : Answer) (run : MadeRun)
        → Reports asked given handed a run → P file h run
    each_report P run timing bench wave = each_run (λ asked file h. (a : Answer) (r : MadeRun) → Reports asked given handed a r → P file h r)
        (λ s h a r is. subst (P s.net h) is.1 (run s h a is.0))
        (λ t h a r is. subst (P t.net h) is.1 (timing t h a is.0))
        (λ b h a r is. subst (P b.net h) is.1 (bench b h a is.0))
        (λ w h a r is. subst (P w.net h) is.1 (wave w h a is.0))
