-- The list of all commands: what each reads and answers, and what it is served with.
use Rattle.std.specs.Prelude.{◌≡◌, ◌⊎◌, ℕ, true, List, [], ◌∷◌, Option, None, option_to_list}
use Rattle.command_answers.specs.declared.status.Status.{Status}
use Rattle.command_answers.specs.declared.status.Status.TheVariants.{Done, Hazard}
use Rattle.command_answers.specs.Answers.{Given, Answer}
use Rattle.command_answers.specs.Statuses.{is_whole}
use Rattle.bench_commands.specs.HandedIn.{HandedIn}
use Rattle.bench_commands.specs.OnBench.{Benches}
use Rattle.bench_commands.specs.Peers.{peer_named}
use Rattle.peer_bench.specs.Asking.{PeerValue}
use Rattle.program_commands.specs.Checking.{Checks}
use Rattle.program_commands.specs.Compiling.{Compiles, IsToCompile}
use Rattle.program_commands.specs.Expanding.{Expands}
use Rattle.grown_commands.specs.Growing.{Grows, grow_order}
use Rattle.program_commands.specs.Migrating.{IsToMigrate, Migrates}
use Rattle.round_commands.specs.RoundsReporting.{Runs}
use Rattle.command_steps.specs.Orders.{OrderState, place_named}
use Rattle.simulation_commands.specs.Simulating.{Simulates}
use Rattle.simulation_commands.specs.Timing.{SimulatesTimed}
use Rattle.simulation_commands.specs.Tracing.{Traces}
use Rattle.simulation_commands.specs.Unwaving.{Unwaves}
use Rattle.clap.specs.Words.{Text}
use Rattle.chp_cli.specs.Serving.{IsToBench, IsToCheck, IsToExpand, IsToGrow, IsToRun, IsToSimulate, IsToTime, IsToTrace, IsToUnwave}
use Rattle.command_words.specs.CommandWords.{Asked, compiles, migrates, checks, expands, simulates, times, benches, traces, unwaves, runs, grows}

abbrev pub IsAnswer : Asked → Given → HandedIn → Answer → Type 0
IsAnswer (compiles c) given handed = Compiles c given
IsAnswer (migrates net) given handed = Migrates given net
IsAnswer (checks file) given handed = Checks given file
IsAnswer (expands file) given handed = Expands given file
IsAnswer (simulates run) given handed = Simulates run given handed.orders
IsAnswer (times timing) given handed = SimulatesTimed timing given
IsAnswer (benches b) given handed = Benches b given handed
IsAnswer (traces w) given handed = Traces w given
IsAnswer (unwaves file) given handed = Unwaves given file
IsAnswer (runs r) given handed = Runs r given
IsAnswer (grows growth) given handed = Grows growth handed.orders

-- the names of its files
abbrev pub files_of : Asked → List Text
files_of (compiles c) = c.file ∷ []
files_of (migrates net) = net ∷ []
files_of (checks file) = file ∷ []
files_of (expands file) = file ∷ []
files_of (simulates run) = run.net ∷ run.script ∷ option_to_list run.against
files_of (times t) = t.net ∷ t.script ∷ t.delays ∷ option_to_list t.against
files_of (benches b) = b.net ∷ []
files_of (traces w) = w.net ∷ w.script ∷ option_to_list w.delays
files_of (unwaves file) = file ∷ []
files_of (runs r) = r.file ∷ r.script ∷ []
files_of (grows growth) = []

-- the place of the order that it asks for
abbrev pub order_of : Asked → List OrderState → Option ℕ
order_of (simulates run) orders = place_named orders run.order
order_of (benches b) orders = place_named orders b.order
order_of (grows growth) orders = grow_order growth.sum orders
order_of _ orders = None

-- the place of the device that it asks for
abbrev pub peer_of : Asked → List PeerValue → Option ℕ
peer_of (benches b) peers = peer_named peers b.peer
peer_of _ peers = None

-- ---- serving

-- a run that is compared with no program ends well, or with a hazard
abbrev pub EndsUncompared : Status → Type 0
EndsUncompared status = (status ≡ Done) ⊎ (status ≡ Hazard)

-- the statuses with which a command ends that is served: `simulate`, `bench` and `waves` report how the run ended, any
-- other command ends well
abbrev pub EndsServed : Asked → Status → Type 0
EndsServed (simulates run) status = is_whole status ≡ true
EndsServed (times timing) status = is_whole status ≡ true
EndsServed (benches b) status = EndsUncompared status
EndsServed (traces w) status = EndsUncompared status
EndsServed _ status = status ≡ Done

-- what each command is served with: then it doesn't refuse
abbrev pub IsToServe : Asked → Given → HandedIn → Type 0
IsToServe (compiles c) given handed = IsToCompile c given
IsToServe (migrates net) given handed = IsToMigrate given net
IsToServe (checks file) given handed = IsToCheck given file
IsToServe (expands file) given handed = IsToExpand given file
IsToServe (simulates run) given handed = IsToSimulate run given handed.orders
IsToServe (times timing) given handed = IsToTime timing given
IsToServe (benches b) given handed = IsToBench b given handed
IsToServe (traces w) given handed = IsToTrace w given
IsToServe (unwaves file) given handed = IsToUnwave given file
IsToServe (runs r) given handed = IsToRun r given
IsToServe (grows growth) given handed = IsToGrow growth.sum handed.orders
