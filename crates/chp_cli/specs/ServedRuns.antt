-- What a run of a rule file that `compile` wrote is served with: that file, which is never too long, and what is wanted
-- of other files, orders and devices.
use Rattle.std.specs.Prelude.{◌≡◌, ℕ, false, List, Option, Some}
use Rattle.delay_script.specs.DelayTables.{DelayTable}
use Rattle.env_script.specs.Scripts.{OfferValue}
use Rattle.prs_core.specs.Nets.{NetValue}
use Rattle.width_check.specs.Processes.{TypedProgram}
use Rattle.bench_commands.specs.HandedIn.{HandedIn}
use Rattle.bench_commands.specs.Peers.{peer_named}
use Rattle.command_answers.specs.Answers.{Given}
use Rattle.command_steps.specs.Orders.{Played, place_named}
use Rattle.command_steps.specs.RunSteps.{lacks_reset}
use Rattle.command_words.specs.BenchWords.{AskedBench}
use Rattle.command_words.specs.CommandWords.{Asked, simulates, times, benches, traces}
use Rattle.command_words.specs.SimulateWords.{AskedRun, AskedTiming}
use Rattle.command_words.specs.WavesWords.{AskedWaves}
use Rattle.program_commands.specs.Bodies.{net_for}
use Rattle.command_steps.specs.FileContents.{HasDelays, IsDelayFile, IsScriptFile}
use Rattle.chp_cli.specs.Settings.{Setting}
use Rattle.chp_cli.specs.Simulated.{HoldsCompiled}

-- the net whose rule file such a file holds
abbrev pub net_held : {given : Given} {file : List ℕ} {p : TypedProgram} → HoldsCompiled given file p → NetValue
net_held holds = net_for holds.reset holds.bodies

-- a file that `compile` wrote, with a reset node if a power is asked for, and a script of the program's channels; and
-- an order of the wanted name
pub record IsCompiledToSimulate (s : AskedRun) (given : Given) (played : Played) (p : TypedProgram) : Type 0 where
  pub script : List OfferValue
  pub place : ℕ
  pub holds : HoldsCompiled given s.net p
  pub powered : lacks_reset s.power (net_held holds).reset ≡ false
  pub offers : IsScriptFile given s.script p.channels script
  pub named : place_named played.before s.order ≡ Some place

-- the same without an order, and delays of the nodes of that net
pub record IsCompiledToTime (t : AskedTiming) (given : Given) (p : TypedProgram) : Type 0 where
  pub script : List OfferValue
  pub delays : DelayTable
  pub holds : HoldsCompiled given t.net p
  pub powered : lacks_reset t.power (net_held holds).reset ≡ false
  pub offers : IsScriptFile given t.script p.channels script
  pub slow : IsDelayFile given t.delays (net_held holds).names delays

-- a file that `compile` wrote, and an order and a device of the wanted names
pub record IsCompiledToBench (b : AskedBench) (given : Given) (handed : HandedIn) (p : TypedProgram) : Type 0 where
  pub place : ℕ
  pub which : ℕ
  pub holds : HoldsCompiled given b.net p
  pub named : place_named handed.orders.before b.order ≡ Some place
  pub peer : peer_named handed.peers.before b.peer ≡ Some which

-- a file that `compile` wrote, a script of the program's channels, and delays of the nodes of that net, if a delay file
-- is named
pub record IsCompiledToTrace (w : AskedWaves) (given : Given) (p : TypedProgram) : Type 0 where
  pub script : List OfferValue
  pub delays : DelayTable
  pub holds : HoldsCompiled given w.net p
  pub offers : IsScriptFile given w.script p.channels script
  pub slow : HasDelays given w.delays (net_held holds).names delays

-- what a command that makes a run of such a file is served with, but for the program with which the run is compared
abbrev pub CompiledServe : Option Asked → Given → HandedIn → TypedProgram → Type 0
CompiledServe (Some (simulates s)) given handed p = IsCompiledToSimulate s given handed.orders p
CompiledServe (Some (times t)) given handed p = IsCompiledToTime t given p
CompiledServe (Some (benches b)) given handed p = IsCompiledToBench b given handed p
CompiledServe (Some (traces w)) given handed p = IsCompiledToTrace w given p
CompiledServe _ given handed p = ⊥

abbrev pub IsCompiledToServe : Setting → TypedProgram → Type 0
IsCompiledToServe s p = CompiledServe s.asked s.given s.handed p
