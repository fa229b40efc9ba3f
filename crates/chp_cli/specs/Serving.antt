-- What a command's files have to hold, and which orders and devices have to be there, for it to be served: then it
-- doesn't refuse.
use Rattle.std.specs.Prelude.{◌≡◌, ℕ, ◌≤◌, Bool, true, false, List, Some}
use Rattle.chp_meaning.specs.Ends.{held_in}
use Rattle.chp_meaning.specs.Rounds.{rounds}
use Rattle.chp_syntax.specs.Trees.{ProgramTree}
use Rattle.delay_script.specs.DelayTables.{DelayTable}
use Rattle.env_script.specs.Environment.{net_channels}
use Rattle.env_script.specs.Scripts.{OfferValue}
use Rattle.handshake_expand.specs.Layout.{node_count}
use Rattle.prs_core.specs.Nets.{NetValue}
use Rattle.wave_file.specs.WaveReading.{IsWaveText}
use Rattle.wave_file.specs.Waves.{WaveValue}
use Rattle.width_check.specs.Form.{typed_form}
use Rattle.bench_commands.specs.HandedIn.{HandedIn}
use Rattle.bench_commands.specs.Peers.{peer_named}
use Rattle.command_answers.specs.Answers.{Given}
use Rattle.command_words.specs.BenchWords.{AskedBench}
use Rattle.command_steps.specs.BufferSteps.{IsBuffered}
use Rattle.command_steps.specs.Orders.{Played, place_named}
use Rattle.command_steps.specs.References.{IsToReferTo}
use Rattle.round_commands.specs.RoundsReporting.{most_of_values}
use Rattle.command_words.specs.RoundsWords.{AskedRounds}
use Rattle.command_steps.specs.RunSteps.{lacks_reset}
use Rattle.command_steps.specs.Steps.{most_of_nodes}
use Rattle.grown_commands.specs.Summing.{summing_order}
use Rattle.command_words.specs.SimulateWords.{AskedRun, AskedTiming}
use Rattle.command_words.specs.WavesWords.{AskedWaves}
use Rattle.simulation_commands.specs.Unwaving.{most_of_wave}
use Rattle.command_steps.specs.FileContents.{HasDelays, HoldsText, IsDelayFile, IsRuleFile, IsScriptFile, IsSource}

-- an accepted program
pub record IsToCheck (given : Given) (file : List ℕ) : Type 0 where
  pub program : ProgramTree
  pub plain : ProgramTree
  pub source : IsSource given file program plain

-- one whose circuit isn't too large
pub record IsToExpand (given : Given) (file : List ℕ) : Type 0 where
  pub program : ProgramTree
  pub plain : ProgramTree
  pub source : IsSource given file program plain
  pub few : node_count (typed_form plain) ≤ most_of_nodes

-- an accepted program, which can have the buffer that is asked for, and a script of it in whose rounds not too many
-- values pass
pub record IsToRun (r : AskedRounds) (given : Given) : Type 0 where
  pub program : ProgramTree
  pub plain : ProgramTree
  pub made : ProgramTree
  pub script : List OfferValue
  pub source : IsSource given r.file program plain
  pub buffered : IsBuffered plain r.buffer made
  pub offers : IsScriptFile given r.script (typed_form made).channels script
  pub few : held_in (rounds (typed_form made) script r.rounds) ≤ most_of_values

-- a rule file of a net that can have the power that is asked for, a script of its channels, and the text of an accepted
-- program, if one is named; and an order of the wanted name
pub record IsToSimulate (s : AskedRun) (given : Given) (played : Played) : Type 0 where
  pub net : NetValue
  pub script : List OfferValue
  pub place : ℕ
  pub rules : IsRuleFile given s.net net
  pub powered : lacks_reset s.power net.reset ≡ false
  pub offers : IsScriptFile given s.script (net_channels net) script
  pub referable : IsToReferTo given s.against
  pub named : place_named played.before s.order ≡ Some place

-- such files, and delays of the net's nodes
pub record IsToTime (t : AskedTiming) (given : Given) : Type 0 where
  pub net : NetValue
  pub script : List OfferValue
  pub delays : DelayTable
  pub rules : IsRuleFile given t.net net
  pub powered : lacks_reset t.power net.reset ≡ false
  pub offers : IsScriptFile given t.script (net_channels net) script
  pub slow : IsDelayFile given t.delays net.names delays
  pub referable : IsToReferTo given t.against

-- a rule file, and an order and a device of the wanted names
pub record IsToBench (b : AskedBench) (given : Given) (handed : HandedIn) : Type 0 where
  pub net : NetValue
  pub place : ℕ
  pub which : ℕ
  pub rules : IsRuleFile given b.net net
  pub named : place_named handed.orders.before b.order ≡ Some place
  pub peer : peer_named handed.peers.before b.peer ≡ Some which

-- a rule file, a script of its channels, and delays of its nodes, if such a file is named
pub record IsToTrace (w : AskedWaves) (given : Given) : Type 0 where
  pub net : NetValue
  pub script : List OfferValue
  pub delays : DelayTable
  pub rules : IsRuleFile given w.net net
  pub offers : IsScriptFile given w.script (net_channels net) script
  pub slow : HasDelays given w.delays net.names delays

-- the text of a wave
pub record IsToUnwave (given : Given) (file : List ℕ) : Type 0 where
  pub wave : WaveValue
  pub text : List ℕ
  pub held : HoldsText given file most_of_wave text
  pub is : IsWaveText text wave

-- the order by which a summary is made
pub record IsToSum (played : Played) : Type 0 where
  pub place : ℕ
  pub named : place_named played.before summing_order ≡ Some place

abbrev pub IsToGrow : (sum : Bool) → Played → Type 0
IsToGrow false played = Unit {0}
IsToGrow true played = IsToSum played
