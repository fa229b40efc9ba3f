-- A bench that hasn't begun, and a run on it.
use Rattle.std.specs.Prelude.{◌≡◌, ◌⊎◌, ℕ, ◌≤◌, false, List, [], length, drop, filter, count_by, slice_get, IfSome}
use Rattle.prs_core.specs.declared.wires.Wires.{Wires}
use Rattle.prs_core.specs.Nets.{NetValue}
use Rattle.prs_core.specs.Moves.{high}
use Rattle.env_script.specs.Environment.{in_reset, net_channels}
use Rattle.env_script.specs.Scripts.{IsScript}
use Rattle.env_script.specs.OneLength.{AllSafe, EndsAll}
use Rattle.env_script.specs.Runs.{RunState, IsRun, begin_at, after}
use Rattle.event_sim.specs.declared.ran.End.TheVariants.{AtRest, Spent}
use Rattle.event_sim.specs.Following.{enabled_moves, power_of}
use Rattle.event_sim.specs.Passing.{passed_in}
use Rattle.event_sim.specs.Simulating.{RanValue}
use Rattle.event_sim.specs.Stages.{StageValue}
use Rattle.peer_bench.specs.declared.note.Note.{Note}
use Rattle.peer_bench.specs.Growing.{script_by, script_after}
use Rattle.peer_bench.specs.Running.{follow_under, ArePicksUnder, EndsUnder}
use Rattle.peer_bench.specs.Asking.{PeerValue}
use Rattle.peer_bench.specs.Along.{is_external, IsNotedAlong, NothingComes}
use Rattle.peer_bench.specs.Instants.{AreNotesAt, is_took, taken_in}

-- the net and how many moves may be made
pub record SetupValue : Type 0 where
  pub net : NetValue
  pub steps : ℕ

-- where a run on a bench begins: of a net with a reset node each node that has rules is low
abbrev pub bench_start : NetValue → RunState
bench_start net = begin_at net (power_of net false)

-- how many channels the environment has a part in
abbrev pub external_channels : NetValue → ℕ
external_channels net = count_by (λ (w : Wires). is_external w.channel.kind) net.channels

-- nothing has been offered on the stage yet
pub record IsUnasked (stage : StageValue) (steps : ℕ) : Type 0 where
  pub script : stage.script ≡ script_by stage.net []
  pub values : stage.values ≡ power_of stage.net false
  pub passed : stage.passed ≡ []
  pub room : steps ≤ stage.room
  pub steps_few : steps ≤ 1000000

-- what was appended to a log
abbrev pub noted_since : (before now : List Note) → List Note
noted_since before now = drop (length before) now

-- the moves to which picks lead, under the scripts that these notes give move by move
abbrev pub bench_moves : NetValue → List Note → (picks : List ℕ) → List ℕ
bench_moves net notes picks = follow_under net (script_after net notes) (bench_start net) picks

-- the moves that are enabled after some picks, under the script that the notes give then
abbrev pub bench_enabled : NetValue → List Note → (picks : List ℕ) → List ℕ
bench_enabled net notes picks = enabled_moves net (script_after net notes (length picks))
    (after net (bench_start net) (bench_moves net notes picks))

-- this holds of what stands at a place in two lists
abbrev pub BothAt : {P : Type 0} → (before after : List P) → (place : ℕ) → (P → P → Type 0) → Type 0
BothAt before after place Holds =
    IfSome (slice_get before place) (λ was. IfSome (slice_get after place) (λ is. Holds was is))

-- A run on a bench, by what a scheduler chose and a device noted in it.
pub record IsBenchRun {P : Type 0} (known : P → PeerValue) (s : SetupValue) (picks : List ℕ) (notes : List Note)
    (was is : P) (ran : RanValue) : Type 0 where
  -- each move is picked from those that are enabled under the script of its moment
  pub picked : ArePicksUnder s.net (script_after s.net notes) (bench_start s.net) picks
  -- and enabled under the script of all notes
  pub run : IsRun s.net (script_by s.net notes) (bench_start s.net) (bench_moves s.net notes picks)
  -- which is one of the net's channels: each value that was offered fits its channel
  pub suits : IsScript (net_channels s.net) (script_by s.net notes)
  -- the device was notified of what it took, and then asked, and noted this and nothing else
  pub noted : IsNotedAlong known s.net (bench_start s.net) was (bench_moves s.net notes picks) notes is
  -- so each answer was noted when it may be asked for, of an idle channel of its kind
  pub placed : AreNotesAt s.net (bench_start s.net) (bench_moves s.net notes picks) [] notes
  -- and what it noted that it took is what passed on the `out` channels, in order, each at its move
  pub took : filter is_took notes ≡ taken_in s.net (bench_start s.net) 0 (bench_moves s.net notes picks)
  pub ends : EndsUnder s.net (script_after s.net notes) s.steps (bench_start s.net) (bench_moves s.net notes picks)
      ran.end
  -- where the run rests, or its moves are spent and reset isn't high, nothing more is due
  pub quiet : (ran.end ≡ AtRest) ⊎ ((ran.end ≡ Spent)
      × (in_reset s.net.reset (high (after s.net (bench_start s.net) (bench_moves s.net notes picks)).values) ≡
      false)) →
      NothingComes s.net notes (after s.net (bench_start s.net) (bench_moves s.net notes picks)) (known is)
  -- where it rests, and every run under the script of all notes is safe, none of these has more moves
  pub one_length : AllSafe s.net (script_by s.net notes) (bench_start s.net) → ran.end ≡ AtRest →
      EndsAll s.net (script_by s.net notes) (bench_start s.net) (bench_moves s.net notes picks)
  -- and its result
  pub net : ran.net ≡ s.net
  pub moves : ran.moves ≡ length picks
  pub done : ran.done_high ≡ high (after s.net (bench_start s.net) (bench_moves s.net notes picks)).values 1
  pub passed : ran.passed ≡ passed_in s.net (bench_start s.net) (bench_moves s.net notes picks)
