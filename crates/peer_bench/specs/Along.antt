-- What is noted along a run on a bench.
use Rattle.std.specs.Prelude.{◌≡◌, ℕ, ◌+◌, Bool, true, false, not, ◌&&◌, ◌||◌, if◌then◌else◌, List, [], ◌∷◌, ◌++◌, length, slice_get, Option, Some, None}
use Rattle.chp_base.specs.declared.channel.Kind.{Kind}
use Rattle.chp_base.specs.declared.channel.Kind.TheVariants.{In, Out, Chan}
use Rattle.prs_core.specs.declared.wires.Wires.{Wires}
use Rattle.prs_core.specs.Nets.{NetValue}
use Rattle.prs_core.specs.Moves.{high}
use Rattle.env_script.specs.Environment.{in_reset}
use Rattle.env_script.specs.Runs.{RunState, after}
use Rattle.event_sim.specs.Passing.{channel_acknowledged, completion}
use Rattle.event_sim.specs.Standings.{is_idle}
use Rattle.peer_bench.specs.declared.note.Note.{Note}
use Rattle.peer_bench.specs.declared.note.Note.TheVariants.{Took}
use Rattle.peer_bench.specs.Growing.{script_by}
use Rattle.peer_bench.specs.Asking.{PeerValue, HasNoted, IsAsked}

abbrev pub is_external : Kind → Bool
is_external In = true
is_external Out = true
is_external Chan = false

abbrev pub is_out : Kind → Bool
is_out In = false
is_out Out = true
is_out Chan = false

-- there is a channel, and its kind passes the test
abbrev pub kind_passes : (Kind → Bool) → Option Wires → Bool
kind_passes p None = false
kind_passes p (Some w) = p w.channel.kind

-- a number is given, the net has a channel of this number, and its kind passes the test
abbrev pub chan_is : (Kind → Bool) → NetValue → Option ℕ → Bool
chan_is p net None = false
chan_is p net (Some c) = kind_passes p (slice_get net.channels c)

-- The move of the node from one state to another lets the device be asked: reset is low after it, and it lowered reset
-- or changed the acknowledge of an external channel.
abbrev pub lets_ask : NetValue → (was is : RunState) → ℕ → Bool
lets_ask net was is n = not (in_reset net.reset (high is.values))
    && (in_reset net.reset (high was.values) || chan_is is_external net (channel_acknowledged net.channels n))

-- the note of a completion: a value that the device took on an `out` channel
abbrev pub told_passed : NetValue → (at : ℕ) → Option (ℕ × ℕ) → List Note
told_passed net at None = []
told_passed net at (Some p) = if chan_is is_out net (Some p.0) then Took at p.0 p.1 ∷ [] else []

-- it is asked, where the test passes
abbrev pub IsAskedIf : {P : Type 0} → Bool → (known : P → PeerValue) → NetValue → RunState → (at : ℕ) →
    (notes more : List Note) → (was is : P) → Type 0
IsAskedIf true known net st at notes more was is = IsAsked known net st at notes more was is
IsAskedIf false known net st at notes more was is = (more ≡ []) × (is ≡ was)

abbrev pub low_reset : NetValue → RunState → Bool
low_reset net st = not (in_reset net.reset (high st.values))

-- What a device notes along a run: at the start it is asked, unless reset is high. After each move it is notified of
-- what it took, and then it is asked, if the move lets it.
pub data IsNotedAlong {P : Type 0} (known : P → PeerValue) (net : NetValue) (start : RunState) (was : P) :
    (moves : List ℕ) → (notes : List Note) → (is : P) → Type 0 where
  at_first : (more : List Note) (is : P) → IsAskedIf (low_reset net start) known net start 0 [] more was is →
      IsNotedAlong known net start was [] more is
  behind_move : (ns : List ℕ) (n : ℕ) (notes more : List Note) (mid late is : P) →
      IsNotedAlong known net start was ns notes mid →
      HasNoted (told_passed net (length ns + 1) (completion net (high (after net start ns).values) n)) (known mid)
      (known late) →
      IsAskedIf (lets_ask net (after net start ns) (after net start (ns ++ n ∷ [])) n) known net
      (after net start (ns ++ n ∷ [])) (length ns + 1)
      (notes ++ told_passed net (length ns + 1) (completion net (high (after net start ns).values) n)) more late is →
      IsNotedAlong known net start was (ns ++ n ∷ [])
      ((notes ++ told_passed net (length ns + 1) (completion net (high (after net start ns).values) n)) ++ more) is

-- nothing is due on the channel, where it is an `in` channel, and no value is taken on it, where it is an `out` channel
abbrev pub IsSilent : PeerValue → Kind → (width chan : ℕ) → Type 0
IsSilent p In width chan = p.due chan width ≡ None
IsSilent p Out width chan = p.willing chan ≡ false
IsSilent p Chan width chan = Unit {0}

-- this holds on each idle channel
abbrev pub NothingComes : NetValue → List Note → RunState → PeerValue → Type 0
NothingComes net notes st p = (chan : ℕ) (w : Wires) → slice_get net.channels chan ≡ Some w →
    is_idle net (script_by net notes) st chan ≡ true → IsSilent p w.channel.kind w.channel.width chan
