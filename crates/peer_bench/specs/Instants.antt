-- At which moves of a run on a bench a device notes something, and of which channels.
use Rattle.std.specs.Prelude.{◌≡◌, ℕ, zero, suc, ◌+◌, ◌≤◌, Bool, true, false, List, [], ◌∷◌, ◌++◌, length, take, slice_get, slice_index, IfSome}
use Rattle.chp_base.specs.declared.channel.Kind.{Kind}
use Rattle.chp_base.specs.declared.channel.Kind.TheVariants.{In, Out}
use Rattle.prs_core.specs.declared.wires.Wires.{Wires}
use Rattle.prs_core.specs.Nets.{NetValue}
use Rattle.prs_core.specs.Moves.{high}
use Rattle.env_script.specs.Runs.{RunState, moved, after}
use Rattle.event_sim.specs.Passing.{completion}
use Rattle.event_sim.specs.Standings.{is_idle}
use Rattle.peer_bench.specs.declared.note.Note.{Note}
use Rattle.peer_bench.specs.declared.note.Note.TheVariants.{Offered, Ready, Took}
use Rattle.peer_bench.specs.Growing.{script_by}
use Rattle.peer_bench.specs.Along.{low_reset, lets_ask, told_passed}

-- After so many moves the device may be asked: at the start unless reset is high, else where the last of them changed
-- the acknowledge of an external channel or lowered reset, and reset is low.
abbrev pub may_ask_after : NetValue → RunState → (moves : List ℕ) → (at : ℕ) → Bool
may_ask_after net start moves zero = low_reset net start
may_ask_after net start moves (suc k) =
    lets_ask net (after net start (take k moves)) (after net start (take (suc k) moves)) (slice_index moves k)

-- an answer of this moment, on a channel of this kind that was idle by the moves and the notes before it
pub record IsAnswerAt (net : NetValue) (start : RunState) (moves : List ℕ) (before : List Note) (kind : Kind)
    (at chan : ℕ) : Type 0 where
  pub within : at ≤ length moves
  pub asked : may_ask_after net start moves at ≡ true
  pub channel : IfSome (slice_get net.channels chan) (λ (w : Wires). w.channel.kind ≡ kind)
  pub idle : is_idle net (script_by net before) (after net start (take at moves)) chan ≡ true

abbrev pub IsNoteAt : NetValue → RunState → (moves : List ℕ) → (before : List Note) → Note → Type 0
IsNoteAt net start moves before (Offered at chan value) = IsAnswerAt net start moves before In at chan
IsNoteAt net start moves before (Ready at chan) = IsAnswerAt net start moves before Out at chan
IsNoteAt net start moves before (Took at chan value) = at ≤ length moves

-- each note, by those before it
abbrev pub AreNotesAt : NetValue → RunState → (moves : List ℕ) → (before notes : List Note) → Type 0
AreNotesAt net start moves before [] = Unit {0}
AreNotesAt net start moves before (note ∷ notes) =
    IsNoteAt net start moves before note × AreNotesAt net start moves (before ++ note ∷ []) notes

abbrev pub is_took : Note → Bool
is_took (Offered at chan value) = false
is_took (Ready at chan) = false
is_took (Took at chan value) = true

-- the values that pass on the `out` channels in a run, each with its channel and the number of its move, where so many
-- moves were made before
abbrev pub taken_in : NetValue → RunState → (before : ℕ) → (moves : List ℕ) → List Note
taken_in net st before [] = []
taken_in net st before (n ∷ ns) =
    told_passed net (before + 1) (completion net (high st.values) n) ++ taken_in net (moved net st n) (before + 1) ns
