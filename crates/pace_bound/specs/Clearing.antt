-- The falls of lines and the phases of steps, as they are worked out for all channels and variables before, and ways in
-- repetitions.
use Rattle.std.specs.Prelude.{◌≡◌, ℕ, ◌+◌, ◌<◌, Bool, true, false, List, length, slice_index}
use Rattle.width_check.specs.Processes.{Choices, TypedProgram}
use Rattle.width_check.specs.Typing.{kind_at}
use Rattle.handshake_expand.specs.Layout.{capped}
use Rattle.round_time.specs.Longest.{writes_fall, channel_low, choice_low, guards_depth}
use Rattle.round_time.specs.Phases.{acked, written, taken, passes, puts, over_program, skip_at, turn_at}
use Rattle.pace_bound.specs.declared.mark.Lines.{Lines}
use Rattle.pace_bound.specs.declared.phase.Phases.{Phases}

-- what a function says of each number up to a count, saturated
pub record IsTableOf (count : ℕ) (f : ℕ → ℕ) (table : List ℕ) : Type 0 where
  pub sized : length table ≡ count
  pub each : (k : ℕ) → k < count → slice_index table k ≡ capped (f k)

-- of channels the fall of the answers of both ends, of variables that of the rails by which they are written
pub record AreFalls (P : TypedProgram) (ends writes : List ℕ) : Type 0 where
  pub of_channels : IsTableOf (length P.channels) (λ c. channel_low P (kind_at P.channels c) c) ends
  pub of_writes : IsTableOf (length P.vars) (writes_fall P) writes

-- of channels and variables what follows the falls of acknowledges, and of channels that of rails
pub record AreLines (P : TypedProgram) (lines : Lines) : Type 0 where
  pub of_acks : IsTableOf (length P.channels) (acked P) lines.acks.items
  pub of_stores : IsTableOf (length P.vars) (written P) lines.stores.items
  pub of_rails : IsTableOf (length P.channels) (taken P) lines.rails.items

-- of channels and variables the phases of steps, and the greatest of skips and of repetitions
pub record ArePhases (P : TypedProgram) (phases : Phases) : Type 0 where
  pub of_channels : IsTableOf (length P.channels) (passes P) phases.passes.items
  pub of_vars : IsTableOf (length P.vars) (puts P) phases.puts.items
  pub of_skips : phases.skip ≡ capped (over_program P skip_at)
  pub of_turns : phases.turn ≡ capped (over_program P (turn_at P))

-- from the last step of a branch to the latch of the next turn, of a repetition
abbrev pub turned_again : TypedProgram → (again : Bool) → Choices → ℕ
turned_again P true cs = choice_low P 4 cs + 4 + guards_depth cs
turned_again P false cs = 0
