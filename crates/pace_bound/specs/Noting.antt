-- What is noted of statements.
use Rattle.std.specs.Prelude.{◌≡◌, ◌≢◌, ℕ, ◌<◌, ◌==◌, if◌then◌else◌, max, List, length, slice_index, Option, Some, None}
use Rattle.width_check.specs.Processes.{Process, TypedProgram}
use Rattle.width_check.specs.Typing.{kind_at}
use Rattle.handshake_expand.specs.Layout.{capped}
use Rattle.round_time.specs.Longest.{send_holds, rails_fall, write_holds, writes_fall, receive_clears}
use Rattle.round_time.specs.Phases.{InContext, acked, acked_at, written, written_at, taken_at, pass_at, put_at, skip_at, turn_at}
use Rattle.pace_bound.specs.declared.mark.Mark.{Mark}
use Rattle.pace_bound.specs.declared.mark.Noted.{Noted}
use Rattle.pace_bound.specs.declared.mark.Noted.TheVariants.{Sends, Writes, Receives, Acks, Stores, Takes, Passes, Puts, Skips, Turns}
use Rattle.pace_bound.specs.Clearing.{IsTableOf, AreLines}

-- said of sites, whatever follows the falls of their answers
abbrev pub at_site : (Process → ℕ → ℕ) → InContext
at_site f held down p = f p held

-- said of the whole program, in the one number of a table
abbrev pub at_once : InContext → (number : ℕ) → InContext
at_once f k held down p = if 0 == k then f held down p else 0

-- what a statement says of the channel or the variable of a number
abbrev pub of_step : TypedProgram → Noted → (number : ℕ) → InContext
of_step P Sends k = at_site (send_holds k)
of_step P (Writes rails) k = at_site (write_holds P k)
of_step P (Receives writes) k = at_site (receive_clears P k)
of_step P Acks k = acked_at k
of_step P (Stores acks) k = written_at P k
of_step P (Takes stored) k = taken_at P k
of_step P (Passes lines) k = pass_at P k
of_step P (Puts stored) k = put_at P k
of_step P Skips k = at_once skip_at k
of_step P Turns k = at_once (turn_at P) k

-- how many channels or variables there are
abbrev pub noted_count : TypedProgram → Noted → ℕ
noted_count P Sends = length P.channels
noted_count P (Writes rails) = length P.vars
noted_count P (Receives writes) = length P.channels
noted_count P Acks = length P.channels
noted_count P (Stores acks) = length P.vars
noted_count P (Takes stored) = length P.channels
noted_count P (Passes lines) = length P.channels
noted_count P (Puts stored) = length P.vars
noted_count P Skips = 1
noted_count P Turns = 1

-- what has to be known before
abbrev pub IsGiven : TypedProgram → Noted → Type 0
IsGiven P (Writes rails) =
    IsTableOf (length P.channels) (λ c. rails_fall P (kind_at P.channels c) c) rails.now
IsGiven P (Receives writes) = IsTableOf (length P.vars) (writes_fall P) writes.now
IsGiven P (Stores acks) = IsTableOf (length P.channels) (acked P) acks.now
IsGiven P (Takes stored) = IsTableOf (length P.vars) (written P) stored.now
IsGiven P (Passes lines) = AreLines P lines.now
IsGiven P (Puts stored) = IsTableOf (length P.vars) (written P) stored.now
IsGiven P _ = Unit {0}

-- of one number so much is said, saturated, and nothing of others
pub record IsMark (count : ℕ) (f : ℕ → ℕ) (mark : Mark) : Type 0 where
  pub within : mark.place < count
  pub said : mark.moves ≡ capped (f mark.place)
  pub alone : (k : ℕ) → mark.place ≢ k → f k ≡ 0

-- the same, or nothing is said at all
abbrev pub AreMarked : (count : ℕ) → (ℕ → ℕ) → Option Mark → Type 0
AreMarked count f None = (k : ℕ) → f k ≡ 0
AreMarked count f (Some mark) = IsMark count f mark

-- each number is raised to what a function says of its place, saturated
pub record IsRaised (f : ℕ → ℕ) (old new : List ℕ) : Type 0 where
  pub sized : length new ≡ length old
  pub each : (k : ℕ) → k < length old → slice_index new k ≡ max (slice_index old k) (capped (f k))
