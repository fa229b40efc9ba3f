-- Points, ways and loops as the program holds them, and what is said of those that are found.
use Rattle.std.specs.Prelude.{◌≡◌, ◌<◌, ◌-◌, ◌^◌, Bool, max, List, [], ◌∷◌, ◌++◌, map}
use Rattle.width_check.specs.Processes.{Processes, and_member, TypedProgram}
use Rattle.width_check.specs.View.{process_of}
use Rattle.handshake_expand.specs.Layout.{capped}
use Rattle.round_time.specs.Ways as told
use Rattle.round_time.specs.Ways.{started, step_of, ended, way, to_next, greatest_length, first_longest}
use Rattle.pace_bound.specs.Halving.{within_by}
use Rattle.pace_bound.specs.declared.away.StepAway.{StepAway}
use Rattle.pace_bound.specs.declared.ways.Point.{Point}
use Rattle.pace_bound.specs.declared.ways.Point.TheVariants.{Started, Step, Ended}
use Rattle.pace_bound.specs.declared.ways.Way.{Way}
use Rattle.pace_bound.specs.declared.within.Loop.{Loop}

abbrev pub point_of : Point → told.Point
point_of Started = started
point_of (Step s) = step_of (process_of s.now)
point_of Ended = ended

abbrev pub way_of : Way → told.Way
way_of w = way (point_of w.from) (point_of w.to) w.length

abbrev pub loop_of : Loop → told.Loop
loop_of l = record { statement = process_of l.statement.now; length = l.longest }

-- numbers stop at 2^64 - 1
abbrev pub capped_loop : told.Loop → told.Loop
capped_loop l = record { statement = l.statement; length = capped l.length }

-- the step that a statement makes, and how far away it is
abbrev pub away_of : StepAway → told.StepAway
away_of s = (process_of s.statement.now, s.moves)

-- a loop, and how long the longest way inside of it is, of the program as it is or in halves
abbrev pub measured : (halved : Bool) → TypedProgram → told.Loop → told.Loop
measured halved P l = record { statement = l.statement; length = capped (within_by halved P l.statement) }

-- these loops stand behind those that were there, each measured
abbrev pub AreLoopsNoted : (halved : Bool) → TypedProgram → (old new : List Loop) → List told.Loop → Type 0
AreLoopsNoted halved P old new more = map loop_of new ≡ map loop_of old ++ map (measured halved P) more

-- this way, or, where its length is 2^64 - 1 or more, one that is said to have 2^64 - 1 moves
pub record IsWay (w : told.Way) (found : Way) : Type 0 where
  pub long : found.length ≡ capped w.length
  pub exact : found.length < 2 ^ 64 - 1 → way_of found ≡ w

-- of a way and some more, the first of the longest ones, or, where those are too long, one that is said to have
-- 2^64 - 1 moves
pub record IsLongestOf (best found : Way) (more : List told.Way) : Type 0 where
  pub long : found.length ≡ max best.length (capped (greatest_length more))
  pub exact : greatest_length more < 2 ^ 64 - 1 → way_of found ≡ first_longest (way_of best) more

-- in a sequence, the way from the first of some members on to the next
abbrev pub onward_ways : TypedProgram → Processes → List told.Way
onward_ways P (and_member p (and_member q more)) = to_next P p q more ∷ []
onward_ways P _ = []
