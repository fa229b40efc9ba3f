-- What a sink takes of a line.
use Rattle.std.specs.Prelude.{◌≡◌, ℕ, ◌++◌, true, List, length, take}
use Rattle.chp_edge.specs.Faults.{Rose}
use Rattle.chp_edge.specs.declared.sink.Sink.{Ghosts as SinkMembers}

-- It took a prefix of the line and nothing else, of at most so many bytes: the whole line, where the count of its
-- faults didn't rise. What it took is said where its bytes are observable.
pub record IsSaid {W : Type 0} (sink : SinkMembers W) (before after : W) (line : List ℕ) : Type 0 where
  pub taken : ℕ
  pub prefix : sink.tells before ≡ true → sink.written after ≡ sink.written before ++ take taken line
  pub whole : ¬ Rose (sink.faults before) (sink.faults after) → taken ≡ length line
