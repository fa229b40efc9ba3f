-- A buffer that has room for each line of a rule file.
use Rattle.std.specs.Prelude.{ℕ, ◌+◌, ◌*◌, ◌≤◌, length, All}
use Rattle.prs_core.specs.Nets.{GuardValue, NodeRules, NetValue, guard_literals}

-- no guard of the node has more literals than so many, or more terms
pub record IsFew (most : ℕ) (r : NodeRules) : Type 0 where
  pub up : guard_literals r.up ≤ most
  pub up_terms : length r.up ≤ most
  pub down : guard_literals r.down ≤ most
  pub down_terms : length r.down ≤ most

-- 64 bytes for each literal of a guard and for the end of its rule, and for each other line
abbrev pub IsRoomFor : ℕ → GuardValue → Type 0
IsRoomFor capacity g = 64 * (guard_literals g + 1) ≤ capacity

pub record HasRoomForLines (n : NetValue) (capacity : ℕ) : Type 0 where
  pub lines : 64 ≤ capacity
  pub up : All (IsRoomFor capacity) n.up
  pub down : All (IsRoomFor capacity) n.down
