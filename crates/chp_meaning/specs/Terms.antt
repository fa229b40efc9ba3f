-- What is left of a process (Martin's CHP), and the places at which it goes on.
use Rattle.std.specs.Prelude.{ℕ, zero, suc, Bool, true, false, ◌&&◌, if◌then◌else◌, List, [], ◌∷◌, ◌++◌, map, Option, Some, None}
use Rattle.width_check.specs.Processes.{Process, in_turn, side_by_side, Processes, no_members, and_member}

mutual
  pub data Term : Type 0 where
    finished : Term  -- Done
    active : Process → Term  -- a statement at an active place, no sequence and no parallel composition
    in_sequence : Term → Processes → Term  -- what is left of the first part, and what follows it
    in_parallel : Terms → Term  -- what is left of each branch

  pub data Terms : Type 0 where
    no_branches : Terms
    and_branch : Term → Terms → Terms

abbrev pub is_finished : Term → Bool
is_finished finished = true
is_finished _ = false

abbrev pub all_finished : Terms → Bool
all_finished no_branches = true
all_finished (and_branch t more) = is_finished t && all_finished more

-- branches side by side are finished once each of them is
abbrev pub together : Terms → Term
together ts = if all_finished ts then finished else in_parallel ts

-- a statement as a term
abbrev mutual
  pub opened : Process → Term
  opened (in_turn members) = opened_turn members
  opened (side_by_side members) = together (opened_each members)
  opened p = active p

  pub opened_turn : Processes → Term
  opened_turn no_members = finished
  opened_turn (and_member p no_members) = opened p
  opened_turn (and_member p (and_member q more)) = in_sequence (opened p) (and_member q more)

  pub opened_each : Processes → Terms
  opened_each no_members = no_branches
  opened_each (and_member p more) = and_branch (opened p) (opened_each more)

-- a finished part is followed by the rest of its sequence
abbrev pub followed : Term → Processes → Term
followed finished more = opened_turn more
followed t more = in_sequence t more

-- a place of a term: the whole, one in the first part of a sequence, or one in a branch of a parallel composition
pub data Place : Type 0 where
  here : Place
  in_first : Place → Place
  in_branch : ℕ → Place → Place

-- the statement at an active place
abbrev mutual
  pub statement_at : Term → Place → Option Process
  statement_at (active p) here = Some p
  statement_at (in_sequence t more) (in_first at) = statement_at t at
  statement_at (in_parallel ts) (in_branch k at) = branch_at ts k at
  statement_at _ _ = None

  pub branch_at : Terms → ℕ → Place → Option Process
  branch_at no_branches k at = None
  branch_at (and_branch t more) zero at = statement_at t at
  branch_at (and_branch t more) (suc k) at = branch_at more k at

-- the term in which this is left of the statement at the place
abbrev mutual
  pub with_left : Term → Place → Term → Term
  with_left (active p) here left = left
  with_left (in_sequence t more) (in_first at) left = followed (with_left t at left) more
  with_left (in_parallel ts) (in_branch k at) left = together (with_branch ts k at left)
  with_left t at left = t

  pub with_branch : Terms → ℕ → Place → Term → Terms
  with_branch no_branches k at left = no_branches
  with_branch (and_branch t more) zero at left = and_branch (with_left t at left) more
  with_branch (and_branch t more) (suc k) at left = and_branch t (with_branch more k at left)

-- the active places, in the order in which the tree holds them
abbrev mutual
  pub places : Term → List Place
  places finished = []
  places (active p) = here ∷ []
  places (in_sequence t more) = map in_first (places t)
  places (in_parallel ts) = branch_places 0 ts

  pub branch_places : ℕ → Terms → List Place
  branch_places k no_branches = []
  branch_places k (and_branch t more) = map (in_branch k) (places t) ++ branch_places (suc k) more
