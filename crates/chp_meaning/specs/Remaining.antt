-- What is left of a program, by the numbers of its parts.
use Rattle.std.specs.Prelude.{◌≡◌, ℕ, zero, suc, ◌+◌, ◌<◌, ◌≤◌, Bool, true, false, ◌&&◌, nat_lt, if◌then◌else◌, List, [], ◌∷◌}
use Rattle.width_check.specs.Processes.{Process, skipping, assigning, sending, receiving, in_turn, side_by_side, choosing, repeating, Processes, no_members, and_member, Choices, no_choices, and_choice, member_count, choice_count}
use Rattle.width_check.specs.Values.{IsWellFormed}
use Rattle.chp_meaning.specs.declared.left.Left.{Left, Done, Whole, Inside', Branches', Row_of-Left, end_of-Left, more_of-Left}
use Rattle.chp_meaning.specs.Terms.{Term, Terms, finished, active, in_sequence, in_parallel, no_branches, and_branch}

mutual
  pub data Remains : Type 0 where
    over : Remains  -- nothing
    whole : Remains  -- all of a statement that is no sequence and no parallel composition
    within : (part : ℕ) → Remains → Remains  -- of its part of this number, its branch or its body
    alongside : Several → Remains  -- of each branch of a parallel composition

  pub data Several : Type 0 where
    no_more : Several
    and_left : Remains → Several → Several

abbrev mutual
  pub remains_of : Left → Remains
  remains_of Done = over
  remains_of Whole = whole
  remains_of (Inside' index p inner) = within index (remains_of inner)
  remains_of (Branches' shape lefts) = alongside (each_of lefts)

  pub each_of : {m : _} → Row_of-Left m → Several
  each_of end_of-Left = no_more
  each_of (more_of-Left l rest) = and_left (remains_of l) (each_of rest)

-- of lists
abbrev pub several_of : List Left → Several
several_of [] = no_more
several_of (l ∷ ls) = and_left (remains_of l) (several_of ls)

abbrev pub none_remains : Remains → Bool
none_remains over = true
none_remains _ = false

abbrev pub all_over : Several → Bool
all_over no_more = true
all_over (and_left r rest) = none_remains r && all_over rest

abbrev pub how_many : Several → ℕ
how_many no_more = 0
how_many (and_left r rest) = suc (how_many rest)

-- the parts of a statement: its members, its branches or its body
abbrev pub member_at : Processes → ℕ → Process
member_at no_members k = skipping
member_at (and_member p more) zero = p
member_at (and_member p more) (suc k) = member_at more k

abbrev pub branch_of : Choices → ℕ → Process
branch_of no_choices k = skipping
branch_of (and_choice g p more) zero = p
branch_of (and_choice g p more) (suc k) = branch_of more k

abbrev pub part_of : Process → ℕ → Process
part_of (in_turn members) k = member_at members k
part_of (side_by_side members) k = member_at members k
part_of (choosing again choices) k = branch_of choices k
part_of (repeating p) k = p
part_of _ k = skipping

abbrev pub part_count : Process → ℕ
part_count (in_turn members) = member_count members
part_count (side_by_side members) = member_count members
part_count (choosing again choices) = choice_count choices
part_count (repeating p) = 1
part_count _ = 0

-- the members from this number on
abbrev pub members_from : Processes → ℕ → Processes
members_from members zero = members
members_from no_members (suc k) = no_members
members_from (and_member p more) (suc k) = members_from more k

-- what comes when the part of this number is done
abbrev pub coming : Process → ℕ → Processes
coming (in_turn members) k = members_from members (suc k)
coming (choosing true choices) k = and_member (choosing true choices) no_members
coming (repeating p) k = and_member (repeating p) no_members
coming _ k = no_members

abbrev pub before : Term → Processes → Term
before t no_members = t
before t (and_member p more) = in_sequence t (and_member p more)

-- this is left of the statement, as a term
abbrev mutual
  pub term_of : Process → Remains → Term
  term_of p over = finished
  term_of p whole = active p
  term_of p (within k r) = before (term_of (part_of p k) r) (coming p k)
  term_of p (alongside rs) = in_parallel (branch_terms p 0 rs)

  pub branch_terms : Process → ℕ → Several → Terms
  branch_terms p k no_more = no_branches
  branch_terms p k (and_left r rest) = and_branch (term_of (part_of p k) r) (branch_terms p (suc k) rest)

abbrev pub is_beside : Process → Bool
is_beside (side_by_side ms) = true
is_beside _ = false

abbrev pub is_group : Process → Bool
is_group (in_turn ms) = true
is_group (side_by_side ms) = true
is_group _ = false

-- this can be left of the statement
abbrev mutual
  pub CanRemain : Process → Remains → Type 0
  CanRemain p over = Unit {0}
  CanRemain p whole = is_group p ≡ false
  CanRemain p (within k r) = (k < part_count p) × (is_beside p ≡ false) × (none_remains r ≡ false)
      × CanRemain (part_of p k) r
  CanRemain p (alongside rs) = (is_beside p ≡ true) × (how_many rs ≡ part_count p) × (all_over rs ≡ false)
      × EachCanRemain p 0 rs

  pub EachCanRemain : Process → ℕ → Several → Type 0
  EachCanRemain p k no_more = Unit {0}
  EachCanRemain p k (and_left r rest) = CanRemain (part_of p k) r × EachCanRemain p (suc k) rest

-- all of a statement, begun
abbrev mutual
  pub begun : Process → Remains
  begun (in_turn members) = within 0 (first_begun members)
  begun (side_by_side members) = alongside (each_begun members)
  begun _ = whole

  pub first_begun : Processes → Remains
  first_begun no_members = whole
  first_begun (and_member p more) = begun p

  pub each_begun : Processes → Several
  each_begun no_members = no_more
  each_begun (and_member p more) = and_left (begun p) (each_begun more)

-- part k has ended
abbrev pub after_part : Process → ℕ → Remains
after_part (in_turn members) k =
    if nat_lt (k + 1) (member_count members) then within (k + 1) (begun (member_at members (k + 1))) else over
after_part (choosing true cs) k = whole
after_part (repeating p) k = whole
after_part _ k = over

-- this is left of part k
abbrev pub resumed : Process → ℕ → Remains → Remains
resumed p k r = if none_remains r then after_part p k else within k r

abbrev pub gathered : Several → Remains
gathered rs = if all_over rs then over else alongside rs

-- What a run of the statement asks for: numbers of so many channels and variables, groups with members, and expressions
-- that have a value.
abbrev mutual
  pub IsRunnable : (channels vars : ℕ) → Process → Type 0
  IsRunnable channels vars skipping = Unit {0}
  IsRunnable channels vars (assigning x s e) = (x < vars) × IsWellFormed e
  IsRunnable channels vars (sending k s e) = (k < channels) × IsWellFormed e
  IsRunnable channels vars (receiving k s x t) = (k < channels) × (x < vars)
  IsRunnable channels vars (in_turn members) = (1 ≤ member_count members) × AreRunnable channels vars members
  IsRunnable channels vars (side_by_side members) = (1 ≤ member_count members) × AreRunnable channels vars members
  IsRunnable channels vars (choosing again choices) = ChoicesRunnable channels vars choices
  IsRunnable channels vars (repeating p) = IsRunnable channels vars p

  pub AreRunnable : (channels vars : ℕ) → Processes → Type 0
  AreRunnable channels vars no_members = Unit {0}
  AreRunnable channels vars (and_member p more) = IsRunnable channels vars p × AreRunnable channels vars more

  pub ChoicesRunnable : (channels vars : ℕ) → Choices → Type 0
  ChoicesRunnable channels vars no_choices = Unit {0}
  ChoicesRunnable channels vars (and_choice g p more) = IsWellFormed g × IsRunnable channels vars p
      × ChoicesRunnable channels vars more

-- of some numbers of channels and variables
abbrev pub HasMembers : Process → Type 0
HasMembers p = (channels : ℕ) × (vars : ℕ) × IsRunnable channels vars p

abbrev pub GuardsHaveValues : Choices → Type 0
GuardsHaveValues no_choices = Unit {0}
GuardsHaveValues (and_choice g p more) = IsWellFormed g × GuardsHaveValues more

abbrev pub RunsOn : (channels : ℕ) → Process → Type 0
RunsOn channels p = (vars : ℕ) × IsRunnable channels vars p
