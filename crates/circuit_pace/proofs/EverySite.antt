-- What holds of every site of a statement, each in its context; and the numbers of what follows the falls of lines, as maxima over all sites.
--
-- P: the program; held, down: as in trails; p, q, more: statements; f: what is said of a site; M: a bound.
use Rattle.std.proofs.Common.{ℕ, suc, ◌+◌, ◌-◌, ◌≤◌, true, false, arith}
use Rattle.std.specs.Prelude.{max}
use Rattle.std.proofs.Math.Nat.{max-le}
use Rattle.width_check.specs.Processes.{Process, skipping, assigning, sending, receiving, in_turn, side_by_side, choosing, repeating, Processes, no_members, and_member, member_count, Choices, no_choices, and_choice, TypedProgram}
use Rattle.circuit_places.proofs.Meets.{Meets, TurnMeets, EachMeets, ChoiceMeets}
use Rattle.round_time.specs.Longest.{guards_depth, tree_height, over_sites, over_turn, over_each, over_choices, turn_first}
use Rattle.circuit_pace.proofs.TrailsWithin.{Within, TurnWithin, EachWithin, ChoiceWithin, left_of_max, right_of_max, turn_of, last_of, member_of, later_of, each_of, branch_of, branches_of, body_of, select_of, repeat_of, arm_of, arms_of}

-- what is said of a site where its request is held so long, and so many moves follow the fall of its answer
abbrev pub OfSite : Type 1
OfSite = (held down : ℕ) → Process → Type 0

module _ (P : TypedProgram) where
  abbrev mutual
    pub EverySite : OfSite → (held down : ℕ) → Process → Type 0
    EverySite Q held down skipping = Unit {0}
    EverySite Q held down (in_turn ms) = EveryTurn Q held down ms
    EverySite Q held down (side_by_side ms) = EveryBranch Q (suc (tree_height (member_count ms) + (held + (2 + tree_height (member_count ms) + down)))) ms
    EverySite Q held down (repeating p) = EverySite Q 1 0 p
    EverySite Q held down (choosing false cs) = EveryChoice Q (held + 3) (1 + down) cs
    EverySite Q held down (choosing true cs) = EveryChoice Q 4 (3 + guards_depth cs) cs
    EverySite Q held down p = Q held down p

    pub EveryTurn : OfSite → (held down : ℕ) → Processes → Type 0
    EveryTurn Q held down no_members = Unit {0}
    EveryTurn Q held down (and_member p no_members) = EverySite Q held down p
    EveryTurn Q held down (and_member p (and_member q more)) =
        EverySite Q 2 (suc (turn_first P (and_member q more) - 1)) p × EveryTurn Q (held + 2) down (and_member q more)

    pub EveryBranch : OfSite → (down : ℕ) → Processes → Type 0
    EveryBranch Q down no_members = Unit {0}
    EveryBranch Q down (and_member p more) = EverySite Q 2 down p × EveryBranch Q down more

    pub EveryChoice : OfSite → (held down : ℕ) → Choices → Type 0
    EveryChoice Q held down no_choices = Unit {0}
    EveryChoice Q held down (and_choice g p more) = EverySite Q held down p × EveryChoice Q held down more

  -- the greatest of what a function says of the sites of a statement, each with how many moves follow the fall of its answer
  abbrev mutual
    pub downs : (Process → ℕ → ℕ) → (held down : ℕ) → Process → ℕ
    downs f held down skipping = 0
    downs f held down (in_turn ms) = turn_downs f held down ms
    downs f held down (side_by_side ms) = each_downs f (suc (tree_height (member_count ms) + (held + (2 + tree_height (member_count ms) + down)))) ms
    downs f held down (repeating p) = downs f 1 0 p
    downs f held down (choosing false cs) = choice_downs f (held + 3) (1 + down) cs
    downs f held down (choosing true cs) = choice_downs f 4 (3 + guards_depth cs) cs
    downs f held down p = f p down

    pub turn_downs : (Process → ℕ → ℕ) → (held down : ℕ) → Processes → ℕ
    turn_downs f held down no_members = 0
    turn_downs f held down (and_member p no_members) = downs f held down p
    turn_downs f held down (and_member p (and_member q more)) =
        max (downs f 2 (suc (turn_first P (and_member q more) - 1)) p) (turn_downs f (held + 2) down (and_member q more))

    pub each_downs : (Process → ℕ → ℕ) → (down : ℕ) → Processes → ℕ
    each_downs f down no_members = 0
    each_downs f down (and_member p more) = max (downs f 2 down p) (each_downs f down more)

    pub choice_downs : (Process → ℕ → ℕ) → (held down : ℕ) → Choices → ℕ
    choice_downs f held down no_choices = 0
    choice_downs f held down (and_choice g p more) = max (downs f held down p) (choice_downs f held down more)

  -- each site is below the greatest
  module _ (f : Process → ℕ → ℕ) (M : ℕ) where
    mutual
      pub downs_each : (held down : ℕ) (p : Process) → downs f held down p ≤ M → EverySite (λ held down q. f q down ≤ M) held down p
      downs_each held down skipping e = tt
      downs_each held down (assigning x at d) e = e
      downs_each held down (sending c at d) e = e
      downs_each held down (receiving c at x to) e = e
      downs_each held down (in_turn ms) e = turn_each held down ms e
      downs_each held down (side_by_side ms) e = branch_each (suc (tree_height (member_count ms) + (held + (2 + tree_height (member_count ms) + down)))) ms e
      downs_each held down (repeating p) e = downs_each 1 0 p e
      downs_each held down (choosing false cs) e = choice_each (held + 3) (1 + down) cs e
      downs_each held down (choosing true cs) e = choice_each 4 (3 + guards_depth cs) cs e

      turn_each : (held down : ℕ) (ms : Processes) → turn_downs f held down ms ≤ M → EveryTurn (λ held down q. f q down ≤ M) held down ms
      turn_each held down no_members e = tt
      turn_each held down (and_member p no_members) e = downs_each held down p e
      turn_each held down (and_member p (and_member q more)) e = (
        downs_each 2 (suc (turn_first P (and_member q more) - 1)) p (left_of_max _ (turn_downs f (held + 2) down (and_member q more)) M e),
        turn_each (held + 2) down (and_member q more) (right_of_max (downs f 2 (suc (turn_first P (and_member q more) - 1)) p) _ M e),
      )

      branch_each : (down : ℕ) (ms : Processes) → each_downs f down ms ≤ M → EveryBranch (λ held down q. f q down ≤ M) down ms
      branch_each down no_members e = tt
      branch_each down (and_member p more) e =
          (downs_each 2 down p (left_of_max _ (each_downs f down more) M e), branch_each down more (right_of_max (downs f 2 down p) _ M e))

      choice_each : (held down : ℕ) (cs : Choices) → choice_downs f held down cs ≤ M → EveryChoice (λ held down q. f q down ≤ M) held down cs
      choice_each held down no_choices e = tt
      choice_each held down (and_choice g p more) e =
          (downs_each held down p (left_of_max _ (choice_downs f held down more) M e), choice_each held down more (right_of_max (downs f held down p) _ M e))

    -- and the greatest is below what each is below
    mutual
      pub downs_most : (held down : ℕ) (p : Process) → EverySite (λ held down q. f q down ≤ M) held down p → downs f held down p ≤ M
      downs_most held down skipping e = omega arith
      downs_most held down (assigning x at d) e = e
      downs_most held down (sending c at d) e = e
      downs_most held down (receiving c at x to) e = e
      downs_most held down (in_turn ms) e = turn_most held down ms e
      downs_most held down (side_by_side ms) e = branch_most (suc (tree_height (member_count ms) + (held + (2 + tree_height (member_count ms) + down)))) ms e
      downs_most held down (repeating p) e = downs_most 1 0 p e
      downs_most held down (choosing false cs) e = choice_most (held + 3) (1 + down) cs e
      downs_most held down (choosing true cs) e = choice_most 4 (3 + guards_depth cs) cs e

      turn_most : (held down : ℕ) (ms : Processes) → EveryTurn (λ held down q. f q down ≤ M) held down ms → turn_downs f held down ms ≤ M
      turn_most held down no_members e = omega arith
      turn_most held down (and_member p no_members) e = downs_most held down p e
      turn_most held down (and_member p (and_member q more)) e =
          max-le (downs_most 2 (suc (turn_first P (and_member q more) - 1)) p e.0) (turn_most (held + 2) down (and_member q more) e.1)

      branch_most : (down : ℕ) (ms : Processes) → EveryBranch (λ held down q. f q down ≤ M) down ms → each_downs f down ms ≤ M
      branch_most down no_members e = omega arith
      branch_most down (and_member p more) e = max-le (downs_most 2 down p e.0) (branch_most down more e.1)

      choice_most : (held down : ℕ) (cs : Choices) → EveryChoice (λ held down q. f q down ≤ M) held down cs → choice_downs f held down cs ≤ M
      choice_most held down no_choices e = omega arith
      choice_most held down (and_choice g p more) e = max-le (downs_most held down p e.0) (choice_most held down more e.1)

    -- the same of how long requests are held
    mutual
      pub holds_each : (held down : ℕ) (p : Process) → over_sites f held p ≤ M → EverySite (λ held down q. f q held ≤ M) held down p
      holds_each held down skipping e = tt
      holds_each held down (assigning x at d) e = e
      holds_each held down (sending c at d) e = e
      holds_each held down (receiving c at x to) e = e
      holds_each held down (in_turn ms) e = turn_holds held down ms e
      holds_each held down (side_by_side ms) e = branch_holds (suc (tree_height (member_count ms) + (held + (2 + tree_height (member_count ms) + down)))) ms e
      holds_each held down (repeating p) e = holds_each 1 0 p e
      holds_each held down (choosing false cs) e = choice_holds (held + 3) (1 + down) cs e
      holds_each held down (choosing true cs) e = choice_holds 4 (3 + guards_depth cs) cs e

      turn_holds : (held down : ℕ) (ms : Processes) → over_turn f held ms ≤ M → EveryTurn (λ held down q. f q held ≤ M) held down ms
      turn_holds held down no_members e = tt
      turn_holds held down (and_member p no_members) e = holds_each held down p e
      turn_holds held down (and_member p (and_member q more)) e = (
        holds_each 2 (suc (turn_first P (and_member q more) - 1)) p (left_of_max _ (over_turn f (held + 2) (and_member q more)) M e),
        turn_holds (held + 2) down (and_member q more) (right_of_max (over_sites f 2 p) _ M e),
      )

      branch_holds : (down : ℕ) (ms : Processes) → over_each f ms ≤ M → EveryBranch (λ held down q. f q held ≤ M) down ms
      branch_holds down no_members e = tt
      branch_holds down (and_member p more) e =
          (holds_each 2 down p (left_of_max _ (over_each f more) M e), branch_holds down more (right_of_max (over_sites f 2 p) _ M e))

      choice_holds : (held down : ℕ) (cs : Choices) → over_choices f held cs ≤ M → EveryChoice (λ held down q. f q held ≤ M) held down cs
      choice_holds held down no_choices e = tt
      choice_holds held down (and_choice g p more) e =
          (holds_each held down p (left_of_max _ (over_choices f held more) M e), choice_holds held down more (right_of_max (over_sites f held p) _ M e))

  -- contexts, and what typed statements keep
  module _ (L : ℕ) where
    mutual
      pub within_each : (held down : ℕ) (p : Process) → Within P L held down p → Meets P p
          → EverySite (λ held down q. Within P L held down q × Meets P q) held down p
      within_each held down skipping w m = tt
      within_each held down (assigning x at d) w m = (w, m)
      within_each held down (sending c at d) w m = (w, m)
      within_each held down (receiving c at x to) w m = (w, m)
      within_each held down (in_turn ms) w m = turn_within_each held down ms (turn_of P L w) m
      within_each held down (side_by_side ms) w m =
          branch_within_each (suc (tree_height (member_count ms) + (held + (2 + tree_height (member_count ms) + down)))) ms (each_of P L w) m.2
      within_each held down (repeating p) w m = within_each 1 0 p (body_of P L w) m
      within_each held down (choosing false cs) w m = choice_within_each (held + 3) (1 + down) (3 + guards_depth cs) cs (select_of P L w) m.2
      within_each held down (choosing true cs) w m = choice_within_each 4 (3 + guards_depth cs) (3 + guards_depth cs) cs (repeat_of P L w) m.2

      turn_within_each : (held down : ℕ) (ms : Processes) → TurnWithin P L held down ms → TurnMeets P ms
          → EveryTurn (λ held down q. Within P L held down q × Meets P q) held down ms
      turn_within_each held down no_members w m = tt
      turn_within_each held down (and_member p no_members) w m = within_each held down p (last_of P L w) m
      turn_within_each held down (and_member p (and_member q more)) w m = (
        within_each 2 (suc (turn_first P (and_member q more) - 1)) p (member_of P L w) m.0,
        turn_within_each (held + 2) down (and_member q more)
            (later_of P L w) m.1,
      )

      branch_within_each : (down : ℕ) (ms : Processes) → EachWithin P L down ms → EachMeets P ms
          → EveryBranch (λ held down q. Within P L held down q × Meets P q) down ms
      branch_within_each down no_members w m = tt
      branch_within_each down (and_member p more) w m =
          (within_each 2 down p (branch_of P L w) m.0, branch_within_each down more (branches_of P L w) m.2)

      choice_within_each : (held down started : ℕ) (cs : Choices) → ChoiceWithin P L held down started cs → ChoiceMeets P cs
          → EveryChoice (λ held down q. Within P L held down q × Meets P q) held down cs
      choice_within_each held down started no_choices w m = tt
      choice_within_each held down started (and_choice g p more) w m =
          (within_each held down p (arm_of P L w) m.0, choice_within_each held down started more (arms_of P L w) m.1)

  -- what follows at each site
  module _ (Q R : OfSite) (on : (held down : ℕ) (p : Process) → Q held down p → R held down p) where
    mutual
      pub site_map : (held down : ℕ) (p : Process) → EverySite Q held down p → EverySite R held down p
      site_map held down skipping e = tt
      site_map held down (assigning x at d) e = on held down (assigning x at d) e
      site_map held down (sending c at d) e = on held down (sending c at d) e
      site_map held down (receiving c at x to) e = on held down (receiving c at x to) e
      site_map held down (in_turn ms) e = turn_map held down ms e
      site_map held down (side_by_side ms) e = branch_map (suc (tree_height (member_count ms) + (held + (2 + tree_height (member_count ms) + down)))) ms e
      site_map held down (repeating p) e = site_map 1 0 p e
      site_map held down (choosing false cs) e = choice_map (held + 3) (1 + down) cs e
      site_map held down (choosing true cs) e = choice_map 4 (3 + guards_depth cs) cs e

      turn_map : (held down : ℕ) (ms : Processes) → EveryTurn Q held down ms → EveryTurn R held down ms
      turn_map held down no_members e = tt
      turn_map held down (and_member p no_members) e = site_map held down p e
      turn_map held down (and_member p (and_member q more)) e =
          (site_map 2 (suc (turn_first P (and_member q more) - 1)) p e.0, turn_map (held + 2) down (and_member q more) e.1)

      branch_map : (down : ℕ) (ms : Processes) → EveryBranch Q down ms → EveryBranch R down ms
      branch_map down no_members e = tt
      branch_map down (and_member p more) e = (site_map 2 down p e.0, branch_map down more e.1)

      choice_map : (held down : ℕ) (cs : Choices) → EveryChoice Q held down cs → EveryChoice R held down cs
      choice_map held down no_choices e = tt
      choice_map held down (and_choice g p more) e = (site_map held down p e.0, choice_map held down more e.1)

  -- two things that hold of each site
  module _ (Q R : OfSite) where
    mutual
      pub site_both : (held down : ℕ) (p : Process) → EverySite Q held down p → EverySite R held down p → EverySite (λ h d q. Q h d q × R h d q) held down p
      site_both held down skipping e f = tt
      site_both held down (assigning x at d) e f = (e, f)
      site_both held down (sending c at d) e f = (e, f)
      site_both held down (receiving c at x to) e f = (e, f)
      site_both held down (in_turn ms) e f = turn_both held down ms e f
      site_both held down (side_by_side ms) e f = branch_both (suc (tree_height (member_count ms) + (held + (2 + tree_height (member_count ms) + down)))) ms e f
      site_both held down (repeating p) e f = site_both 1 0 p e f
      site_both held down (choosing false cs) e f = choice_both (held + 3) (1 + down) cs e f
      site_both held down (choosing true cs) e f = choice_both 4 (3 + guards_depth cs) cs e f

      turn_both : (held down : ℕ) (ms : Processes) → EveryTurn Q held down ms → EveryTurn R held down ms → EveryTurn (λ h d q. Q h d q × R h d q) held down ms
      turn_both held down no_members e f = tt
      turn_both held down (and_member p no_members) e f = site_both held down p e f
      turn_both held down (and_member p (and_member q more)) e f =
          (site_both 2 (suc (turn_first P (and_member q more) - 1)) p e.0 f.0, turn_both (held + 2) down (and_member q more) e.1 f.1)

      branch_both : (down : ℕ) (ms : Processes) → EveryBranch Q down ms → EveryBranch R down ms → EveryBranch (λ h d q. Q h d q × R h d q) down ms
      branch_both down no_members e f = tt
      branch_both down (and_member p more) e f = (site_both 2 down p e.0 f.0, branch_both down more e.1 f.1)

      choice_both : (held down : ℕ) (cs : Choices) → EveryChoice Q held down cs → EveryChoice R held down cs
          → EveryChoice (λ h d q. Q h d q × R h d q) held down cs
      choice_both held down no_choices e f = tt
      choice_both held down (and_choice g p more) e f = (site_both held down p e.0 f.0, choice_both held down more e.1 f.1)

  -- a family of things
  module _ (Q : ℕ → OfSite) where
    mutual
      pub site_all : (held down : ℕ) (p : Process) → ((c : ℕ) → EverySite (Q c) held down p) → EverySite (λ h d q. (c : ℕ) → Q c h d q) held down p
      site_all held down skipping e = tt
      site_all held down (assigning x at d) e = e
      site_all held down (sending c at d) e = e
      site_all held down (receiving c at x to) e = e
      site_all held down (in_turn ms) e = turn_all held down ms e
      site_all held down (side_by_side ms) e = branch_all (suc (tree_height (member_count ms) + (held + (2 + tree_height (member_count ms) + down)))) ms e
      site_all held down (repeating p) e = site_all 1 0 p e
      site_all held down (choosing false cs) e = choice_all (held + 3) (1 + down) cs e
      site_all held down (choosing true cs) e = choice_all 4 (3 + guards_depth cs) cs e

      turn_all : (held down : ℕ) (ms : Processes) → ((c : ℕ) → EveryTurn (Q c) held down ms) → EveryTurn (λ h d q. (c : ℕ) → Q c h d q) held down ms
      turn_all held down no_members e = tt
      turn_all held down (and_member p no_members) e = site_all held down p e
      turn_all held down (and_member p (and_member q more)) e =
          (site_all 2 (suc (turn_first P (and_member q more) - 1)) p (λ c. (e c).0), turn_all (held + 2) down (and_member q more) (λ c. (e c).1))

      branch_all : (down : ℕ) (ms : Processes) → ((c : ℕ) → EveryBranch (Q c) down ms) → EveryBranch (λ h d q. (c : ℕ) → Q c h d q) down ms
      branch_all down no_members e = tt
      branch_all down (and_member p more) e = (site_all 2 down p (λ c. (e c).0), branch_all down more (λ c. (e c).1))

      choice_all : (held down : ℕ) (cs : Choices) → ((c : ℕ) → EveryChoice (Q c) held down cs) → EveryChoice (λ h d q. (c : ℕ) → Q c h d q) held down cs
      choice_all held down no_choices e = tt
      choice_all held down (and_choice g p more) e = (site_all held down p (λ c. (e c).0), choice_all held down more (λ c. (e c).1))
