-- What is the greatest over all statements of a program, at sites alone; and that so are the numbers which ranks count of the falls of lines.
--
-- P: the program; f: what is said of a statement in its context, g: of a site; M: a bound; held, down: as in trails; p, q, more: statements; c: a channel; x: a
-- variable; e: that the greatest is below the bound.
use Rattle.std.proofs.Common.{◌≡◌, ℕ, suc, ◌+◌, ◌-◌, ◌≤◌, ◌==◌, Bool, true, false, refl, ap, ◌∙◌, subst, arith}
use Rattle.std.specs.Prelude.{if◌then◌else◌, max}
use Rattle.std.proofs.Math.Nat.{le-max_right, max-le}
use Rattle.chp_base.specs.declared.channel.Kind.{Kind}
use Rattle.chp_base.specs.declared.channel.Kind.TheVariants.{In, Out, Chan}
use Rattle.width_check.specs.Processes.{Process, skipping, assigning, sending, receiving, in_turn, side_by_side, choosing, repeating, Processes, no_members, and_member, member_count, Choices, no_choices, and_choice, TypedProgram}
use Rattle.round_time.specs.Longest.{guards_depth, tree_height, var_height, turn_first}
use Rattle.round_time.specs.Phases.{InContext, branch_down, over_statements, turn_statements, each_statements, choice_statements, over_program, acked_at, acked, written_at, written, taken_at, taken, rails_left}
use Rattle.circuit_time.proofs.Trails.{rail_left}
use Rattle.circuit_pace.proofs.TrailsWithin.{left_of_max, right_of_max}
use Rattle.circuit_pace.proofs.EverySite.{EverySite, EveryTurn, EveryBranch, EveryChoice, downs, turn_downs, each_downs, choice_downs}
use Rattle.circuit_pace.proofs.Counts.{acked_at as counts_acked, acked_of, written_at as counts_written, written_of, taken_at as counts_taken, taken_of, counts}

pub one_more : (n : ℕ) → 1 + n ≡ suc n
one_more n = omega arith

-- each site is below the greatest
module _ (P : TypedProgram) (f : InContext) (M : ℕ) where
  mutual
    pub over_each : (held down : ℕ) (p : Process) → over_statements P f held down p ≤ M → EverySite P (λ held down q. f held down q ≤ M) held down p
    over_each held down skipping e = tt
    over_each held down (assigning x at d) e = e
    over_each held down (sending c at d) e = e
    over_each held down (receiving c at x to) e = e
    over_each held down (in_turn ms) e = turn_each held down ms e
    over_each held down (side_by_side ms) e = let n = tree_height (member_count ms) in
        subst (λ d. EveryBranch P (λ held down q. f held down q ≤ M) d ms) (one_more (n + (held + (2 + n + down))))
        (branch_each (branch_down ms held down) ms e)
    over_each held down (repeating p) e = over_each 1 0 p e
    over_each held down (choosing false cs) e = choice_each (held + 3) (1 + down) cs (right_of_max (f held down (choosing false cs)) _ M e)
    over_each held down (choosing true cs) e = choice_each 4 (3 + guards_depth cs) cs (right_of_max (f held down (choosing true cs)) _ M e)

    turn_each : (held down : ℕ) (ms : Processes) → turn_statements P f held down ms ≤ M → EveryTurn P (λ held down q. f held down q ≤ M) held down ms
    turn_each held down no_members e = tt
    turn_each held down (and_member p no_members) e = over_each held down p e
    turn_each held down (and_member p (and_member q more)) e = let n = turn_first P (and_member q more) - 1 in (
      subst (λ d. EverySite P (λ held down q. f held down q ≤ M) 2 d p) (one_more n)
          (over_each 2 (1 + n) p (left_of_max _ (turn_statements P f (held + 2) down (and_member q more)) M e)),
      turn_each (held + 2) down (and_member q more) (right_of_max (over_statements P f 2 (1 + n) p) _ M e),
    )

    branch_each : (down : ℕ) (ms : Processes) → each_statements P f down ms ≤ M → EveryBranch P (λ held down q. f held down q ≤ M) down ms
    branch_each down no_members e = tt
    branch_each down (and_member p more) e = (
      over_each 2 down p (left_of_max _ (each_statements P f down more) M e),
      branch_each down more (right_of_max (over_statements P f 2 down p) _ M e),
    )

    choice_each : (held down : ℕ) (cs : Choices) → choice_statements P f held down cs ≤ M → EveryChoice P (λ held down q. f held down q ≤ M) held down cs
    choice_each held down no_choices e = tt
    choice_each held down (and_choice g p more) e = (
      over_each held down p (left_of_max _ (choice_statements P f held down more) M e),
      choice_each held down more (right_of_max (over_statements P f held down p) _ M e),
    )

-- where nothing is said of skips and selections
module _ (P : TypedProgram) (f : InContext) (g : Process → ℕ → ℕ) (same : (held down : ℕ) (q : Process) → f held down q ≡ g q down)
    (skips : (down : ℕ) → g skipping down ≡ 0) (chooses : (down : ℕ) (again : Bool) (cs : Choices) → g (choosing again cs) down ≡ 0) where
  none_own : (held down : ℕ) (again : Bool) (cs : Choices) (a b : ℕ) → a ≡ b → max (f held down (choosing again cs)) a ≡ b
  none_own held down again cs a b e =
      let z : f held down (choosing again cs) ≡ 0 = same held down (choosing again cs) ∙ chooses down again cs in
      let l = le-max_right (f held down (choosing again cs)) a in
      let m : max (f held down (choosing again cs)) a ≤ a = max-le (omega (arith, z)) (omega arith) in
      omega (arith, l, m, e)

  mutual
    over_downs : (held down : ℕ) (p : Process) → over_statements P f held down p ≡ downs P g held down p
    over_downs held down skipping = same held down skipping ∙ skips down
    over_downs held down (assigning x at d) = same held down (assigning x at d)
    over_downs held down (sending c at d) = same held down (sending c at d)
    over_downs held down (receiving c at x to) = same held down (receiving c at x to)
    over_downs held down (in_turn ms) = turn_same held down ms
    over_downs held down (side_by_side ms) = let n = tree_height (member_count ms) in
        branch_same (branch_down ms held down) ms ∙ ap (λ d. each_downs P g d ms) (one_more (n + (held + (2 + n + down))))
    over_downs held down (repeating p) = over_downs 1 0 p
    over_downs held down (choosing false cs) = none_own held down false cs _ _ (choice_same (held + 3) (1 + down) cs)
    over_downs held down (choosing true cs) = none_own held down true cs _ _ (choice_same 4 (3 + guards_depth cs) cs)

    turn_same : (held down : ℕ) (ms : Processes) → turn_statements P f held down ms ≡ turn_downs P g held down ms
    turn_same held down no_members = refl
    turn_same held down (and_member p no_members) = over_downs held down p
    turn_same held down (and_member p (and_member q more)) =
        let n = turn_first P (and_member q more) - 1 in
        ap (λ a. max a (turn_statements P f (held + 2) down (and_member q more))) (over_downs 2 (1 + n) p ∙ ap (λ d. downs P g 2 d p) (one_more n))
        ∙ ap (max (downs P g 2 (suc n) p)) (turn_same (held + 2) down (and_member q more))

    branch_same : (down : ℕ) (ms : Processes) → each_statements P f down ms ≡ each_downs P g down ms
    branch_same down no_members = refl
    branch_same down (and_member p more) =
        ap (λ a. max a (each_statements P f down more)) (over_downs 2 down p) ∙ ap (max (downs P g 2 down p)) (branch_same down more)

    choice_same : (held down : ℕ) (cs : Choices) → choice_statements P f held down cs ≡ choice_downs P g held down cs
    choice_same held down no_choices = refl
    choice_same held down (and_choice h p more) =
        ap (λ a. max a (choice_statements P f held down more)) (over_downs held down p) ∙ ap (max (downs P g held down p)) (choice_same held down more)

module _ (P : TypedProgram) where
  pub acked_is : (c : ℕ) → acked P c ≡ acked_of P c
  acked_is c = over_downs P (acked_at c) (counts_acked c) same (λ down. refl) (λ down again cs. refl) 2 1 P.body
    where
      same : (held down : ℕ) (q : Process) → acked_at c held down q ≡ counts_acked c q down
      same held down skipping = refl
      same held down (assigning x at e) = refl
      same held down (sending k at e) = refl
      same held down (receiving k at x to) = refl
      same held down (in_turn ms) = refl
      same held down (side_by_side ms) = refl
      same held down (repeating p) = refl
      same held down (choosing again cs) = refl

  pub written_is : (x : ℕ) → written P x ≡ written_of P x
  written_is x = over_downs P (written_at P x) (counts_written P x) same (λ down. refl) (λ down again cs. refl) 2 1 P.body
    where
      same : (held down : ℕ) (q : Process) → written_at P x held down q ≡ counts_written P x q down
      same held down skipping = refl
      same held down (assigning y at e) = refl
      same held down (sending k at e) = refl
      same held down (receiving k at y to) = ap (λ n. if y == x then 2 + n else 0) (acked_is k)
      same held down (in_turn ms) = refl
      same held down (side_by_side ms) = refl
      same held down (repeating p) = refl
      same held down (choosing again cs) = refl

  pub taken_is : (c : ℕ) → taken P c ≡ taken_of P c
  taken_is c = ap (λ n. max n (over_program P (taken_at P c))) (acked_is c)
      ∙ ap (max (acked_of P c)) (over_downs P (taken_at P c) (counts_taken P c) same (λ down. refl) (λ down again cs. refl) 2 1 P.body)
    where
      same : (held down : ℕ) (q : Process) → taken_at P c held down q ≡ counts_taken P c q down
      same held down skipping = refl
      same held down (assigning x at e) = refl
      same held down (sending k at e) = refl
      same held down (receiving k at x to) = ap (λ n. if k == c then 3 + var_height P x + n else 0) (written_is x)
      same held down (in_turn ms) = refl
      same held down (side_by_side ms) = refl
      same held down (repeating p) = refl
      same held down (choosing again cs) = refl

  pub rails_is : (kind : Kind) (c : ℕ) → rails_left P kind c ≡ rail_left kind ((counts P).acked c) ((counts P).taken c)
  rails_is In c = ap (λ n. 1 + n) (taken_is c)
  rails_is Out c = ap (λ n. 2 + n) (acked_is c)
  rails_is Chan c = ap (λ n. 1 + n) (taken_is c)
