-- Of the program as it is, the bound is `longest`.
use Rattle.std.proofs.Common.{◌≡◌, ℕ, suc, ◌+◌, true, false, refl, ap}
use Rattle.std.specs.Prelude.{max}
use Rattle.width_check.specs.Processes.{Process, skipping, assigning, sending, receiving, in_turn, side_by_side, choosing, repeating, Processes, no_members, and_member, Choices, no_choices, and_choice, TypedProgram}
use Rattle.round_time.specs.Longest.{guards_depth, first, turn_first, each_first, low, choice_low, within, turn_within, each_within, choice_within, longest}
use Rattle.pace_bound.specs.Halving.{first_by, turn_first_by, each_first_by, within_by, turn_within_by, each_within_by, choice_within_by, longest_by}
use Rattle.pace_bound.proofs.Halved.{both_same}

module _ (P : TypedProgram) where
  mutual
    pub first_whole : (p : Process) → first_by false P p ≡ first P p
    first_whole skipping = refl
    first_whole (assigning x at e) = refl
    first_whole (sending c at e) = refl
    first_whole (receiving c at x to) = refl
    first_whole (in_turn ms) = turn_first_whole ms
    first_whole (side_by_side ms) = ap (λ k. suc k) (each_first_whole ms)
    first_whole (choosing false cs) = refl
    first_whole (choosing true cs) = refl
    first_whole (repeating p) = refl

    pub turn_first_whole : (ms : Processes) → turn_first_by false P ms ≡ turn_first P ms
    turn_first_whole no_members = refl
    turn_first_whole (and_member p no_members) = first_whole p
    turn_first_whole (and_member p (and_member q more)) = ap (λ k. suc k) (first_whole p)

    each_first_whole : (ms : Processes) → each_first_by false P ms ≡ each_first P ms
    each_first_whole no_members = refl
    each_first_whole (and_member p more) =
        both_same (first_by false P p) (each_first_by false P more) (first P p) (each_first P more) (first_whole p) (each_first_whole more)

  mutual
    pub within_whole : (p : Process) → within_by false P p ≡ within P p
    within_whole skipping = refl
    within_whole (assigning x at e) = refl
    within_whole (sending c at e) = refl
    within_whole (receiving c at x to) = refl
    within_whole (in_turn ms) = turn_within_whole ms
    within_whole (side_by_side ms) = each_within_whole ms
    within_whole (choosing false cs) = choice_within_whole (3 + guards_depth cs) cs
    within_whole (choosing true cs) = ap (λ k. max k (choice_low P 4 cs + 4 + guards_depth cs)) (choice_within_whole (3 + guards_depth cs) cs)
    within_whole (repeating p) =
        both_same (within_by false P p) (max (first_by false P p) (low P 1 p + 1)) (within P p) (max (first P p) (low P 1 p + 1)) (within_whole p)
        (ap (λ k. max k (low P 1 p + 1)) (first_whole p))

    turn_within_whole : (ms : Processes) → turn_within_by false P ms ≡ turn_within P ms
    turn_within_whole no_members = refl
    turn_within_whole (and_member p no_members) = within_whole p
    turn_within_whole (and_member p (and_member q more)) =
        both_same (within_by false P p) (max (low P 2 p + 1 + turn_first_by false P (and_member q more)) (turn_within_by false P (and_member q more)))
        (within P p) (max (low P 2 p + 1 + turn_first P (and_member q more)) (turn_within P (and_member q more))) (within_whole p)
        (both_same (low P 2 p + 1 + turn_first_by false P (and_member q more)) (turn_within_by false P (and_member q more))
        (low P 2 p + 1 + turn_first P (and_member q more)) (turn_within P (and_member q more))
        (ap (λ k. low P 2 p + 1 + k) (turn_first_whole (and_member q more))) (turn_within_whole (and_member q more)))

    each_within_whole : (ms : Processes) → each_within_by false P ms ≡ each_within P ms
    each_within_whole no_members = refl
    each_within_whole (and_member p more) =
        both_same (within_by false P p) (each_within_by false P more) (within P p) (each_within P more) (within_whole p) (each_within_whole more)

    choice_within_whole : (started : ℕ) (cs : Choices) → choice_within_by false P started cs ≡ choice_within P started cs
    choice_within_whole started no_choices = refl
    choice_within_whole started (and_choice g p more) =
        both_same (within_by false P p) (max (started + first_by false P p) (choice_within_by false P started more)) (within P p)
        (max (started + first P p) (choice_within P started more)) (within_whole p)
        (both_same (started + first_by false P p) (choice_within_by false P started more) (started + first P p) (choice_within P started more)
        (ap (λ k. started + k) (first_whole p)) (choice_within_whole started more))

pub longest_whole : (P : TypedProgram) → longest_by false P ≡ longest P
longest_whole P =
    both_same (within_by false P P.body) (max (2 + first_by false P P.body) (low P 2 P.body + 2)) (within P P.body)
    (max (2 + first P P.body) (low P 2 P.body + 2)) (within_whole P P.body) (ap (λ k. max (2 + k) (low P 2 P.body + 2)) (first_whole P P.body))
