-- The rules of the procedures and of a body with calls, by the nodes that answer for the bodies and the requests of the calls.
use Rattle.std.proofs.Common.{◌≡◌, ◌∙◌, ℕ, zero, suc, ◌+◌, ◌<◌, true, false, List, [], ◌∷◌, ◌++◌, length, refl, ap, arith, inl, inr}
use Rattle.std.specs.Prelude.{slice_index_or}
use Rattle.prs_core.specs.Nets.{NodeRules}
use Rattle.prs_core.specs.Pairs.{no_rules, or_of}
use Rattle.prs_core.specs.Sites.{site_answer}
use Rattle.width_check.specs.Processes.{Process, skipping, TypedProgram}
use Rattle.handshake_expand.specs.Layout.{size_of}
use Rattle.handshake_expand.specs.Answers.{answer_of, select_own, again_own}
use Rattle.cell_parallel.specs.Trees.{tree_rules}
use Rattle.cell_select.specs.Selections.{select_rules, again_rules}
use Rattle.cell_sequence.specs.Sequence.{loop_request}
use Rattle.net_compose.specs.Translation.{q_rules, guards_rules, rules_of}
use Rattle.call_map.specs.Calling.{Called, calling, atom, turned, abreast, chosen, looped, Calleds, no_calleds, and_called, CalledChoices, no_called, or_called, inlined_choices, called_size, called_branches_size, called_answer, called_bodies_from, called_starts_from, called_ends, called_choosing, called_repeating, called_rules, called_turn_rules, called_branches_rules, called_bodies_rules}
use Rattle.call_map.specs.CallNet.{CallProgram, inlined_program, procs_from, body_at, body_begins, body_start, proc_answer, asks_of, proc_rules}
use Rattle.call_map.specs.CallsApart.{Calls, OneCalls, ChoiceCalls}
use Rattle.call_compose.specs.Placing.{answers_from, procs_rules}
use Rattle.handshake_expand.specs.Answers.{guards_from}

-- one of the nodes that answer for the bodies
pub answer_found : (p : TypedProgram) (bs : List Process) (from q : ℕ) → q < length bs
    → slice_index_or (answers_from p bs from) q 0 ≡ answer_of p (slice_index_or bs q skipping) (body_start p bs from q)
answer_found p [] from q within = absurd (omega (arith, within))
answer_found p (b ∷ bs) from zero within = refl
answer_found p (b ∷ bs) from (suc q) within = answer_found p bs (from + 1 + size_of p b) q (omega (arith, within))

-- only the answers of what is called count
module _ (ps : List Process) (p : TypedProgram) (d e : ℕ → ℕ) where
  mutual
    pub rules_same : (x : Called) (request from : ℕ) → ((q : ℕ) → Calls x q → d q ≡ e q)
        → called_rules ps p d x request from ≡ called_rules ps p e x request from
    rules_same (calling q) request from same = ap (λ a. site_answer request a ∷ []) (same q refl)
    rules_same (atom s) request from same = refl
    rules_same (turned members) request from same = turn_same members request from same
    rules_same (abreast members) request from same =
        ap (λ rs. rs ++ tree_rules (called_ends ps p members from) (from + called_branches_size ps p members)) (branches_same members request from same)
    rules_same (chosen false choices) request from same =
        ap (λ rs. select_rules (called_choosing ps p choices request (from + 2) select_own from)
        ++ (guards_rules p (inlined_choices ps choices) (from + 1) (guards_from (inlined_choices ps choices) select_own from) ++ rs))
        (bodies_same choices (called_starts_from ps p choices select_own from) (called_bodies_from ps p choices select_own from) same)
    rules_same (chosen true choices) request from same =
        ap (λ rs. again_rules (called_repeating ps p choices request from)
        ++ (guards_rules p (inlined_choices ps choices) (from + 3) (guards_from (inlined_choices ps choices) again_own from) ++ rs))
        (bodies_same choices (called_starts_from ps p choices again_own from) (called_bodies_from ps p choices again_own from) same)
    rules_same (looped s) request from same =
        ap (λ rs. no_rules ∷ loop_request request (called_answer ps p s (from + 2)) ∷ rs) (rules_same s (from + 1) (from + 2) same)

    turn_same : (xs : Calleds) (request from : ℕ) → ((q : ℕ) → OneCalls xs q → d q ≡ e q)
        → called_turn_rules ps p d xs request from ≡ called_turn_rules ps p e xs request from
    turn_same no_calleds request from same = refl
    turn_same (and_called s no_calleds) request from same = rules_same s request from (λ q c. same q (inl c))
    turn_same (and_called s (and_called t more)) request from same =
        let own = q_rules request (called_answer ps p s (from + 3)) from in
        let next = from + 3 + called_size ps p s in
        ap (λ rs. own ++ (rs ++ called_turn_rules ps p d (and_called t more) (from + 2) next)) (rules_same s from (from + 3) (λ q c. same q (inl c)))
        ∙ ap (λ rs. own ++ (called_rules ps p e s from (from + 3) ++ rs))
        (turn_same (and_called t more) (from + 2) (from + 3 + called_size ps p s) (λ q c. same q (inr c)))

    branches_same : (xs : Calleds) (request from : ℕ) → ((q : ℕ) → OneCalls xs q → d q ≡ e q)
        → called_branches_rules ps p d xs request from ≡ called_branches_rules ps p e xs request from
    branches_same no_calleds request from same = refl
    branches_same (and_called s more) request from same =
        let own = q_rules request (called_answer ps p s (from + 3)) from in
        let next = from + 3 + called_size ps p s in
        ap (λ rs. own ++ (rs ++ called_branches_rules ps p d more request next)) (rules_same s from (from + 3) (λ q c. same q (inl c)))
        ∙ ap (λ rs. own ++ (called_rules ps p e s from (from + 3) ++ rs))
        (branches_same more request (from + 3 + called_size ps p s) (λ q c. same q (inr c)))

    bodies_same : (xs : CalledChoices) (start from : ℕ) → ((q : ℕ) → ChoiceCalls xs q → d q ≡ e q)
        → called_bodies_rules ps p d xs start from ≡ called_bodies_rules ps p e xs start from
    bodies_same no_called start from same = refl
    bodies_same (or_called g s more) start from same =
        ap (λ rs. rs ++ called_bodies_rules ps p d more (start + 1) (from + called_size ps p s)) (rules_same s start from (λ q c. same q (inl c)))
        ∙ ap (λ rs. called_rules ps p e s start from ++ rs) (bodies_same more (start + 1) (from + called_size ps p s) (λ q c. same q (inr c)))

-- the same requests
pub asked_same : (p : TypedProgram) (asks others : ℕ → List ℕ) → ((q : ℕ) → asks q ≡ others q) → (q : ℕ) (bs : List Process) (from : ℕ)
    → procs_rules p (λ k. or_of (asks k)) q bs from ≡ procs_rules p (λ k. or_of (others k)) q bs from
asked_same p asks others same q [] from = refl
asked_same p asks others same q (b ∷ bs) from =
    let next = from + 1 + size_of p b in
    ap (λ ns. or_of ns ∷ (rules_of p b from (from + 1) ++ procs_rules p (λ k. or_of (asks k)) (suc q) bs next)) (same q)
    ∙ ap (λ rs. or_of (others q) ∷ (rules_of p b from (from + 1) ++ rs)) (asked_same p asks others same (suc q) bs (from + 1 + size_of p b))

pub procs_are : (C : CallProgram) (q : ℕ) (bs : List Process) (from : ℕ)
    → procs_rules (inlined_program C) (λ k. or_of (asks_of C k)) q bs from ≡ proc_rules C q bs from
procs_are C q [] from = refl
procs_are C q (b ∷ bs) from =
    let P = inlined_program C in
    ap (λ rs. or_of (asks_of C q) ∷ (rules_of P b from (from + 1) ++ rs)) (procs_are C (suc q) bs (from + 1 + size_of (inlined_program C) b))
