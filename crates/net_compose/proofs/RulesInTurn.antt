-- The rules and the sites of sequences, parallel compositions and selections, member by member.
use Rattle.std.proofs.Common.{◌≡◌, ℕ, ◌+◌, ◌<◌, ◌≤◌, Bool, true, false, List, [], ◌∷◌, ◌++◌, length, get_or, drop, refl, ap, ◌∙◌, arith}
use Rattle.width_check.specs.declared.typed.TArm.{TArm}
use Rattle.width_check.specs.declared.typed.TStmt.{TStmt}
use Rattle.width_check.specs.Processes.{Process, choosing, Processes, no_members, and_member, member_count, TypedProgram}
use Rattle.width_check.specs.View.{formula_of, process_of, members_in, choices_in}
use Rattle.handshake_expand.specs.Layout.{formula_size, size_of}
use Rattle.handshake_expand.specs.Answers.{answer_of, bodies_from}
use Rattle.handshake_expand.specs.PartTree.{own_before}
use Rattle.handshake_expand.proofs.Rows.{member_at, no_more_members, arm_at, no_more_arms}
use Rattle.handshake_expand.proofs.Turns.{some_behind, last_alone}
use Rattle.function_blocks.specs.Expressions.{formula_rules, formula_result}
use Rattle.handshake_expand.specs.Sites.{Sites, sites_in, sites_in_turn, sites_in_branches, sites_in_bodies}
use Rattle.net_compose.specs.Translation.{q_rules, bits_at, rules_of, turn_rules, branches_rules, bodies_rules, branch_ends, guard_pairs, branch_answers, guards_rules}

-- a member behind which others stand
turn_rules_more : (p : TypedProgram) (s : Process) (more : Processes) (request from : ℕ) → 0 < member_count more
    → turn_rules p (and_member s more) request from ≡ q_rules request (answer_of p s (from + 3)) from
    ++ (rules_of p s from (from + 3) ++ turn_rules p more (from + 2) (from + 3 + size_of p s))
turn_rules_more p s no_members request from some = absurd (omega arith)
turn_rules_more p s (and_member t more) request from some = refl

turn_sites_more : {A : Type 0} (p : TypedProgram) (site : Sites A) (s : Process) (more : Processes) (from : ℕ) → 0 < member_count more
    → sites_in_turn p site (and_member s more) from ≡ sites_in p site s (from + 3) ++ sites_in_turn p site more (from + 3 + size_of p s)
turn_sites_more p site s no_members from some = absurd (omega arith)
turn_sites_more p site s (and_member t more) from some = refl

-- a member of a sequence that isn't the last, and the last one
module _ (p : TypedProgram) (ss : List TStmt) (i : ℕ) (s : TStmt) (is : s ≡ get_or ss i s) where
  pub turn_rules_here : (request from : ℕ) → i + 1 < length ss
      → turn_rules p (members_in (drop i ss)) request from ≡ q_rules request (answer_of p (process_of s) (from + 3)) from
      ++ (rules_of p (process_of s) from (from + 3) ++ turn_rules p (members_in (drop (i + 1) ss)) (from + 2) (from + 3 + size_of p (process_of s)))
  turn_rules_here request from within =
      ap (λ ms. turn_rules p ms request from) (member_at ss i s (omega (arith, within)) is)
      ∙ turn_rules_more p (process_of s) (members_in (drop (i + 1) ss)) request from (some_behind ss i within)

  pub turn_rules_last : (request from : ℕ) → i + 1 ≡ length ss → turn_rules p (members_in (drop i ss)) request from ≡ rules_of p (process_of s) request from
  turn_rules_last request from end = ap (λ ms. turn_rules p ms request from) (last_alone ss i s end is)

  pub turn_sites_here : {A : Type 0} (site : Sites A) (from : ℕ) → i + 1 < length ss
      → sites_in_turn p site (members_in (drop i ss)) from ≡ sites_in p site (process_of s) (from + 3)
      ++ sites_in_turn p site (members_in (drop (i + 1) ss)) (from + 3 + size_of p (process_of s))
  turn_sites_here site from within =
      ap (λ ms. sites_in_turn p site ms from) (member_at ss i s (omega (arith, within)) is)
      ∙ turn_sites_more p site (process_of s) (members_in (drop (i + 1) ss)) from (some_behind ss i within)

  pub turn_sites_last : {A : Type 0} (site : Sites A) (from : ℕ) → i + 1 ≡ length ss →
      sites_in_turn p site (members_in (drop i ss)) from ≡ sites_in p site (process_of s) from
  turn_sites_last site from end = ap (λ ms. sites_in_turn p site ms from) (last_alone ss i s end is)

-- a branch, and those behind it
module _ (p : TypedProgram) (ss : List TStmt) (i : ℕ) (s : TStmt) (within : i < length ss) (is : s ≡ get_or ss i s) where
  pub branch_rules_here : (request from : ℕ) →
      branches_rules p (members_in (drop i ss)) request from ≡ q_rules request (answer_of p (process_of s) (from + 3)) from
      ++ (rules_of p (process_of s) from (from + 3) ++ branches_rules p (members_in (drop (i + 1) ss)) request (from + 3 + size_of p (process_of s)))
  branch_rules_here request from = ap (λ ms. branches_rules p ms request from) (member_at ss i s within is)

  pub branch_ends_here : (from : ℕ) → branch_ends p (members_in (drop i ss)) from ≡ (from + 2)
      ∷ branch_ends p (members_in (drop (i + 1) ss)) (from + 3 + size_of p (process_of s))
  branch_ends_here from = ap (λ ms. branch_ends p ms from) (member_at ss i s within is)

  pub branch_sites_here : {A : Type 0} (site : Sites A) (from : ℕ)
      → sites_in_branches p site (members_in (drop i ss)) from ≡ sites_in p site (process_of s) (from + 3)
      ++ sites_in_branches p site (members_in (drop (i + 1) ss)) (from + 3 + size_of p (process_of s))
  branch_sites_here site from = ap (λ ms. sites_in_branches p site ms from) (member_at ss i s within is)

-- no branch is left
module _ (p : TypedProgram) (ss : List TStmt) (i : ℕ) (all : length ss ≤ i) where
  pub branch_rules_end : (request from : ℕ) → branches_rules p (members_in (drop i ss)) request from ≡ []
  branch_rules_end request from = ap (λ ms. branches_rules p ms request from) (no_more_members ss i all)

  pub branch_ends_end : (from : ℕ) → branch_ends p (members_in (drop i ss)) from ≡ []
  branch_ends_end from = ap (λ ms. branch_ends p ms from) (no_more_members ss i all)

  pub branch_sites_end : {A : Type 0} (site : Sites A) (from : ℕ) → sites_in_branches p site (members_in (drop i ss)) from ≡ []
  branch_sites_end site from = ap (λ ms. sites_in_branches p site ms from) (no_more_members ss i all)

-- an arm, and those behind it
module _ (p : TypedProgram) (arms : List TArm) (i : ℕ) (a : TArm) (within : i < length arms) (is : a ≡ get_or arms i a) where
  pub body_rules_here : (start from : ℕ) → bodies_rules p (choices_in (drop i arms)) start from
      ≡ rules_of p (process_of a.body) start from ++ bodies_rules p (choices_in (drop (i + 1) arms)) (start + 1) (from + size_of p (process_of a.body))
  body_rules_here start from = ap (λ cs. bodies_rules p cs start from) (arm_at arms i a within is)

  pub body_answers_here : (from : ℕ) → branch_answers p (choices_in (drop i arms)) from
      ≡ answer_of p (process_of a.body) from ∷ branch_answers p (choices_in (drop (i + 1) arms)) (from + size_of p (process_of a.body))
  body_answers_here from = ap (λ cs. branch_answers p cs from) (arm_at arms i a within is)

  pub body_sites_here : {A : Type 0} (site : Sites A) (from : ℕ)
      → sites_in_bodies p site (choices_in (drop i arms)) from ≡ sites_in p site (process_of a.body) from
      ++ sites_in_bodies p site (choices_in (drop (i + 1) arms)) (from + size_of p (process_of a.body))
  body_sites_here site from = ap (λ cs. sites_in_bodies p site cs from) (arm_at arms i a within is)

  pub guard_rules_here : (request from : ℕ) → guards_rules p (choices_in (drop i arms)) request from
      ≡ formula_rules (bits_at p) (formula_of a.guard) request from
      ++ guards_rules p (choices_in (drop (i + 1) arms)) request (from + formula_size (formula_of a.guard))
  guard_rules_here request from = ap (λ cs. guards_rules p cs request from) (arm_at arms i a within is)

  pub guard_pairs_here : (from : ℕ) → guard_pairs (choices_in (drop i arms)) from
      ≡ formula_result (formula_of a.guard) from ++ guard_pairs (choices_in (drop (i + 1) arms)) (from + formula_size (formula_of a.guard))
  guard_pairs_here from = ap (λ cs. guard_pairs cs from) (arm_at arms i a within is)

-- no arm is left
module _ (p : TypedProgram) (arms : List TArm) (i : ℕ) (all : length arms ≤ i) where
  pub body_rules_end : (start from : ℕ) → bodies_rules p (choices_in (drop i arms)) start from ≡ []
  body_rules_end start from = ap (λ cs. bodies_rules p cs start from) (no_more_arms arms i all)

  pub body_answers_end : (from : ℕ) → branch_answers p (choices_in (drop i arms)) from ≡ []
  body_answers_end from = ap (λ cs. branch_answers p cs from) (no_more_arms arms i all)

  pub body_sites_end : {A : Type 0} (site : Sites A) (from : ℕ) → sites_in_bodies p site (choices_in (drop i arms)) from ≡ []
  body_sites_end site from = ap (λ cs. sites_in_bodies p site cs from) (no_more_arms arms i all)

  pub guard_rules_end : (request from : ℕ) → guards_rules p (choices_in (drop i arms)) request from ≡ []
  guard_rules_end request from = ap (λ cs. guards_rules p cs request from) (no_more_arms arms i all)

  pub guard_pairs_end : (from : ℕ) → guard_pairs (choices_in (drop i arms)) from ≡ []
  guard_pairs_end from = ap (λ cs. guard_pairs cs from) (no_more_arms arms i all)

-- a selection and a guarded repetition differ in how many nodes stand before the latches
pub choosing_sites : {A : Type 0} (p : TypedProgram) (site : Sites A) (again : Bool) (arms : List TArm) (from : ℕ)
    → sites_in p site (choosing again (choices_in arms)) from ≡ sites_in_bodies p site (choices_in arms) (bodies_from (choices_in arms) (own_before again) from)
choosing_sites p site true arms from = refl
choosing_sites p site false arms from = refl
