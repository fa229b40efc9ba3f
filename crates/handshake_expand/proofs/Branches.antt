-- Parallel compositions and selections, branch by branch.
use Rattle.std.proofs.Common.{◌≡◌, ℕ, ◌+◌, ◌*◌, ◌<◌, ◌≤◌, Bool, true, false, List, [], ◌++◌, length, get_or, drop, refl, sym, ap, ◌∙◌, subst, arith, append_assoc}
use Rattle.std.proofs.lemmas.List.{append-nil}
use Rattle.chp_base.specs.declared.channel.Channel.{Channel}
use Rattle.width_check.specs.declared.typed.Var.{Var}
use Rattle.width_check.specs.declared.typed.TStmt.{TStmt}
use Rattle.width_check.specs.declared.typed.TArm.{TArm}
use Rattle.width_check.specs.Processes.{choosing, Processes, member_count, Choices, no_choices, and_choice, choice_count, TypedProgram}
use Rattle.width_check.specs.Typing.{IsProcess, AreChoices}
use Rattle.width_check.specs.View.{process_of, members_in, choices_in}
use Rattle.handshake_expand.specs.Layout.{size_of, branches_size, guards_size, bodies_size}
use Rattle.handshake_expand.specs.Answers.{bodies_from}
use Rattle.handshake_expand.specs.PartTree.{no_children, and_child, expanded, expanded_branches, expanded_bodies, own_before, HasFormedGuards}
use Rattle.handshake_expand.specs.Sites.{Sites, sites_in, sites_in_branches, sites_in_bodies}
use Rattle.handshake_expand.proofs.Rows.{member_at, no_more_members, arm_at, no_more_arms, branches_are}

-- a branch, and those behind it
module _ (p : TypedProgram) (ss : List TStmt) (i : ℕ) (s : TStmt) (within : i < length ss) (is : s ≡ get_or ss i s) where
  pub branch_size_here : branches_size p (members_in (drop i ss)) ≡ 3 + size_of p (process_of s) + branches_size p (members_in (drop (i + 1) ss))
  branch_size_here = ap (branches_size p) (member_at ss i s within is)

  pub branch_expanded_here : (from : ℕ) → expanded_branches p (members_in (drop i ss)) from ≡ and_child (expanded p (process_of s) from (from + 3))
      (expanded_branches p (members_in (drop (i + 1) ss)) (from + 3 + size_of p (process_of s)))
  branch_expanded_here from = ap (λ ms. expanded_branches p ms from) (member_at ss i s within is)

  pub branch_sites_here : {A : Type 0} (site : Sites A) (from : ℕ) →
      sites_in_branches p site (members_in (drop i ss)) from ≡ sites_in p site (process_of s) (from + 3)
      ++ sites_in_branches p site (members_in (drop (i + 1) ss)) (from + 3 + size_of p (process_of s))
  branch_sites_here site from = ap (λ ms. sites_in_branches p site ms from) (member_at ss i s within is)

-- no branch is left
module _ (p : TypedProgram) (ss : List TStmt) (i : ℕ) (all : length ss ≤ i) where
  pub branch_size_end : branches_size p (members_in (drop i ss)) ≡ 0
  branch_size_end = ap (branches_size p) (no_more_members ss i all)

  pub branch_expanded_end : (from : ℕ) → expanded_branches p (members_in (drop i ss)) from ≡ no_children
  branch_expanded_end from = ap (λ ms. expanded_branches p ms from) (no_more_members ss i all)

-- an arm, and those behind it
module _ (p : TypedProgram) (arms : List TArm) (i : ℕ) (a : TArm) (within : i < length arms) (is : a ≡ get_or arms i a) where
  pub body_size_here : bodies_size p (choices_in (drop i arms)) ≡ size_of p (process_of a.body) + bodies_size p (choices_in (drop (i + 1) arms))
  body_size_here = ap (bodies_size p) (arm_at arms i a within is)

  pub body_expanded_here : (start from : ℕ) →
      expanded_bodies p (choices_in (drop i arms)) start from ≡ and_child (expanded p (process_of a.body) start from)
      (expanded_bodies p (choices_in (drop (i + 1) arms)) (start + 1) (from + size_of p (process_of a.body)))
  body_expanded_here start from = ap (λ cs. expanded_bodies p cs start from) (arm_at arms i a within is)

  pub body_sites_here : {A : Type 0} (site : Sites A) (from : ℕ) →
      sites_in_bodies p site (choices_in (drop i arms)) from ≡ sites_in p site (process_of a.body) from
      ++ sites_in_bodies p site (choices_in (drop (i + 1) arms)) (from + size_of p (process_of a.body))
  body_sites_here site from = ap (λ cs. sites_in_bodies p site cs from) (arm_at arms i a within is)

  pub arm_typed : (channels : List Channel) (vars : List Var) → AreChoices channels vars (choices_in (drop i arms)) →
      IsProcess channels vars (process_of a.body)
      × AreChoices channels vars (choices_in (drop (i + 1) arms))
  arm_typed channels vars h = let facts = subst (AreChoices channels vars) (arm_at arms i a within is) h in (facts.1, facts.2)

-- no arm is left
module _ (p : TypedProgram) (arms : List TArm) (i : ℕ) (all : length arms ≤ i) where
  pub body_size_end : bodies_size p (choices_in (drop i arms)) ≡ 0
  body_size_end = ap (bodies_size p) (no_more_arms arms i all)

  pub body_expanded_end : (start from : ℕ) → expanded_bodies p (choices_in (drop i arms)) start from ≡ no_children
  body_expanded_end start from = ap (λ cs. expanded_bodies p cs start from) (no_more_arms arms i all)

  pub body_sites_end : {A : Type 0} (site : Sites A) (from : ℕ) → sites_in_bodies p site (choices_in (drop i arms)) from ≡ []
  body_sites_end site from = ap (λ cs. sites_in_bodies p site cs from) (no_more_arms arms i all)

-- a selection and a guarded repetition differ in how many nodes stand before the latches
pub choosing_sites : {A : Type 0} (p : TypedProgram) (site : Sites A) (again : Bool) (cs : Choices) (from : ℕ) →
    sites_in p site (choosing again cs) from ≡ sites_in_bodies p site cs (bodies_from cs (own_before again) from)
choosing_sites p site true cs from = refl
choosing_sites p site false cs from = refl

pub choosing_size : (p : TypedProgram) (again : Bool) (cs : Choices) → size_of p (choosing again cs) ≡ own_before again + 2 * choice_count cs + guards_size cs +
    bodies_size p cs
choosing_size p true cs = omega arith
choosing_size p false cs = omega arith

pub guards_formed : (channels : List Channel) (vars : List Var) (cs : Choices) → AreChoices channels vars cs → HasFormedGuards cs
guards_formed channels vars no_choices h = tt
guards_formed channels vars (and_choice g s more) h = (h.0.formed, guards_formed channels vars more h.2)

-- a Q-element of three nodes for each branch
pub three_each : (p : TypedProgram) (ms : Processes) → 3 * member_count ms ≤ branches_size p ms
three_each p ms = omega (arith, branches_are p ms)

-- sites behind sites
pub sites_more : {A : Type 0} (old new first rest before all : List A) → new ≡ old ++ first → before ≡ first ++ rest → old ++ before ≡ all → new ++ rest ≡ all
sites_more old new first rest before all noted step so_far =
    ap (λ xs. xs ++ rest) noted ∙ (append_assoc old first rest ∙ (ap (λ xs. old ++ xs) (sym step) ∙ so_far))

pub sites_done : {A : Type 0} (now rest all : List A) → rest ≡ [] → now ++ rest ≡ all → now ≡ all
sites_done now rest all none so_far = sym (append-nil now) ∙ (ap (λ xs. now ++ xs) (sym none) ∙ so_far)
