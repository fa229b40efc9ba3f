-- A statement with receives that are rerouted, over the longer declarations.
use Rattle.std.proofs.Common.{◌≡◌, ◌⊎◌, ℕ, Bool, true, false, List, [], ◌∷◌, ◌++◌, refl, sym, ap, ◌∙◌, subst, inl, inr, ⊎_elim}
use Rattle.std.specs.Prelude.{if◌then◌else◌, ◌||◌}
use Rattle.std.specs.Str.{bytes_eq}
use Rattle.std.proofs.lemmas.Slice.Eq.{bytes_eq-Decides}
use Rattle.chp_syntax.specs.declared.tree.Decl.{Decl}
use Rattle.chp_syntax.specs.declared.tree.Ident.{Ident}
use Rattle.chp_syntax.specs.Trees as plain
use Rattle.chp_syntax.specs.Trees.{Expression, Statement, skips, assigns, sends, receives, follows, besides, selects, repeats, calls, Statements, Arms, no_arms, and_arm}
use Rattle.width_check.specs.Places.{sent_on, received_on, written, Use, use_of, reads_in, uses_in, uses_in_each, uses_in_arms, Expected, expect, expressions_in, expressions_in_each, expressions_in_arms, Reception, receptions_in, receptions_in_each, receptions_in_arms}
use Rattle.width_check.specs.Calls.{has_call, some_has_call, arm_has_call}
use Rattle.chp_meaning.specs.Fitting.{In}
use Rattle.chp_meaning.proofs.Places.{in_left, in_right, in_either}
use Rattle.slack_buffer.specs.BufferedTrees.{rerouted_statement, rerouted_statements, rerouted_arms}
use Rattle.slack_buffer.proofs.Longer.{Known, known_left, known_right, width_kept}

-- uses

abbrev IsCopyUse : List ℕ → Use → Type 0
IsCopyUse copy u = (u.name ≡ copy) × (u.role ≡ received_on)

abbrev ComesFromUses : List ℕ → List Use → List Use → Type 0
ComesFromUses copy us vs = (u : Use) → In us u → In vs u ⊎ IsCopyUse copy u

same_uses : (copy : List ℕ) (us : List Use) → ComesFromUses copy us us
same_uses copy us u i = inl i

both_uses : (copy : List ℕ) (us us' vs vs' : List Use) → ComesFromUses copy us vs → ComesFromUses copy us' vs' → ComesFromUses copy (us ++ us') (vs ++ vs')
both_uses copy us us' vs vs' f g u i =
    ⊎_elim (λ j. ⊎_elim (λ k. inl (in_left vs vs' u k)) (λ k. inr k) (f u j)) (λ j. ⊎_elim (λ k. inl (in_right vs vs' u k)) (λ k. inr k) (g u j))
    (in_either us us' u i)

receive_uses : (chan copy : List ℕ) (on target : Ident) →
    ComesFromUses copy (uses_in (rerouted_statement chan copy (receives on target))) (uses_in (receives on target))
receive_uses chan copy on target u (inr i) = inl (inr i)
receive_uses chan copy on target u (inl same) = by_test (bytes_eq on.name chan) same
  where
    by_test : (b : Bool) → use_of (if b then record { name = copy; at = on.at } else on) received_on ≡ u →
        In (uses_in (receives on target)) u ⊎ IsCopyUse copy u
    by_test false e = inl (inl e)
    by_test true e = inr (sym (ap (λ (v : Use). v.name) e), sym (ap (λ (v : Use). v.role) e))

mutual
  pub uses_come : (chan copy : List ℕ) (s : Statement) → ComesFromUses copy (uses_in (rerouted_statement chan copy s)) (uses_in s)
  uses_come chan copy (skips at) = same_uses copy []
  uses_come chan copy (assigns target e) = same_uses copy (uses_in (assigns target e))
  uses_come chan copy (sends on e) = same_uses copy (uses_in (sends on e))
  uses_come chan copy (receives on target) = receive_uses chan copy on target
  uses_come chan copy (follows members) = each_uses_come chan copy members
  uses_come chan copy (besides members) = each_uses_come chan copy members
  uses_come chan copy (selects again arms) = arm_uses_come chan copy arms
  uses_come chan copy (repeats s) = uses_come chan copy s
  uses_come chan copy (calls of) = same_uses copy []

  each_uses_come : (chan copy : List ℕ) (members : Statements) →
      ComesFromUses copy (uses_in_each (rerouted_statements chan copy members)) (uses_in_each members)
  each_uses_come chan copy plain.no_members = same_uses copy []
  each_uses_come chan copy (plain.and_member s more) =
      both_uses copy (uses_in (rerouted_statement chan copy s)) (uses_in_each (rerouted_statements chan copy more)) (uses_in s) (uses_in_each more)
      (uses_come chan copy s) (each_uses_come chan copy more)

  arm_uses_come : (chan copy : List ℕ) (arms : Arms) → ComesFromUses copy (uses_in_arms (rerouted_arms chan copy arms)) (uses_in_arms arms)
  arm_uses_come chan copy no_arms = same_uses copy []
  arm_uses_come chan copy (and_arm g s more) =
      both_uses copy (reads_in g) (uses_in (rerouted_statement chan copy s) ++ uses_in_arms (rerouted_arms chan copy more)) (reads_in g) (uses_in s
      ++ uses_in_arms more)
      (same_uses copy (reads_in g))
      (both_uses copy (uses_in (rerouted_statement chan copy s)) (uses_in_arms (rerouted_arms chan copy more)) (uses_in s) (uses_in_arms more)
      (uses_come chan copy s) (arm_uses_come chan copy more))

-- receives

pub record IsSameReception (chan copy : List ℕ) (r q : Reception) : Type 0 where
  pub target : r.target ≡ q.target
  pub chan_is : (r.chan ≡ q.chan) ⊎ ((q.chan.name ≡ chan) × (r.chan.name ≡ copy))

abbrev ComesFromReceptions : (chan copy : List ℕ) → List Reception → List Reception → Type 0
ComesFromReceptions chan copy rs qs = (r : Reception) → In rs r → (q : Reception) × In qs q × IsSameReception chan copy r q

both_receptions : (chan copy : List ℕ) (rs rs' qs qs' : List Reception) → ComesFromReceptions chan copy rs qs → ComesFromReceptions chan copy rs' qs' →
    ComesFromReceptions chan copy (rs ++ rs') (qs ++ qs')
both_receptions chan copy rs rs' qs qs' f g r i =
    ⊎_elim (λ j. let x = f r j in (x.0, in_left qs qs' x.0 x.1, x.2)) (λ j. let x = g r j in (x.0, in_right qs qs' x.0 x.1, x.2)) (in_either rs rs' r i)

one_reception : (chan copy : List ℕ) (on target : Ident) →
    ComesFromReceptions chan copy (receptions_in (rerouted_statement chan copy (receives on target))) (receptions_in (receives on target))
one_reception chan copy on target r (inr i) = absurd i
one_reception chan copy on target r (inl same) = (
  record { chan = on; target = target },
  inl refl,
  record { target = sym (ap (λ (x : Reception). x.target) same); chan_is = by_test (bytes_eq on.name chan) refl (ap (λ (x : Reception). x.chan) same) },
)
  where
    by_test : (b : Bool) → bytes_eq on.name chan ≡ b → (if b then record { name = copy; at = on.at } else on) ≡ r.chan →
        (r.chan ≡ on) ⊎ ((on.name ≡ chan) × (r.chan.name ≡ copy))
    by_test false e f = inl (sym f)
    by_test true e f = inr ((bytes_eq-Decides on.name chan).0 e, sym (ap (λ (x : Ident). x.name) f))

no_reception : (chan copy : List ℕ) → ComesFromReceptions chan copy [] []
no_reception chan copy r i = absurd i

mutual
  pub receptions_come : (chan copy : List ℕ) (s : Statement) → ComesFromReceptions chan copy (receptions_in (rerouted_statement chan copy s)) (receptions_in s)
  receptions_come chan copy (skips at) = no_reception chan copy
  receptions_come chan copy (assigns target e) = no_reception chan copy
  receptions_come chan copy (sends on e) = no_reception chan copy
  receptions_come chan copy (receives on target) = one_reception chan copy on target
  receptions_come chan copy (follows members) = each_receptions_come chan copy members
  receptions_come chan copy (besides members) = each_receptions_come chan copy members
  receptions_come chan copy (selects again arms) = arm_receptions_come chan copy arms
  receptions_come chan copy (repeats s) = receptions_come chan copy s
  receptions_come chan copy (calls of) = no_reception chan copy

  each_receptions_come : (chan copy : List ℕ) (members : Statements) →
      ComesFromReceptions chan copy (receptions_in_each (rerouted_statements chan copy members)) (receptions_in_each members)
  each_receptions_come chan copy plain.no_members = no_reception chan copy
  each_receptions_come chan copy (plain.and_member s more) =
      both_receptions chan copy (receptions_in (rerouted_statement chan copy s)) (receptions_in_each (rerouted_statements chan copy more)) (receptions_in s)
      (receptions_in_each more) (receptions_come chan copy s) (each_receptions_come chan copy more)

  arm_receptions_come : (chan copy : List ℕ) (arms : Arms) →
      ComesFromReceptions chan copy (receptions_in_arms (rerouted_arms chan copy arms)) (receptions_in_arms arms)
  arm_receptions_come chan copy no_arms = no_reception chan copy
  arm_receptions_come chan copy (and_arm g s more) =
      both_receptions chan copy (receptions_in (rerouted_statement chan copy s)) (receptions_in_arms (rerouted_arms chan copy more)) (receptions_in s)
      (receptions_in_arms more) (receptions_come chan copy s) (arm_receptions_come chan copy more)

-- no call comes in

mutual
  pub calls_kept : (chan copy : List ℕ) (s : Statement) → has_call (rerouted_statement chan copy s) ≡ has_call s
  calls_kept chan copy (skips at) = refl
  calls_kept chan copy (assigns target e) = refl
  calls_kept chan copy (sends on e) = refl
  calls_kept chan copy (receives on target) = refl
  calls_kept chan copy (follows members) = each_calls_kept chan copy members
  calls_kept chan copy (besides members) = each_calls_kept chan copy members
  calls_kept chan copy (selects again arms) = arm_calls_kept chan copy arms
  calls_kept chan copy (repeats s) = calls_kept chan copy s
  calls_kept chan copy (calls of) = refl

  each_calls_kept : (chan copy : List ℕ) (members : Statements) → some_has_call (rerouted_statements chan copy members) ≡ some_has_call members
  each_calls_kept chan copy plain.no_members = refl
  each_calls_kept chan copy (plain.and_member s more) =
      ap (λ b. b || some_has_call (rerouted_statements chan copy more)) (calls_kept chan copy s) ∙ ap (λ b. has_call s || b) (each_calls_kept chan copy more)

  arm_calls_kept : (chan copy : List ℕ) (arms : Arms) → arm_has_call (rerouted_arms chan copy arms) ≡ arm_has_call arms
  arm_calls_kept chan copy no_arms = refl
  arm_calls_kept chan copy (and_arm g s more) =
      ap (λ b. b || arm_has_call (rerouted_arms chan copy more)) (calls_kept chan copy s) ∙ ap (λ b. has_call s || b) (arm_calls_kept chan copy more)

-- expressions, with what is expected of them

mutual
  pub expressions_kept : (ds es : List Decl) (chan copy : List ℕ) (s : Statement) → Known ds (uses_in s) →
      expressions_in (ds ++ es) (rerouted_statement chan copy s) ≡ expressions_in ds s
  expressions_kept ds es chan copy (skips at) h = refl
  expressions_kept ds es chan copy (assigns target e) h = ap (λ w. expect e w ∷ []) (width_kept ds es target.name true (h (use_of target written) (inl refl)))
  expressions_kept ds es chan copy (sends on e) h = ap (λ w. expect e w ∷ []) (width_kept ds es on.name false (h (use_of on sent_on) (inl refl)))
  expressions_kept ds es chan copy (receives on target) h = refl
  expressions_kept ds es chan copy (follows members) h = each_expressions_kept ds es chan copy members h
  expressions_kept ds es chan copy (besides members) h = each_expressions_kept ds es chan copy members h
  expressions_kept ds es chan copy (selects again arms) h = arm_expressions_kept ds es chan copy arms h
  expressions_kept ds es chan copy (repeats s) h = expressions_kept ds es chan copy s h
  expressions_kept ds es chan copy (calls of) h = refl

  each_expressions_kept : (ds es : List Decl) (chan copy : List ℕ) (members : Statements) → Known ds (uses_in_each members) →
      expressions_in_each (ds ++ es) (rerouted_statements chan copy members) ≡ expressions_in_each ds members
  each_expressions_kept ds es chan copy plain.no_members h = refl
  each_expressions_kept ds es chan copy (plain.and_member s more) h =
      ap (λ xs. xs ++ expressions_in_each (ds ++ es) (rerouted_statements chan copy more)) (expressions_kept ds es chan copy s (known_left ds (uses_in s)
      (uses_in_each more) h))
      ∙ ap (λ xs. expressions_in ds s ++ xs) (each_expressions_kept ds es chan copy more (known_right ds (uses_in s) (uses_in_each more) h))

  arm_expressions_kept : (ds es : List Decl) (chan copy : List ℕ) (arms : Arms) → Known ds (uses_in_arms arms) →
      expressions_in_arms (ds ++ es) (rerouted_arms chan copy arms) ≡ expressions_in_arms ds arms
  arm_expressions_kept ds es chan copy no_arms h = refl
  arm_expressions_kept ds es chan copy (and_arm g s more) h =
      let rest = known_right ds (reads_in g) (uses_in s ++ uses_in_arms more) h in
      ap (λ xs. expect g 1 ∷ (xs ++ expressions_in_arms (ds ++ es) (rerouted_arms chan copy more)))
      (expressions_kept ds es chan copy s (known_left ds (uses_in s)
      (uses_in_arms more) rest))
      ∙ ap (λ xs. expect g 1 ∷ (expressions_in ds s ++ xs)) (arm_expressions_kept ds es chan copy more (known_right ds (uses_in s) (uses_in_arms more) rest))

-- they read what the statement does

mutual
  pub expression_known : (ds : List Decl) (s : Statement) (x : Expected) → Known ds (uses_in s) → In (expressions_in ds s) x → Known ds (reads_in x.expression)
  expression_known ds (skips at) x h i = absurd i
  expression_known ds (assigns target e) x h (inl same) =
      subst (λ (z : Expected). Known ds (reads_in z.expression)) same (λ u j. h u (inr j))
  expression_known ds (assigns target e) x h (inr i) = absurd i
  expression_known ds (sends on e) x h (inl same) = subst (λ (z : Expected). Known ds (reads_in z.expression)) same (λ u j. h u (inr j))
  expression_known ds (sends on e) x h (inr i) = absurd i
  expression_known ds (receives on target) x h i = absurd i
  expression_known ds (follows members) x h i = each_expression_known ds members x h i
  expression_known ds (besides members) x h i = each_expression_known ds members x h i
  expression_known ds (selects again arms) x h i = arm_expression_known ds arms x h i
  expression_known ds (repeats s) x h i = expression_known ds s x h i
  expression_known ds (calls of) x h i = absurd i

  each_expression_known : (ds : List Decl) (members : Statements) (x : Expected) → Known ds (uses_in_each members) → In (expressions_in_each ds members) x →
      Known ds (reads_in x.expression)
  each_expression_known ds plain.no_members x h i = absurd i
  each_expression_known ds (plain.and_member s more) x h i =
      ⊎_elim (λ j. expression_known ds s x (known_left ds (uses_in s) (uses_in_each more) h) j)
      (λ j. each_expression_known ds more x (known_right ds (uses_in s) (uses_in_each more) h) j)
      (in_either (expressions_in ds s) (expressions_in_each ds more) x i)

  arm_expression_known : (ds : List Decl) (arms : Arms) (x : Expected) → Known ds (uses_in_arms arms) → In (expressions_in_arms ds arms) x →
      Known ds (reads_in x.expression)
  arm_expression_known ds no_arms x h i = absurd i
  arm_expression_known ds (and_arm g s more) x h (inl same) =
      subst (λ (z : Expected). Known ds (reads_in z.expression)) same (known_left ds (reads_in g) (uses_in s ++ uses_in_arms more) h)
  arm_expression_known ds (and_arm g s more) x h (inr i) =
      let rest = known_right ds (reads_in g) (uses_in s ++ uses_in_arms more) h in
      ⊎_elim (λ j. expression_known ds s x (known_left ds (uses_in s) (uses_in_arms more) rest) j)
      (λ j. arm_expression_known ds more x (known_right ds (uses_in s) (uses_in_arms more) rest) j)
      (in_either (expressions_in ds s) (expressions_in_arms ds more) x i)
