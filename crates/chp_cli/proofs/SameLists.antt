-- What is in a program, and what is in it without its places: names, expressions, leaves and receives.
use Rattle.std.proofs.Common.{◌≡◌, ℕ, Bool, true, false, List, [], ◌∷◌, ◌++◌, map, refl, sym, ap, ◌∙◌}
use Rattle.std.specs.Prelude.{if◌then◌else◌, unwrap_or, flat_map}
use Rattle.std.proofs.lemmas.List.{map-append}
use Rattle.chp_syntax.specs.declared.tree.Decl.{Decl}
use Rattle.chp_syntax.specs.Trees as plain
use Rattle.chp_syntax.specs.Trees.{Expression, number, whole, slice, bit, join, negation, chain, Expressions, Links, no_links, and_link, Statement, skips, assigns, sends, receives, follows, besides, selects, repeats, calls, Statements, Arms, no_arms, and_arm, ProgramTree}
use Rattle.call_merge.specs.CallSites.{no_place}
use Rattle.width_check.specs.Places.{sent_on, written, Use, use_of, reads_in, reads_in_join, reads_in_links, uses_in, uses_in_each, uses_in_arms, compares, or_width, own_width, first_width, Expected, expect, leaves, leaves_of_parts, leaves_of_links, expressions_in, expressions_in_each, expressions_in_arms, inside, inside_parts, inside_links, Reception, receptions_in, receptions_in_each, receptions_in_arms}
use Rattle.width_check.specs.Faults.{all_expressions, all_leaves}
use Rattle.chp_cli.specs.Unplaced.{unplaced_name, unplaced_expression, unplaced_parts, unplaced_links, unplaced_statement, unplaced_members, unplaced_arms, unplaced_decl, unplaced}
use Rattle.chp_cli.proofs.SameForms.{compares_same, own_same, side_same, declared_same}

abbrev pub unplaced_use : Use → Use
unplaced_use u = record { name = u.name; at = no_place; role = u.role }

abbrev pub unplaced_expected : Expected → Expected
unplaced_expected l = expect (unplaced_expression l.expression) l.width

abbrev pub unplaced_reception : Reception → Reception
unplaced_reception r = record { chan = unplaced_name r.chan; target = unplaced_name r.target }

-- two parts of a list
pub both_same : {X : Type 0} (f : X → X) (xs ys ls rs : List X) → ls ≡ map f xs → rs ≡ map f ys → ls ++ rs ≡ map f (xs ++ ys)
both_same f xs ys ls rs left right = ap (λ l. l ++ rs) left ∙ (ap (λ l. map f xs ++ l) right ∙ sym (map-append f xs ys))

-- names

mutual
  pub reads_same : (e : Expression) → reads_in (unplaced_expression e) ≡ map unplaced_use (reads_in e)
  reads_same (number n at) = refl
  reads_same (whole of) = refl
  reads_same (slice of high low at) = refl
  reads_same (bit of place at) = refl
  reads_same (join parts at) = reads_of_parts parts
  reads_same (negation e at) = reads_same e
  reads_same (chain e more at) = both_same unplaced_use (reads_in e) (reads_in_links more) _ _ (reads_same e) (reads_of_links more)

  reads_of_parts : (parts : Expressions) → reads_in_join (unplaced_parts parts) ≡ map unplaced_use (reads_in_join parts)
  reads_of_parts plain.no_parts = refl
  reads_of_parts (plain.and_part e more) = both_same unplaced_use (reads_in e) (reads_in_join more) _ _ (reads_same e) (reads_of_parts more)

  reads_of_links : (more : Links) → reads_in_links (unplaced_links more) ≡ map unplaced_use (reads_in_links more)
  reads_of_links no_links = refl
  reads_of_links (and_link op e more) = both_same unplaced_use (reads_in e) (reads_in_links more) _ _ (reads_same e) (reads_of_links more)

mutual
  pub uses_same : (s : Statement) → uses_in (unplaced_statement s) ≡ map unplaced_use (uses_in s)
  uses_same (skips at) = refl
  uses_same (assigns target e) = ap (λ l. unplaced_use (use_of target written) ∷ l) (reads_same e)
  uses_same (sends chan e) = ap (λ l. unplaced_use (use_of chan sent_on) ∷ l) (reads_same e)
  uses_same (receives chan target) = refl
  uses_same (follows members) = uses_of_each members
  uses_same (besides members) = uses_of_each members
  uses_same (selects again arms) = uses_of_arms arms
  uses_same (repeats s) = uses_same s
  uses_same (calls of) = refl

  uses_of_each : (members : Statements) → uses_in_each (unplaced_members members) ≡ map unplaced_use (uses_in_each members)
  uses_of_each plain.no_members = refl
  uses_of_each (plain.and_member s more) = both_same unplaced_use (uses_in s) (uses_in_each more) _ _ (uses_same s) (uses_of_each more)

  uses_of_arms : (arms : Arms) → uses_in_arms (unplaced_arms arms) ≡ map unplaced_use (uses_in_arms arms)
  uses_of_arms no_arms = refl
  uses_of_arms (and_arm g s more) =
      both_same unplaced_use (reads_in g) (uses_in s ++ uses_in_arms more) _ _ (reads_same g)
      (both_same unplaced_use (uses_in s) (uses_in_arms more) _ _ (uses_same s) (uses_of_arms more))

-- receives

mutual
  pub receptions_same : (s : Statement) → receptions_in (unplaced_statement s) ≡ map unplaced_reception (receptions_in s)
  receptions_same (skips at) = refl
  receptions_same (assigns target e) = refl
  receptions_same (sends chan e) = refl
  receptions_same (receives chan target) = refl
  receptions_same (follows members) = receptions_of_each members
  receptions_same (besides members) = receptions_of_each members
  receptions_same (selects again arms) = receptions_of_arms arms
  receptions_same (repeats s) = receptions_same s
  receptions_same (calls of) = refl

  receptions_of_each : (members : Statements) → receptions_in_each (unplaced_members members) ≡ map unplaced_reception (receptions_in_each members)
  receptions_of_each plain.no_members = refl
  receptions_of_each (plain.and_member s more) =
      both_same unplaced_reception (receptions_in s) (receptions_in_each more) _ _ (receptions_same s) (receptions_of_each more)

  receptions_of_arms : (arms : Arms) → receptions_in_arms (unplaced_arms arms) ≡ map unplaced_reception (receptions_in_arms arms)
  receptions_of_arms no_arms = refl
  receptions_of_arms (and_arm g s more) =
      both_same unplaced_reception (receptions_in s) (receptions_in_arms more) _ _ (receptions_same s) (receptions_of_arms more)

-- expressions inside of others

mutual
  inside_same : (e : Expression) → inside (unplaced_expression e) ≡ map unplaced_expression (inside e)
  inside_same (number n at) = refl
  inside_same (whole of) = refl
  inside_same (slice of high low at) = refl
  inside_same (bit of place at) = refl
  inside_same (join parts at) = ap (λ l. unplaced_expression (join parts at) ∷ l) (inside_of_parts parts)
  inside_same (negation e at) = ap (λ l. unplaced_expression (negation e at) ∷ l) (inside_same e)
  inside_same (chain e more at) =
      ap (λ l. unplaced_expression (chain e more at) ∷ l)
      (both_same unplaced_expression (inside e) (inside_links more) _ _ (inside_same e) (inside_of_links more))

  inside_of_parts : (parts : Expressions) → inside_parts (unplaced_parts parts) ≡ map unplaced_expression (inside_parts parts)
  inside_of_parts plain.no_parts = refl
  inside_of_parts (plain.and_part e more) =
      both_same unplaced_expression (inside e) (inside_parts more) _ _ (inside_same e) (inside_of_parts more)

  inside_of_links : (more : Links) → inside_links (unplaced_links more) ≡ map unplaced_expression (inside_links more)
  inside_of_links no_links = refl
  inside_of_links (and_link op e more) =
      both_same unplaced_expression (inside e) (inside_links more) _ _ (inside_same e) (inside_of_links more)

module _ (ds : List Decl) where
  abbrev us : List Decl
  us = map unplaced_decl ds

  -- leaves

  abbrev chain_leaves : List Decl → (w v : ℕ) → Bool → Expression → Links → (at : Expression) → List Expected
  chain_leaves decls w v b e more at =
      if b then expect at w ∷ (leaves decls v e ++ leaves_of_links decls v more) else leaves decls w e ++ leaves_of_links decls w more

  chain_leaves_same : (w v : ℕ) (b : Bool) (e : Expression) (more : Links) (at : Expression)
      → ((v : ℕ) → leaves us v (unplaced_expression e) ≡ map unplaced_expected (leaves ds v e))
      → ((v : ℕ) → leaves_of_links us v (unplaced_links more) ≡ map unplaced_expected (leaves_of_links ds v more))
      → chain_leaves us w v b (unplaced_expression e) (unplaced_links more) (unplaced_expression at) ≡ map unplaced_expected (chain_leaves ds w v b e more at)
  chain_leaves_same w v true e more at first rest =
      ap (λ l. expect (unplaced_expression at) w ∷ l)
      (both_same unplaced_expected (leaves ds v e) (leaves_of_links ds v more) _ _ (first v) (rest v))
  chain_leaves_same w v false e more at first rest =
      both_same unplaced_expected (leaves ds w e) (leaves_of_links ds w more) _ _ (first w) (rest w)

  mutual
    leaves_same : (w : ℕ) (e : Expression) → leaves us w (unplaced_expression e) ≡ map unplaced_expected (leaves ds w e)
    leaves_same w (number n at) = refl
    leaves_same w (whole of) = refl
    leaves_same w (slice of high low at) = refl
    leaves_same w (bit of place at) = refl
    leaves_same w (join parts at) = ap (λ l. expect (unplaced_expression (join parts at)) w ∷ l) (leaves_same_parts parts)
    leaves_same w (negation e at) = leaves_same w e
    leaves_same w (chain e more at) =
        ap (λ b. chain_leaves us w (unwrap_or (or_width (own_width us (unplaced_expression e)) (first_width us (unplaced_links more))) 0) b
        (unplaced_expression e) (unplaced_links more) (unplaced_expression (chain e more at))) (compares_same more)
        ∙ (ap (λ v. chain_leaves us w (unwrap_or v 0) (compares more) (unplaced_expression e) (unplaced_links more)
        (unplaced_expression (chain e more at))) (side_same ds e more)
        ∙ chain_leaves_same w (unwrap_or (or_width (own_width ds e) (first_width ds more)) 0) (compares more) e more (chain e more at)
        (λ v. leaves_same v e) (λ v. leaves_same_links v more))

    leaves_same_parts : (parts : Expressions) → leaves_of_parts us (unplaced_parts parts) ≡ map unplaced_expected (leaves_of_parts ds parts)
    leaves_same_parts plain.no_parts = refl
    leaves_same_parts (plain.and_part e more) =
        both_same unplaced_expected (leaves ds (unwrap_or (own_width ds e) 0) e) (leaves_of_parts ds more) _ _
        (ap (λ w. leaves us (unwrap_or w 0) (unplaced_expression e)) (own_same ds e) ∙ leaves_same (unwrap_or (own_width ds e) 0) e)
        (leaves_same_parts more)

    leaves_same_links : (w : ℕ) (more : Links) → leaves_of_links us w (unplaced_links more) ≡ map unplaced_expected (leaves_of_links ds w more)
    leaves_same_links w no_links = refl
    leaves_same_links w (and_link op e more) =
        both_same unplaced_expected (leaves ds w e) (leaves_of_links ds w more) _ _ (leaves_same w e) (leaves_same_links w more)

  -- expressions of statements

  mutual
    expected_same : (s : Statement) → expressions_in us (unplaced_statement s) ≡ map unplaced_expected (expressions_in ds s)
    expected_same (skips at) = refl
    expected_same (assigns target e) = ap (λ w. expect (unplaced_expression e) w ∷ []) (declared_same ds target.name)
    expected_same (sends chan e) = ap (λ w. expect (unplaced_expression e) w ∷ []) (declared_same ds chan.name)
    expected_same (receives chan target) = refl
    expected_same (follows members) = expected_same_each members
    expected_same (besides members) = expected_same_each members
    expected_same (selects again arms) = expected_same_arms arms
    expected_same (repeats s) = expected_same s
    expected_same (calls of) = refl

    expected_same_each : (members : Statements) → expressions_in_each us (unplaced_members members) ≡ map unplaced_expected (expressions_in_each ds members)
    expected_same_each plain.no_members = refl
    expected_same_each (plain.and_member s more) =
        both_same unplaced_expected (expressions_in ds s) (expressions_in_each ds more) _ _ (expected_same s) (expected_same_each more)

    expected_same_arms : (arms : Arms) → expressions_in_arms us (unplaced_arms arms) ≡ map unplaced_expected (expressions_in_arms ds arms)
    expected_same_arms no_arms = refl
    expected_same_arms (and_arm g s more) =
        ap (λ l. expect (unplaced_expression g) 1 ∷ l)
        (both_same unplaced_expected (expressions_in ds s) (expressions_in_arms ds more) _ _ (expected_same s) (expected_same_arms more))

  inside_each : (es : List Expected) → flat_map (λ (e : Expected). inside e.expression) (map unplaced_expected es)
      ≡ map unplaced_expression (flat_map (λ (e : Expected). inside e.expression) es)
  inside_each [] = refl
  inside_each (e ∷ es) = both_same unplaced_expression (inside e.expression) _ _ _ (inside_same e.expression) (inside_each es)

  leaves_each : (es : List Expected) → flat_map (λ (e : Expected). leaves us e.width e.expression) (map unplaced_expected es)
      ≡ map unplaced_expected (flat_map (λ (e : Expected). leaves ds e.width e.expression) es)
  leaves_each [] = refl
  leaves_each (e ∷ es) = both_same unplaced_expected (leaves ds e.width e.expression) _ _ _ (leaves_same e.width e.expression) (leaves_each es)

pub all_expressions_same : (p : ProgramTree) → all_expressions (unplaced p) ≡ map unplaced_expression (all_expressions p)
all_expressions_same p =
    ap (flat_map (λ (e : Expected). inside e.expression)) (expected_same p.decls p.body) ∙ inside_each p.decls (expressions_in p.decls p.body)

pub all_leaves_same : (p : ProgramTree) → all_leaves (unplaced p) ≡ map unplaced_expected (all_leaves p)
all_leaves_same p =
    ap (flat_map (λ (e : Expected). leaves (map unplaced_decl p.decls) e.width e.expression)) (expected_same p.decls p.body)
    ∙ leaves_each p.decls (expressions_in p.decls p.body)
